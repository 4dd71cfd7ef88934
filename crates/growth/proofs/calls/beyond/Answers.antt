-- `growth::calls::beyond`: the loop keeps that the points passed over change nothing and none of them is refused. Assumes nothing.
use mathlib.Core.Path.{◌≡◌, refl, sym, ◌∙◌, subst}
use Prim.Native.Nat.{◌+◌, ◌*◌, ◌<◌}
use native.Mathlib.Omega.{arith}
use lib.ListN.{length}
use Rattle.growth.specs.Devices.{HeldUntil}
use Rattle.growth.proofs.Held.{held_more}
use Rattle.growth.proofs.Turns.{double-here}
use Rattle.growth.proofs.calls.beyond.Goals as goal

pub loop-k-init : goal.loop-k-init
loop-k-init c = record { held = record { box = refl; bad = refl; from = omega arith; up_to = c.requires.growing.up_to; whole = omega arith }; end = refl }

pub bounds-points-k : goal.bounds-points-k
bounds-points-k c = omega (arith, c.in-Some.ensures.steps.1, c.loop-k.invariant.end, c.requires.last)

pub bounds-points-k-in-Some : goal.bounds-points-k-in-Some
bounds-points-k-in-Some c = omega (arith, c.in-Some.ensures.steps.1, c.loop-k.invariant.end, c.requires.last)

pub returns-then-not-is_held : goal.returns-then-not-is_held
returns-then-not-is_held c =
    let t = c.in-Some.ensures.steps in
    record {
      held = subst (λ k. HeldUntil c.args.points.now (2 * c.args.left.now.start) c.args.q (2 * k)) (sym t.1.1) c.loop-k.invariant.held;
      room = omega (arith, t.1, c.loop-k.invariant.end, c.requires.last);
      start = omega (arith, t.1);
      end = t.0 ∙ c.loop-k.invariant.end;
    }

-- one point more is passed over
pub loop-k-preserved : goal.loop-k-preserved
loop-k-preserved c =
    let l = c.args.points.now in
    let k = c.in-Some.k in
    let t = c.in-Some.ensures.steps in
    let g = c.requires.growing in
    let until = HeldUntil l (2 * c.args.left.now.start) c.args.q in
    let so_far = subst (λ j. until (2 * j)) (sym t.1.1) c.loop-k.invariant.held in
    let room : 2 * k + 1 < length l = omega (arith, t.1, c.loop-k.invariant.end, c.requires.last) in
    let d = double-here l (2 * k) search in
    let more = held_more so_far room g.valid d (sym c.is_held.ensures ∙ c.if-not-is_held.false) g.no_minus in
    let on : 2 * k + 2 ≡ 2 * c.next.new.self.start = omega (arith, t.1) in
    record { held = subst until on more; end = t.0 ∙ c.loop-k.invariant.end }

-- no point is left
pub returns : goal.returns
returns c =
    let u = c.loop-k.invariant in
    let end : 2 * c.loop-k.left.start ≡ length c.args.points.now =
    omega (arith, c.in_default.ensures.steps.1, u.end, u.held.up_to, c.requires.last, c.requires.growing.whole)
    in
    subst (HeldUntil c.args.points.now (2 * c.args.left.now.start) c.args.q) end u.held
