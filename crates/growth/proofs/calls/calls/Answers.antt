-- `growth::calls::calls`: points that are held already are passed over by `beyond`, and a turn makes the call with the one that it finds (proofs/Turns.antt).
-- Assumes nothing.
use mathlib.Core.Path.{◌≡◌, refl, sym, ap, ◌∙◌, subst}
use Prim.Native.Nat.{◌+◌, ◌*◌}
use native.Mathlib.Omega.{arith}
use Rattle.consts.proofs.Codes.{refuses}
use Rattle.s2.specs.Zone.{add}
use Rattle.s2.specs.Reading.{read_point}
use Rattle.growth.specs.Devices.{SoFar}
use Rattle.growth.proofs.Turns.{no-calls-yet, passed_over, double-here, enlarged, counted, all_made}
use Rattle.growth.proofs.calls.calls.Goals as goal

pub loop-k-init : goal.loop-k-init
loop-k-init c = (no-calls-yet c.requires, refl)

-- the one that is found is a point of the list, and so is the first
pub point-requires : goal.point-requires
point-requires c = omega (arith, c.in-Some.ensures.room)

-- one that is accepted enlarges the box
pub loop-k-preserved-in-Ok : goal.loop-k-preserved-in-Ok
loop-k-preserved-in-Ok c =
    let k = c.in-Some.k in
    let f = c.in-Some.ensures in
    let d = double-here c.args.points.now (2 * k) search in
    let x = read_point c.point.result in
    let made = enlarged (passed_over c.loop-k.invariant.0 f.held) f.room d x (ap read_point c.point.ensures) (sym c.in-Ok.ensures.refusal) in
    let box = c.add-q.ensures ∙ ap (add c.loop-k.q) c.in-Ok.ensures.value in
    let on : 2 * k + 2 ≡ 2 * c.beyond.new.left.start = omega (arith, f.start) in
    (rw box (subst (SoFar c.args.points.now c.args.start (add c.loop-k.q x.value) c.loop-k.refused) on made), f.end ∙ c.loop-k.invariant.1)

-- one that is refused is counted
pub loop-k-preserved : goal.loop-k-preserved
loop-k-preserved c =
    let k = c.in-Some.k in
    let f = c.in-Some.ensures in
    let w = c.in-Err in
    let d = double-here c.args.points.now (2 * k) search in
    let x = read_point c.point.result in
    let made = counted (passed_over c.loop-k.invariant.0 f.held) f.room d x (ap read_point c.point.ensures) (λ z. refuses w.field-0 (w.ensures.refusal ∙ z)) in
    let on : 2 * k + 2 ≡ 2 * c.beyond.new.left.start = omega (arith, f.start) in
    (subst (SoFar c.args.points.now c.args.start c.loop-k.q (c.loop-k.refused + 1)) on made, f.end ∙ c.loop-k.invariant.1)

pub returns : goal.returns
returns c = all_made (passed_over c.loop-k.invariant.0 c.in_default.ensures) (omega arith)
