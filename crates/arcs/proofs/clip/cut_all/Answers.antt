-- `arcs::clip::cut_all`: the loop keeps that the pieces written so far, with the cut of those still to come, are the cut of all; and
-- likewise the end. A turn is in proofs/Turns.antt. Assumes nothing.
use mathlib.Core.Path.{◌≡◌, sym, ap, ◌∙◌}
use mathlib.Core.Bool.{Bool, cond}
use mathlib.Core.List.{◌++◌}
use Prim.Native.Nat.{ℕ, ◌+◌, ◌<◌}
use native.Mathlib.Omega.{arith}
use lib.ListN.{length, drop, take, get_or, set}
use lib.Ieee.{Float, nan}
use Rattle.std.proofs.Common.{Some}
use Rattle.s1.specs.Circle.{ends, fast_contains}
use Rattle.arcs.specs.Clipping.{cut}
use Rattle.arcs.proofs.Turns.{turn-cut, turn-end, past-few}
use Rattle.arcs.proofs.clip.cut_all.Goals as goal
use Rattle.arcs.proofs.clip.cut_all.Goals.{then-fast_contains, else-fast_contains}

pub loop-k-preserved : goal.loop-k-preserved
loop-k-preserved c =
    let l = c.loop-k in
    let a = c.args.a in
    let none = ends nan nan in
    let h : l.k < length l.found = omega arith in
    let x = get_or l.found l.k none in
    let y = ends x.lo c.sooner.result in
    let now = set l.found l.n y in
    let r : c.if-fast_contains.end ≡ cond (fast_contains x a.lo) (Some x.hi) l.end =
    elim c.if-fast_contains.branch [
      | then-fast_contains w ↦ w.end-is ∙ ap (λ (t : Bool). cond t (Some x.hi) l.end) (sym w.if-fast_contains.true ∙ c.fast_contains.ensures)
      | else-fast_contains w ↦ w.end-is ∙ ap (λ (t : Bool). cond t (Some x.hi) l.end) (sym w.if-fast_contains.false ∙ c.fast_contains.ensures)
    ] in
    let t = c.fast_contains-in-loop-k in (
      ap (λ (j : ℕ). take j now ++ cut a (drop (l.k + 1) now)) c.past-n.ensures
          ∙ turn-cut l.found l.k l.n none h l.invariant.2 a y t.result t.ensures (ap (λ (e : Float). ends x.lo e) c.sooner.ensures) ∙ l.invariant.0,
      turn-end l.found l.k l.n none h l.invariant.2 y a.lo l.end c.if-fast_contains.end r ∙ l.invariant.1,
      past-few t.result l.n l.k c.past-n.result l.invariant.2 c.past-n.ensures,
    )
