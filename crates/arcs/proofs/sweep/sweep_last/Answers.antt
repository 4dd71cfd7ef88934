-- `arcs::sweep::sweep_last`: the loop keeps that the front and the piece after it still have to be clipped by the arcs that are left. A turn is in
-- proofs/Lasts.antt. Assumes nothing.
use mathlib.Core.Path.{subst}
use mathlib.Core.Bool.{Bool}
use native.Mathlib.Omega.{arith}
use lib.ListN.{get_or}
use lib.Ieee.{nan}
use Rattle.order.proofs.Ranks.{and_l, and_r}
use Rattle.s1.specs.Circle.{ends}
use Rattle.arcs.specs.Inside.{Spared, Passed}
use Rattle.arcs.proofs.Lasts.{swept-turn}
use Rattle.arcs.proofs.sweep.sweep_last.Goals as goal

pub loop-k-preserved : goal.loop-k-preserved
loop-k-preserved c =
    let w = c.args in
    let l = c.loop-k in
    let t = c.if-not-spares-passes.false in
    let a = get_or w.arcs.now l.k (ends nan nan) in
    let o = subst (λ (r : Bool). Spared a l.b r) (and_l c.spares.result c.passes.result t) c.spares.ensures in
    let u = subst (λ (r : Bool). Passed a l.x r) (and_r c.spares.result c.passes.result t) c.passes.ensures in
    swept-turn w.arcs.now l.pieces w.start l.k l.f l.b l.x (ends nan nan) c.loop-k-test.true (omega (arith, c.requires.room.holds, l.auto.pieces)) l.invariant
    o u c.max.result c.max.ensures c.past-f.result c.past-f.ensures
