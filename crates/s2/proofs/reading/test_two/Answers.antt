-- `s2::reading::test_two`: at each return the answer is the definition's, under the tests that led there; what is usual is accepted. Assumes nothing.
use mathlib.Core.Path.{◌≡◌}
use mathlib.Core.Bool.{true, ◌&&◌}
use Rattle.order.proofs.Ranks.{and_l, and_r}
use Rattle.consts.specs.Refusal.{first_refusal}
use Rattle.s2.specs.Places.{Doubles}
use Rattle.s2.specs.Devices.{usual}
use Rattle.s2.proofs.Readings.{usual-in}
use Rattle.s2.proofs.reading.test_two.Goals as goal

pub returns-then-is_usual : goal.returns-then-is_usual
unfolding first_refusal
returns-then-is_usual c =
    let r = c.args.r in
    let o = c.args.o in
    let d : Doubles r = record { lat-lo = search; lat-hi = search; lng-lo = search; lng-hi = search } in
    let e : Doubles o = record { lat-lo = search; lat-hi = search; lng-lo = search; lng-hi = search } in
    let t : usual r && usual o ≡ true = simp (← c.is_usual-2.ensures, ← c.is_usual.ensures) c.if-is_usual.true in
    simp (usual-in d (and_l (usual r) (usual o) t), usual-in e (and_r (usual r) (usual o) t))
