-- `s2::reading::test`: at each return the answer is the definition's, under the tests that led there; what is valid is in reach, but perhaps for
-- its lat.hi. Assumes nothing.
use mathlib.Core.Path.{◌≡◌}
use mathlib.Core.Bool.{true, ◌&&◌}
use Rattle.order.proofs.Ranks.{and_l, and_r}
use Rattle.consts.specs.Reading.{in_reach}
use Rattle.s2.specs.Zone.{is_valid}
use Rattle.s2.specs.Places.{Doubles}
use Rattle.s2.specs.Reading.{read_one}
use Rattle.s2.proofs.Readings.{valid-reach, no-fault}
use Rattle.s2.proofs.reading.test.Goals as goal

pub returns-then-is_valid-in_reach : goal.returns-then-is_valid-in_reach
unfolding read_one
returns-then-is_valid-in_reach c =
    let r = c.args.r in
    let d : Doubles r = record { lat-lo = search; lat-hi = search; lng-lo = search; lng-hi = search } in
    let t : is_valid r && in_reach r.lat.hi ≡ true = simp (← c.in_reach.ensures, ← c.is_valid.ensures) c.if-is_valid-in_reach.true in
    let v = and_l (is_valid r) (in_reach r.lat.hi) t in
    simp (valid-reach d v (and_r (is_valid r) (in_reach r.lat.hi) t), no-fault r v)

pub returns-then-in_reach : goal.returns-then-in_reach
unfolding read_one
returns-then-in_reach c = simp (c.if-in_reach.true, ← c.test_parts.ensures, ← c.in_reach-2.ensures)

pub returns : goal.returns
unfolding read_one
returns c = simp (c.if-in_reach.false, ← c.in_reach-2.ensures)
