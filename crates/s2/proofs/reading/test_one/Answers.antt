-- `s2::reading::test_one`: at each return the answer is the definition's, under the tests that led there; what is usual is
-- accepted, and one rectangle asked about twice has its own refusal. Assumes nothing.
use mathlib.Core.Path.{◌≡◌, sym, ◌∙◌}
use mathlib.Core.Bool.{true}
use Rattle.s2.specs.Places.{Doubles}
use Rattle.s2.specs.Reading.{read_one}
use Rattle.s2.specs.Devices.{usual}
use Rattle.s2.proofs.Readings.{usual-in, first-same}
use Rattle.s2.proofs.reading.test_one.Goals as goal

pub returns-then-is_usual : goal.returns-then-is_usual
returns-then-is_usual c =
    let r = c.args.r in
    let d : Doubles r = record { lat-lo = search; lat-hi = search; lng-lo = search; lng-hi = search } in
    let u : usual r ≡ true = sym c.is_usual.ensures ∙ c.if-is_usual.true in
    sym (usual-in d u)

pub returns-else-is_usual : goal.returns-else-is_usual
returns-else-is_usual c =
    let r = c.args.r in
    c.test_both.ensures ∙ first-same (read_one r).refusal
