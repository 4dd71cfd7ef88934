-- `s1::reading::test`: at each return the answer is the definition's, under the tests that led there; what is valid is in reach, and what is
-- usual is valid. Assumes nothing.
use mathlib.Core.Path.{◌≡◌, sym, ◌∙◌}
use mathlib.Core.Bool.{true}
use lib.Ieee.{binary64, fits}
use Rattle.s1.specs.Circle.{is_valid}
use Rattle.s1.specs.Devices.{usual}
use Rattle.s1.specs.Reading.{read_one}
use Rattle.s1.proofs.Readings.{valid-reach, usual-valid}
use Rattle.s1.proofs.reading.test.Goals as goal

pub returns-then-is_usual : goal.returns-then-is_usual
unfolding read_one
returns-then-is_usual c =
    let i = c.args.i in
    let f : fits binary64 i.lo ≡ true = search in
    let g : fits binary64 i.hi ≡ true = search in
    let u : usual i ≡ true = sym c.is_usual.ensures ∙ c.if-is_usual.true in
    let v = usual-valid i f g u in
    simp (valid-reach i f g v, v)

pub returns-then-is_valid : goal.returns-then-is_valid
unfolding read_one
returns-then-is_valid c =
    let i = c.args.i in
    let f : fits binary64 i.lo ≡ true = search in
    let g : fits binary64 i.hi ≡ true = search in
    let v : is_valid i ≡ true = sym c.is_valid.ensures ∙ c.if-is_valid.true in
    simp (valid-reach i f g v, v)

pub returns-then-in_reach : goal.returns-then-in_reach
unfolding read_one
returns-then-in_reach c = simp (c.if-in_reach.true, ← c.in_reach-2.ensures, ← c.in_reach.ensures, c.if-is_valid.false, ← c.is_valid.ensures)

pub returns : goal.returns
unfolding read_one
returns c = simp (c.if-in_reach.false, ← c.in_reach-2.ensures, ← c.in_reach.ensures, c.if-is_valid.false, ← c.is_valid.ensures)
