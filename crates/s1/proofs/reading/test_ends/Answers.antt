-- `s1::reading::test_ends`: at each return the answer is the definition's, under the tests that led there; a point of the circle is in
-- reach. Assumes nothing.
use mathlib.Core.Path.{◌≡◌}
use mathlib.Core.Bool.{true, ◌&&◌}
use lib.Ieee.{binary64, fits}
use Rattle.order.proofs.Ranks.{and_l, and_r}
use Rattle.s1.specs.Reading.{on_circle, read_ends}
use Rattle.s1.proofs.Readings.{circle-reach}
use Rattle.s1.proofs.reading.test_ends.Goals as goal

pub returns-then-on_circle : goal.returns-then-on_circle
unfolding read_ends
returns-then-on_circle c =
    let a = c.args in
    let f : fits binary64 a.lo ≡ true = search in
    let g : fits binary64 a.hi ≡ true = search in
    let v : on_circle a.lo && on_circle a.hi ≡ true = simp (← c.on_circle-2.ensures, ← c.on_circle.ensures) c.if-on_circle.true in
    simp (circle-reach a.lo f (and_l (on_circle a.lo) (on_circle a.hi) v), circle-reach a.hi g (and_r (on_circle a.lo) (on_circle a.hi) v), v)

pub returns-then-in_reach : goal.returns-then-in_reach
unfolding read_ends
returns-then-in_reach c = simp (c.if-in_reach.true, ← c.in_reach-2.ensures, ← c.in_reach.ensures, c.if-on_circle.false, ← c.on_circle-2.ensures, ← c.on_circle.ensures)

pub returns : goal.returns
unfolding read_ends
returns c = simp (c.if-in_reach.false, ← c.in_reach-2.ensures, ← c.in_reach.ensures, c.if-on_circle.false, ← c.on_circle-2.ensures, ← c.on_circle.ensures)
