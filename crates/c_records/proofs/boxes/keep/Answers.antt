-- `c_records::boxes::keep`: the four numbers are stored under 0, and nothing else is. Assumes nothing.
use mathlib.Core.Path.{refl}
use borrow.Author.Tests.{eq-eqb, ne_eqb}
use Rattle.lists.specs.Rects.{numbers_of}
use Rattle.c_records.specs.Boxes.{box_left}
use Rattle.c_records.proofs.boxes.keep.Goals as goal

pub returns-then-a-eq0 : goal.returns-then-a-eq0
unfolding box_left numbers_of
returns-then-a-eq0 c = record { answers = refl; leaves = simp (eq-eqb _ _ c.if-a-eq0.true) }

pub returns-else-a-eq0 : goal.returns-else-a-eq0
unfolding box_left
returns-else-a-eq0 c = record { answers = refl; leaves = simp (ne_eqb _ _ c.if-a-eq0.false) }
