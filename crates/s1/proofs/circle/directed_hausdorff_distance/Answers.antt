-- `s1::circle::directed_hausdorff_distance`: at each return the answer is the definition's, under the tests that led there. Assumes nothing.
use Rattle.s1.specs.Circle.{directed_hausdorff_distance}
use Rattle.s1.proofs.circle.directed_hausdorff_distance.Goals as goal

pub returns-then-contains_interval : goal.returns-then-contains_interval
unfolding directed_hausdorff_distance
returns-then-contains_interval c = simp (c.if-contains_interval.true, ← c.contains_interval.ensures)

pub returns-then-is_empty : goal.returns-then-is_empty
unfolding directed_hausdorff_distance
returns-then-is_empty c = simp (c.if-is_empty.true, ← c.is_empty.ensures, c.if-contains_interval.false, ← c.contains_interval.ensures)

pub returns-then-contains : goal.returns-then-contains
unfolding directed_hausdorff_distance
returns-then-contains c = simp (← c.zero_read.ensures, ← c.positive_distance.ensures, c.if-contains.true, ← c.contains.ensures, ← c.complement_center-m.ensures, c.if-is_empty.false, ← c.is_empty.ensures, c.if-contains_interval.false, ← c.contains_interval.ensures)

pub returns : goal.returns
unfolding directed_hausdorff_distance
returns c =
    let longest = c.max.ensures in
    let back = c.reach_to-lo_lo.ensures in
    let back_from = c.positive_distance-3.ensures in
    let forth = c.reach_to-hi_hi.ensures in
    let forth-from = c.positive_distance-2.ensures in
    let held = c.contains.ensures in
    let opposite = c.complement_center-m.ensures in
    let empty = c.is_empty.ensures in
    let whole = c.contains_interval.ensures in
    simp (← c.zero_read-2.ensures, ← longest, ← back, ← back_from, ← forth, ← forth-from, c.if-contains.false, ← held, ← opposite, c.if-is_empty.false, ← empty, c.if-contains_interval.false, ← whole)
