-- `s1::circle::union`: at each return the answer is the definition's, under the tests that led there. Each test is read once, at the place where it has
-- been passed. Assumes nothing.
use mathlib.Core.Path.{◌≡◌, sym, ◌∙◌}
use mathlib.Core.Bool.{◌||◌, true, false, cond}
use lib.Ieee as Ieee
use Rattle.s1.specs.declared.interval.Interval.{Interval}
use Rattle.s1.specs.Circle.{ends, is_empty, fast_contains, positive_distance, union}
use Rattle.s1.proofs.circle.union.Goals as goal

-- other lies out of i at both ends, and neither is empty nor does i begin in other: of the two gaps the one is closed that is no longer
gaps : (i o : Interval) → is_empty o ≡ false → fast_contains i o.lo ≡ false → fast_contains i o.hi ≡ false → is_empty i || fast_contains o i.lo ≡ false
    → union i o ≡ cond (Ieee.lt (positive_distance o.hi i.lo) (positive_distance i.hi o.lo)) (ends o.lo i.hi) (ends i.lo o.hi)
unfolding union
gaps i o some lo-out hi-out neither = simp (neither, hi-out, lo-out, some)

-- ---- other is empty; its western end lies in i
pub returns-then-is_empty : goal.returns-then-is_empty
unfolding union
returns-then-is_empty c = simp (c.if-is_empty.true, ← c.is_empty.ensures)

pub returns-then-contains_interval : goal.returns-then-contains_interval
unfolding union
returns-then-contains_interval c =
    let hi-in : let a = c.args in fast_contains a.i a.other.hi ≡ true = sym c.fast_contains-then-fast_contains.ensures ∙ c.if-fast_contains-2.true in
    let lo-in : let a = c.args in fast_contains a.i a.other.lo ≡ true = sym c.fast_contains.ensures ∙ c.if-fast_contains.true in
    let some : is_empty c.args.other ≡ false = sym c.is_empty.ensures ∙ c.if-is_empty.false in
    simp (c.if-contains_interval.true, ← c.contains_interval.ensures, hi-in, lo-in, some)

pub returns-then-fast_contains-2 : goal.returns-then-fast_contains-2
unfolding union
returns-then-fast_contains-2 c =
    let hi-in : let a = c.args in fast_contains a.i a.other.hi ≡ true = sym c.fast_contains-then-fast_contains.ensures ∙ c.if-fast_contains-2.true in
    let lo-in : let a = c.args in fast_contains a.i a.other.lo ≡ true = sym c.fast_contains.ensures ∙ c.if-fast_contains.true in
    let some : is_empty c.args.other ≡ false = sym c.is_empty.ensures ∙ c.if-is_empty.false in
    simp (c.if-contains_interval.false, ← c.contains_interval.ensures, hi-in, lo-in, some)

pub returns-then-fast_contains : goal.returns-then-fast_contains
unfolding union
returns-then-fast_contains c =
    let lo-in : let a = c.args in fast_contains a.i a.other.lo ≡ true = sym c.fast_contains.ensures ∙ c.if-fast_contains.true in
    let some : is_empty c.args.other ≡ false = sym c.is_empty.ensures ∙ c.if-is_empty.false in
    simp (c.if-fast_contains-2.false, ← c.fast_contains-then-fast_contains.ensures, lo-in, some)

-- ---- it lies out of i
pub returns-then-fast_contains-3 : goal.returns-then-fast_contains-3
unfolding union
returns-then-fast_contains-3 c =
    let lo-out : let a = c.args in fast_contains a.i a.other.lo ≡ false = sym c.fast_contains.ensures ∙ c.if-fast_contains.false in
    let some : is_empty c.args.other ≡ false = sym c.is_empty.ensures ∙ c.if-is_empty.false in
    simp (c.if-fast_contains-3.true, ← c.fast_contains-2.ensures, lo-out, some)

pub returns-then-is_empty-fast_contains : goal.returns-then-is_empty-fast_contains
unfolding union
returns-then-is_empty-fast_contains c =
    let hi-out : let a = c.args in fast_contains a.i a.other.hi ≡ false = sym c.fast_contains-2.ensures ∙ c.if-fast_contains-3.false in
    let lo-out : let a = c.args in fast_contains a.i a.other.lo ≡ false = sym c.fast_contains.ensures ∙ c.if-fast_contains.false in
    let some : is_empty c.args.other ≡ false = sym c.is_empty.ensures ∙ c.if-is_empty.false in
    simp (c.if-is_empty-fast_contains.true, ← c.fast_contains-3.ensures, ← c.is_empty-2.ensures, hi-out, lo-out, some)

pub returns-then-positive_distance : goal.returns-then-positive_distance
unfolding union
returns-then-positive_distance c =
    let hi-out : let a = c.args in fast_contains a.i a.other.hi ≡ false = sym c.fast_contains-2.ensures ∙ c.if-fast_contains-3.false in
    let lo-out : let a = c.args in fast_contains a.i a.other.lo ≡ false = sym c.fast_contains.ensures ∙ c.if-fast_contains.false in
    let some : is_empty c.args.other ≡ false = sym c.is_empty.ensures ∙ c.if-is_empty.false in
    let neither : is_empty c.args.i || fast_contains c.args.other c.args.i.lo ≡ false = simp (← c.is_empty-2.ensures, ← c.fast_contains-3.ensures) c.if-is_empty-fast_contains.false in
    simp (gaps c.args.i c.args.other some lo-out hi-out neither, c.if-positive_distance.true, ← c.positive_distance-2.ensures, ← c.positive_distance.ensures)

pub returns : goal.returns
unfolding union
returns c =
    let hi-out : let a = c.args in fast_contains a.i a.other.hi ≡ false = sym c.fast_contains-2.ensures ∙ c.if-fast_contains-3.false in
    let lo-out : let a = c.args in fast_contains a.i a.other.lo ≡ false = sym c.fast_contains.ensures ∙ c.if-fast_contains.false in
    let some : is_empty c.args.other ≡ false = sym c.is_empty.ensures ∙ c.if-is_empty.false in
    let neither : is_empty c.args.i || fast_contains c.args.other c.args.i.lo ≡ false = simp (← c.is_empty-2.ensures, ← c.fast_contains-3.ensures) c.if-is_empty-fast_contains.false in
    simp (gaps c.args.i c.args.other some lo-out hi-out neither, c.if-positive_distance.false, ← c.positive_distance-2.ensures, ← c.positive_distance.ensures)
