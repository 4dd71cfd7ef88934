-- What `union` and growth close, where there are two ways round: the gap that is closed is, by the rounded distance, no longer than the one that is left. So
-- they answer the smallest interval but where rounding makes the two gaps alike, and then the one that goes east from the first: the example is worked
-- here. Each law is the last choice of its definition. Assumes nothing.
use mathlib.Core.Path.{◌≡◌, refl}
use mathlib.Core.Bool.{Bool, true, false, cond}
use lib.Ieee as Ieee
use lib.Ieee.{Float, binary64, of_bits, lt, le, eq}
use Rattle.consts.specs.Constants.{PI}
use Rattle.consts.specs.Reading.{in_reach, plain}
use Rattle.consts.specs.Refusal.{first_refusal}
use Rattle.s1.specs.declared.interval.Interval.{Interval}
use Rattle.s1.specs.Circle as circle
use Rattle.s1.specs.Circle.{ends, positive_distance, seam, is_valid, is_full, is_empty, fast_contains, contains_interval}
use Rattle.s1.specs.Reading.{on_circle, read_one, read_two, read_point}
use Rattle.s1.specs.Answers.{circle_answer, union, add, from_point_pair}

-- of two intervals, or an interval and a point, that are apart: the gap that r closes
pub data Closes (i o r : Interval) : Type 0 where
  -- the one from o east to i, which is the shorter
  western : r ≡ ends o.lo i.hi → lt (positive_distance o.hi i.lo) (positive_distance i.hi o.lo) ≡ true → Closes i o r
  -- the one from i east to o, the other being no shorter
  eastern : r ≡ ends i.lo o.hi → lt (positive_distance o.hi i.lo) (positive_distance i.hi o.lo) ≡ false → Closes i o r

either : (i o : Interval) (b : Bool) → lt (positive_distance o.hi i.lo) (positive_distance i.hi o.lo) ≡ b →
    Closes i o (cond b (ends o.lo i.hi) (ends i.lo o.hi))
either i o true h = western refl h
either i o false h = eastern refl h

pub union-closes : (i o : Interval) → is_empty i ≡ false → is_empty o ≡ false → fast_contains i o.lo ≡ false → fast_contains i o.hi ≡ false → fast_contains o i.lo ≡ false →
    Closes i o (circle.union i o)
unfolding circle.union
union-closes i o e f a b c = simp (e, f, a, b, c) (either i o _ refl)

pub add-closes : (i : Interval) (p : Float) → is_empty i ≡ false → fast_contains i (seam p) ≡ false → Closes i (ends (seam p) (seam p)) (circle.add i p)
unfolding circle.add
add-closes i p e a = simp (e, a) (either i (ends (seam p) (seam p)) _ refl)

-- 2 ^ -53: from it east to PI, and from PI east to it, are one double
abbrev EASTERN : Float
EASTERN = of_bits binary64 0x3CA0000000000000

pub gaps-alike : positive_distance PI EASTERN ≡ positive_distance EASTERN PI
unfolding positive_distance Ieee.add Ieee.sub of_bits le
gaps-alike = refl

-- so the longer way is answered, though [EASTERN, PI] would hold both
pub longer-union : union (ends PI PI) (ends EASTERN EASTERN) ≡ circle_answer (ends PI EASTERN)
unfolding union read_two read_one is_valid is_empty circle.union fast_contains is_full contains_interval positive_distance in_reach plain first_refusal Ieee.add Ieee.sub of_bits lt le eq
longer-union = refl

pub longer-add : add (ends PI PI) EASTERN ≡ circle_answer (ends PI EASTERN)
unfolding add read_one read_point on_circle is_valid is_empty circle.add fast_contains is_full positive_distance seam in_reach plain first_refusal Ieee.add Ieee.sub of_bits lt le eq
longer-add = refl

pub longer-pair : from_point_pair PI EASTERN ≡ circle_answer (ends PI EASTERN)
unfolding from_point_pair read_point on_circle circle.from_point_pair positive_distance seam in_reach plain first_refusal Ieee.add Ieee.sub of_bits lt le eq
longer-pair = refl
