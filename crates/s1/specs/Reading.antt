-- How the operands of a circle interval's operations are read: in document 01's order, the intervals from left to right, each with its zeros read,
-- under 1 where a number is out of reach and under 22 where it is not valid; then points (3), then a margin or an error (4).
-- Definitions only; the laws are in proofs/Readings.antt.
use Rattle.std.specs.Prelude.{Bool, ◌&&◌, cond, ℕ, Float}
use Rattle.std.specs.Float.Ieee.{le}
use Rattle.consts.specs.declared.answer.Number.{Number}
use Rattle.consts.specs.Constants.{PI, NEG-PI}
use Rattle.consts.specs.Refusal.{number, accepted, out_of_reach, bad_circle, bad_point, bad_margin, first_refusal}
use Rattle.consts.specs.Reading.{in_reach, plain, NoMinus, read_number}
use Rattle.s1.specs.declared.interval.Interval.{Interval}
use Rattle.s1.specs.Circle.{is_valid}

-- both ends with negative zero read as zero
abbrev pub plain_ends : Interval → Interval
plain_ends i = record { lo = plain i.lo; hi = plain i.hi }

-- neither end is a negative zero
abbrev pub NoMinusEnds : Interval → Type 0
NoMinusEnds i = NoMinus i.lo × NoMinus i.hi

-- an interval as it is read, and the refusal number that it is read under
pub record One : Type 0 where
  pub refusal : ℕ
  pub value : Interval

-- two intervals
pub record Two : Type 0 where
  pub refusal : ℕ
  pub left : Interval
  pub right : Interval

-- an interval and a number
pub record With : Type 0 where
  pub refusal : ℕ
  pub value : Interval
  pub number : Float

unfoldable pub read_one : Interval → One
read_one i =
    record {
      refusal = cond (in_reach i.lo && in_reach i.hi) (cond (is_valid i) (number accepted) (number bad_circle)) (number out_of_reach);
      value = plain_ends i;
    }

-- a point of the circle is of size at most PI
unfoldable pub on_circle : Float → Bool
on_circle p = le NEG-PI p && le p PI

-- the ends of an interval that is to be made: 22 for a size over PI
unfoldable pub read_ends : Float → Float → One
read_ends lo hi =
    record {
      refusal = cond (in_reach lo && in_reach hi) (cond (on_circle lo && on_circle hi) (number accepted) (number bad_circle)) (number out_of_reach);
      value = record { lo = plain lo; hi = plain hi };
    }

unfoldable pub read_two : Interval → Interval → Two
read_two i o = record { refusal = first_refusal (read_one i).refusal (read_one o).refusal; left = (read_one i).value; right = (read_one o).value }

unfoldable pub read_point : Float → Number
read_point p = record { refusal = cond (on_circle p) (number accepted) (number bad_point); value = plain p }

unfoldable pub read_with_point : Interval → Float → With
read_with_point i p = record { refusal = first_refusal (read_one i).refusal (read_point p).refusal; value = (read_one i).value; number = (read_point p).value }

unfoldable pub read_with_margin : Interval → Float → With
read_with_margin i m =
    let x = read_number m (number bad_margin) in
    record { refusal = first_refusal (read_one i).refusal x.refusal; value = (read_one i).value; number = x.value }
