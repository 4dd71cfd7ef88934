-- How the operands of a line interval's operations are read: in document 01's order, the intervals from left to right, each with its zeros read,
-- under 1 where a number is out of reach; then a point (3), a margin or an error (4). Definitions only; the laws are in proofs/Readings.antt.
use Rattle.std.specs.Prelude.{◌&&◌, cond, ℕ, Float}
use Rattle.consts.specs.Refusal.{number, accepted, out_of_reach, first_refusal}
use Rattle.consts.specs.Reading.{in_reach, plain, NoMinus, read_number}
use Rattle.r1.specs.declared.interval.Interval.{Interval}

-- both ends with negative zero read as zero
abbrev pub plain_ends : Interval → Interval
plain_ends i = record { lo = plain i.lo; hi = plain i.hi }

-- neither end is a negative zero
abbrev pub NoMinusEnds : Interval → Type 0
NoMinusEnds i = NoMinus i.lo × NoMinus i.hi

-- an interval as it is read, and the refusal number that it is read under
pub record One : Type 0 where
  pub refusal : ℕ
  pub value : Interval

-- two intervals
pub record Two : Type 0 where
  pub refusal : ℕ
  pub left : Interval
  pub right : Interval

-- an interval and a number
pub record With : Type 0 where
  pub refusal : ℕ
  pub value : Interval
  pub number : Float

unfoldable pub read_one : Interval → One
read_one i = record { refusal = cond (in_reach i.lo && in_reach i.hi) (number accepted) (number out_of_reach); value = plain_ends i }

unfoldable pub read_two : Interval → Interval → Two
read_two i o = record { refusal = first_refusal (read_one i).refusal (read_one o).refusal; left = (read_one i).value; right = (read_one o).value }

-- n is the refusal of a number out of reach
unfoldable pub read_with : Interval → Float → ℕ → With
read_with i x n = record { refusal = first_refusal (read_one i).refusal (read_number x n).refusal; value = (read_one i).value; number = (read_number x n).value }
