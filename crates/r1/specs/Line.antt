-- Line intervals: what each operation of `src/r1/interval.rs` answers, once its operands are read: in reach, with no negative zero.
-- Definitions only; their laws over places are in proofs/Places.antt.
use Rattle.std.specs.Prelude.{Bool, false, ◌&&◌, ◌||◌, cond, Float}
use Rattle.std.specs.Float.Ieee as Ieee
use Rattle.std.specs.Float.{binary64, inf}
use Rattle.std.specs.Float.Ieee.{of_bits}
use Rattle.order.specs.Choice.{min, max, abs}
use Rattle.consts.specs.Constants.{TWO, HALF}
use Rattle.consts.specs.Answer.{ZERO}
use Rattle.consts.specs.Reading.{plain}
use Rattle.r1.specs.declared.interval.Interval.{Interval}
use Rattle.r1.specs.declared.interval.Distance.{Distance}
use Rattle.r1.specs.declared.interval.Distance.TheVariants.{Of, Unbounded}

abbrev pub ends : Float → Float → Interval
ends l h = record { lo = l; hi = h }

abbrev pub ONE : Float
ONE = of_bits binary64 0x3FF0000000000000

-- the standard empty
abbrev pub EMPTY : Interval
EMPTY = ends ONE ZERO

-- lo > hi: the interval has no place
unfoldable pub is_empty : Interval → Bool
is_empty i = Ieee.lt i.hi i.lo

unfoldable pub contains : Interval → Float → Bool
contains i p = Ieee.le i.lo p && Ieee.le p i.hi

unfoldable pub interior_contains : Interval → Float → Bool
interior_contains i p = Ieee.lt i.lo p && Ieee.lt p i.hi

unfoldable pub contains_interval : Interval → Interval → Bool
contains_interval i o = is_empty o || (Ieee.le i.lo o.lo && Ieee.le o.hi i.hi)

unfoldable pub interior_contains_interval : Interval → Interval → Bool
interior_contains_interval i o = is_empty o || (Ieee.lt i.lo o.lo && Ieee.lt o.hi i.hi)

unfoldable pub intersects : Interval → Interval → Bool
intersects i o =
    cond (Ieee.le i.lo o.lo) (Ieee.le o.lo i.hi && Ieee.le o.lo o.hi) (Ieee.le i.lo o.hi && Ieee.le i.lo i.hi)

unfoldable pub interior_intersects : Interval → Interval → Bool
interior_intersects i o = Ieee.lt o.lo i.hi && Ieee.lt i.lo o.hi && Ieee.lt i.lo i.hi && Ieee.le o.lo o.hi

unfoldable pub from_point_pair : Float → Float → Interval
from_point_pair p q = cond (Ieee.le p q) (ends p q) (ends q p)

-- once rounded each, in the crate's order
unfoldable pub center : Interval → Float
center i = plain (Ieee.mul binary64 HALF (Ieee.add binary64 i.lo i.hi))

unfoldable pub len : Interval → Float
len i = plain (Ieee.sub binary64 i.hi i.lo)

unfoldable pub intersection : Interval → Interval → Interval
intersection i o = ends (max i.lo o.lo) (min i.hi o.hi)

-- of an interval that is not empty the place nearest to p (proofs/Places.antt, `clamp-point-nearest`)
unfoldable pub clamp_point : Interval → Float → Float
clamp_point i p = max i.lo (min i.hi p)

unfoldable pub expanded : Interval → Float → Interval
expanded i m = cond (is_empty i) i (ends (plain (Ieee.sub binary64 i.lo m)) (plain (Ieee.add binary64 i.hi m)))

unfoldable pub union : Interval → Interval → Interval
union i o = cond (is_empty i) o (cond (is_empty o) i (ends (min i.lo o.lo) (max i.hi o.hi)))

-- each end moves by at most e; an interval that is short enough matches an empty one
unfoldable pub approx_eq_by : Interval → Interval → Float → Bool
approx_eq_by i o e =
    cond (is_empty i) (Ieee.lt (len o) (Ieee.mul binary64 TWO e))
    (cond (is_empty o) (Ieee.lt (len i) (Ieee.mul binary64 TWO e))
    (Ieee.le (abs (Ieee.sub binary64 i.lo o.lo)) e && Ieee.le (abs (Ieee.sub binary64 i.hi o.hi)) e))

-- how far a place of i can lie from o, as the crate has it: infinity where i has a place and o has none
unfoldable pub farthest : Interval → Interval → Float
farthest i o =
    cond (is_empty i) ZERO
    (cond (is_empty o) (inf false)
    (max ZERO (max (Ieee.sub binary64 i.hi o.hi) (Ieee.sub binary64 o.lo i.lo))))

-- document 01's value for each case of the answer: a distance is itself, Unbounded stands where the crate has infinity
unfoldable pub distance_of : Distance → Float
distance_of (Of d) = d
distance_of Unbounded = inf false

-- the case that is answered
unfoldable pub directed_hausdorff_distance : Interval → Interval → Distance
directed_hausdorff_distance i o =
    cond (is_empty i) (Of ZERO)
    (cond (is_empty o) Unbounded
    (Of (max ZERO (max (Ieee.sub binary64 i.hi o.hi) (Ieee.sub binary64 o.lo i.lo)))))

-- the interval with the point p, p an end where it lay outside
unfoldable pub add : Interval → Float → Interval
add i p =
    cond (is_empty i) (ends p p)
    (cond (Ieee.lt p i.lo) (ends p i.hi) (cond (Ieee.lt i.hi p) (ends i.lo p) i))

-- the same places
unfoldable pub eq : Interval → Interval → Bool
eq i o = (Ieee.eq i.lo o.lo && Ieee.eq i.hi o.hi) || (is_empty i && is_empty o)
