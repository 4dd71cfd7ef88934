-- Circle intervals: what each operation of `src/s1/interval.rs` answers, in the crate's order, to be read beside s1interval.h. The operands are read
-- already: valid, with no negative zero. Definitions only; their laws over places are in proofs/Laws.antt.
use Rattle.std.specs.Prelude.{Bool, false, not, ◌&&◌, ◌||◌, cond, Float}
use Rattle.std.specs.Float.Ieee as Ieee
use Rattle.std.specs.Float.{binary64}
use Rattle.order.specs.Choice.{max, abs}
use Rattle.consts.specs.Constants.{PI, NEG-PI, TURN, DBL-EPSILON, NEG-ONE, TWO, HALF}
use Rattle.consts.specs.Answer.{ZERO}
use Rattle.consts.specs.Reading.{plain}
use Rattle.consts.specs.Remainder.{remainder}
use Rattle.s1.specs.declared.interval.Interval.{Interval}

abbrev pub ends : Float → Float → Interval
ends l h = record { lo = l; hi = h }

abbrev pub FULL : Interval
FULL = ends NEG-PI PI

abbrev pub EMPTY : Interval
EMPTY = ends PI NEG-PI

-- from a east to b, rounded
unfoldable pub positive_distance : Float → Float → Float
positive_distance a b =
    let d = Ieee.sub binary64 b a in
    cond (Ieee.le ZERO d) d (Ieee.sub binary64 (Ieee.add binary64 b PI) (Ieee.sub binary64 a PI))

-- the seam is written PI, but in FULL and EMPTY
unfoldable pub «new» : Float → Float → Interval
«new» l h =
    ends (cond (Ieee.eq l NEG-PI && not (Ieee.eq h PI)) PI l) (cond (Ieee.eq h NEG-PI && not (Ieee.eq l PI)) PI h)

-- the place of a point: -PI is read as PI
unfoldable pub seam : Float → Float
seam p = cond (Ieee.eq p NEG-PI) PI p

unfoldable pub from_point_pair : Float → Float → Interval
from_point_pair p q = cond (Ieee.le (positive_distance (seam p) (seam q)) PI) (ends (seam p) (seam q)) (ends (seam q) (seam p))

-- both ends of size at most PI; lo is -PI only in FULL; hi is -PI only in EMPTY
unfoldable pub is_valid : Interval → Bool
is_valid i =
    Ieee.le NEG-PI i.lo && Ieee.le i.lo PI && Ieee.le NEG-PI i.hi && Ieee.le i.hi PI
    && not (Ieee.eq i.lo NEG-PI && not (Ieee.eq i.hi PI)) && not (Ieee.eq i.hi NEG-PI && not (Ieee.eq i.lo PI))

unfoldable pub is_full : Interval → Bool
is_full i = Ieee.eq i.lo NEG-PI && Ieee.eq i.hi PI

unfoldable pub is_empty : Interval → Bool
is_empty i = Ieee.eq i.lo PI && Ieee.eq i.hi NEG-PI

-- lo > hi: it crosses the seam, or is EMPTY
abbrev pub is_inverted : Interval → Bool
is_inverted i = Ieee.lt i.hi i.lo

-- lo = hi: a single point
unfoldable pub is_point : Interval → Bool
is_point i = Ieee.eq i.lo i.hi

abbrev pub invert : Interval → Interval
invert i = ends i.hi i.lo

-- half the sum, on the other side where the interval is inverted
unfoldable pub center : Interval → Float
center i =
    let c = Ieee.mul binary64 HALF (Ieee.add binary64 i.lo i.hi) in
    plain (cond (is_inverted i) (cond (Ieee.le c ZERO) (Ieee.add binary64 c PI) (Ieee.sub binary64 c PI)) c)

unfoldable pub len : Interval → Float
len i =
    let l = Ieee.sub binary64 i.hi i.lo in
    let m = Ieee.add binary64 l TURN in
    cond (Ieee.le ZERO l) l (cond (Ieee.lt ZERO m) m NEG-ONE)

-- p is no -PI
unfoldable pub fast_contains : Interval → Float → Bool
fast_contains i p = cond (is_inverted i) ((Ieee.le i.lo p || Ieee.le p i.hi) && not (is_empty i)) (Ieee.le i.lo p && Ieee.le p i.hi)

unfoldable pub contains : Interval → Float → Bool
contains i p = fast_contains i (seam p)

unfoldable pub contains_interval : Interval → Interval → Bool
contains_interval i o =
    cond (is_inverted i)
    (cond (is_inverted o) (Ieee.le i.lo o.lo && Ieee.le o.hi i.hi) ((Ieee.le i.lo o.lo || Ieee.le o.hi i.hi) && not (is_empty i)))
    (cond (is_inverted o) (is_full i || is_empty o) (Ieee.le i.lo o.lo && Ieee.le o.hi i.hi))

unfoldable pub interior_contains : Interval → Float → Bool
interior_contains i p =
    let q = seam p in
    cond (is_inverted i) (Ieee.lt i.lo q || Ieee.lt q i.hi) ((Ieee.lt i.lo q && Ieee.lt q i.hi) || is_full i)

unfoldable pub interior_contains_interval : Interval → Interval → Bool
interior_contains_interval i o =
    cond (is_inverted i)
    (cond (is_inverted o) ((Ieee.lt i.lo o.lo && Ieee.lt o.hi i.hi) || is_empty o) (Ieee.lt i.lo o.lo || Ieee.lt o.hi i.hi))
    (cond (is_inverted o) (is_full i || is_empty o) ((Ieee.lt i.lo o.lo && Ieee.lt o.hi i.hi) || is_full i))

unfoldable pub intersects : Interval → Interval → Bool
intersects i o =
    cond (is_empty i || is_empty o) false
    (cond (is_inverted i)
    (is_inverted o || Ieee.le o.lo i.hi || Ieee.le i.lo o.hi)
    (cond (is_inverted o) (Ieee.le o.lo i.hi || Ieee.le i.lo o.hi) (Ieee.le o.lo i.hi && Ieee.le i.lo o.hi)))

-- the interior of i meets o, where neither is empty and i is more than a point
unfoldable pub inside_meets : Interval → Interval → Bool
inside_meets i o =
    cond (is_inverted i)
    (is_inverted o || Ieee.lt o.lo i.hi || Ieee.lt i.lo o.hi)
    (cond (is_inverted o) (Ieee.lt o.lo i.hi || Ieee.lt i.lo o.hi) ((Ieee.lt o.lo i.hi && Ieee.lt i.lo o.hi) || is_full i))

unfoldable pub interior_intersects : Interval → Interval → Bool
interior_intersects i o = cond (is_empty i || is_empty o || is_point i) false (inside_meets i o)

-- an interval that holds both, by the pairwise choices in the printed order; of two gaps the one is closed that is no longer by the rounded distance
unfoldable pub union : Interval → Interval → Interval
union i o =
    cond (is_empty o) i
    (cond (fast_contains i o.lo)
    (cond (fast_contains i o.hi) (cond (contains_interval i o) i FULL) (ends i.lo o.hi))
    (cond (fast_contains i o.hi) (ends o.lo i.hi)
    (cond (is_empty i || fast_contains o i.lo) o
    (cond (Ieee.lt (positive_distance o.hi i.lo) (positive_distance i.hi o.lo)) (ends o.lo i.hi) (ends i.lo o.hi)))))

-- an interval that holds all that is common, by the pairwise choices in the printed order; where they meet at both ends, the operand of the smaller rounded length
unfoldable pub intersection : Interval → Interval → Interval
intersection i o =
    cond (is_empty o) EMPTY
    (cond (fast_contains i o.lo)
    (cond (fast_contains i o.hi) (cond (Ieee.lt (len o) (len i)) o i) (ends o.lo i.hi))
    (cond (fast_contains i o.hi) (ends i.lo o.hi)
    (cond (fast_contains o i.lo) i EMPTY)))

-- the ends moved out by m and brought back into the range by r
abbrev pub moved_by : (Float → Float) → Interval → Float → Interval
moved_by r i m =
    let n = «new» (r (Ieee.sub binary64 i.lo m)) (r (Ieee.add binary64 i.hi m)) in
    ends (cond (Ieee.le n.lo NEG-PI) PI n.lo) n.hi

-- by the remainder's answer, which is never refused here (proofs/Expansions.antt)
unfoldable pub moved : Interval → Float → Interval
moved i m = moved_by (λ x. (remainder x).value) i m

-- FULL and EMPTY are told by the length, allowing for a rounding error at each end, before any remainder; else it is n
abbrev pub widened_to : Interval → Interval → Float → Interval
widened_to n i m =
    let l = Ieee.add binary64 (len i) (Ieee.mul binary64 TWO m) in
    let e = Ieee.mul binary64 TWO DBL-EPSILON in
    cond (Ieee.le ZERO m)
    (cond (is_empty i) i (cond (Ieee.le TURN (Ieee.add binary64 l e)) FULL n))
    (cond (is_full i) i (cond (Ieee.le (Ieee.sub binary64 l e) ZERO) EMPTY n))

unfoldable pub expanded : Interval → Float → Interval
expanded i m = widened_to (moved i m) i m

-- all that does not lie strictly inside
unfoldable pub complement : Interval → Interval
complement i = cond (is_point i) FULL (invert i)

unfoldable pub complement_center : Interval → Float
complement_center i =
    cond (is_point i)
    (plain (cond (Ieee.le i.hi ZERO) (Ieee.add binary64 i.hi PI) (Ieee.sub binary64 i.hi PI)))
    (center (complement i))

-- d where the interval from a to b has p, else 0
abbrev pub distance_if_held : Float → Float → Float → Float → Float
distance_if_held a b p d = cond (contains («new» a b) p) d ZERO

-- how far a place of i can lie from y: 0 where y covers i, PI where y has no place
unfoldable pub directed_hausdorff_distance : Interval → Interval → Float
directed_hausdorff_distance i y =
    let m = complement_center y in
    cond (contains_interval y i) ZERO
    (cond (is_empty y) PI
    (cond (contains i m) (plain (positive_distance y.hi m))
    (plain (max (distance_if_held y.hi m i.hi (positive_distance y.hi i.hi)) (distance_if_held m y.lo i.lo (positive_distance i.lo y.lo))))))

-- each end moves by at most e, without the interval turning inside out
unfoldable pub near_ends : Interval → Interval → Float → Bool
near_ends i o e =
    Ieee.le (abs (Ieee.rem binary64 (Ieee.sub binary64 o.lo i.lo) TURN)) e
    && Ieee.le (abs (Ieee.rem binary64 (Ieee.sub binary64 o.hi i.hi) TURN)) e
    && Ieee.le (abs (Ieee.sub binary64 (len i) (len o))) (Ieee.mul binary64 TWO e)

-- short enough matches EMPTY, long enough FULL
unfoldable pub approx_eq_by : Interval → Interval → Float → Bool
approx_eq_by i o e =
    let most = Ieee.mul binary64 TWO (Ieee.sub binary64 PI e) in
    cond (is_empty i) (Ieee.lt (len o) (Ieee.mul binary64 TWO e))
    (cond (is_empty o) (Ieee.lt (len i) (Ieee.mul binary64 TWO e))
    (cond (is_full i) (Ieee.le most (len o))
    (cond (is_full o) (Ieee.le most (len i)) (near_ends i o e))))

-- the interval with the point p, moved on the side that is nearer by the rounded distance
unfoldable pub add : Interval → Float → Interval
add i p =
    let q = seam p in
    cond (fast_contains i q) i
    (cond (is_empty i) (ends q q)
    (cond (Ieee.lt (positive_distance q i.lo) (positive_distance i.hi q)) (ends q i.hi) (ends i.lo q)))

unfoldable pub eq : Interval → Interval → Bool
eq i o = Ieee.eq i.lo o.lo && Ieee.eq i.hi o.hi
