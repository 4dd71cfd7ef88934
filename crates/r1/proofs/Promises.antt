-- What document 01 promises of line intervals, in its order and words. Each theorem has all that it needs in its own statement, and cites the laws
-- that prove it. Assumes nothing.
use mathlib.Core.Path.{◌≡◌, refl, sym, ◌∙◌}
use mathlib.Core.Bool.{true, false}
use mathlib.Core.Logic.{◌↔◌, ◌⊎◌}
use native.Mathlib.Omega.{arith}
use lib.Ieee.{Float, binary64, of_bits, lt, add as plus, sub, mul}
use Rattle.consts.specs.Constants.{HALF}
use Rattle.consts.specs.Refusal.{number, accepted, out_of_reach, bad_point, bad_margin, first_refusal, GivenExactly, GivenInTurn}
use Rattle.consts.specs.Answer.{ZERO, yes_no, number_answer, Decides, NoExactly, ZeroExactly, NoInTurn, ZeroInTurn}
use Rattle.consts.specs.Reading.{in_reach, plain, NoMinus, read_number}
use Rattle.consts.proofs.Decisions.{decides}
use Rattle.consts.proofs.Readings.{plain-plain}
use Rattle.r1.specs.declared.interval.Interval.{Interval}
use Rattle.r1.specs.declared.interval.Answer.{Answer}
use Rattle.r1.specs.Answers.{Hausdorff}
use Rattle.r1.specs.declared.interval.Distance.TheVariants.{Of, Unbounded}
use Rattle.r1.specs.Line as line
use Rattle.r1.specs.Line.{ends, EMPTY, distance_of}
use Rattle.r1.specs.Reading.{plain_ends, NoMinusEnds, read_one, read_two, read_with}
use Rattle.r1.specs.Answers.{line_answer, empty_under, distance_answer, zero_distance, EmptyExactly, EmptyInTurn, «new», from_point, from_point_pair, is_empty, center, len, contains, contains_interval, interior_contains, interior_contains_interval, intersects, interior_intersects, intersection, clamp_point, expanded, union, approx_eq, approx_eq_by, directed_hausdorff_distance, IsHausdorff, add, eq}
use Rattle.r1.specs.Places.{Place, InReach, OutOfReach, holds, Inside, StrictlyInside, Meets, Nearest, Nothing}
use Rattle.r1.proofs.Readings.{one_in, two_in, with_in, empty-plain}
use Rattle.r1.proofs.Ends.{plain-ends, interval-plain, told-plain, distance-plain, add-plain, cond-is, smaller-is, larger-is, union-ends, intersection-ends, pair_ends, add-ends, union-reach, intersection-reach, add-reach, from-point-pair-reach}
use Rattle.r1.proofs.Places as places
use Rattle.r1.proofs.Refusals.{tests, numbers, intervals, distances, one, two, beside, beside_two, point, points, growth}
use Rattle.r1.proofs.Distances.{one-hausdorff as one-distance}

-- ---- numbers and records
-- "Line: empty when lo > hi; the standard empty is lo 1, hi 0."
pub empty-when : (i : Interval) → InReach i → Decides (is_empty i) (lt i.hi i.lo ≡ true)
unfolding is_empty line.is_empty
empty-when i v = decides {b = line.is_empty (plain_ends i)} (simp (one_in i v)) (λ h. sym (empty-plain i v) ∙ h) (λ h. empty-plain i v ∙ h)

pub standard-empty : EMPTY ≡ record { lo = of_bits binary64 0x3FF0000000000000; hi = of_bits binary64 0 }
standard-empty = refl

-- "Sums, differences and products are rounded once an operation in the crate's order."
pub rounded-once : (i : Interval) (m : Float) → InReach i → Place m
    → (center i ≡ number_answer (plain (mul binary64 HALF (plus binary64 (plain i.lo) (plain i.hi)))))
    × (len i ≡ number_answer (plain (sub binary64 (plain i.hi) (plain i.lo))))
    × (line.is_empty i ≡ false → expanded i m ≡ line_answer (ends (plain (sub binary64 (plain i.lo) (plain m))) (plain (plus binary64 (plain i.hi) (plain m)))))
unfolding center len expanded line.center line.len line.expanded
rounded-once i m v q =
    (simp (one_in i v), simp (one_in i v), λ h. simp (with_in i v m (number bad_margin) q.in-reach, empty-plain i v, h))

-- "no negative zero is written; but what a refusal hands back keeps its bits": of every operation that answers numbers, for any operands whatever
pub record NoNegativeZero (i o : Interval) (x y : Float) : Type 0 where
  pub by-new : NoMinusEnds («new» x y).value
  pub by-from-point : NoMinusEnds (from_point x).value
  pub by-from-point-pair : NoMinusEnds (from_point_pair x y).value
  pub by-center : NoMinus (center i).value
  pub by-len : NoMinus (len i).value
  pub by-clamp-point : NoMinus (clamp_point i x).value
  pub by-expanded : NoMinusEnds (expanded i x).value
  pub by-union : NoMinusEnds (union i o).value
  pub by-intersection : NoMinusEnds (intersection i o).value
  pub by-hausdorff : NoMinus (distance_of (directed_hausdorff_distance i o).value)
  pub by-add : (add i x).refusal ≡ number accepted → NoMinusEnds (add i x).value

pub no-negative-zero : (i o : Interval) (x y : Float) → NoNegativeZero i o x y
unfolding «new» from_point from_point_pair center len clamp_point expanded union intersection directed_hausdorff_distance read_one read_two read_with read_number line.center line.len line.clamp_point line.expanded
no-negative-zero i o x y =
    let p = plain-ends i in
    let q = plain-ends o in
    record {
      by-new = interval-plain (read_one (ends x y)).refusal _ (plain-ends (ends x y));
      by-from-point = interval-plain (read_number x 3).refusal _ (plain-ends (ends x x));
      by-from-point-pair =
          interval-plain (first_refusal (read_number x 3).refusal (read_number y 3).refusal) _
          (pair_ends NoMinus NoMinus (plain x) (plain-plain x) (plain-plain x) (plain y) (plain-plain y) (plain-plain y));
      by-center = told-plain (read_one i).refusal (line.center (plain_ends i)) (plain-plain _);
      by-len = told-plain (read_one i).refusal (line.len (plain_ends i)) (plain-plain _);
      by-clamp-point = told-plain (read_with i x 3).refusal _ (larger-is NoMinus p.0 (smaller-is NoMinus p.1 (plain-plain x)));
      by-expanded = interval-plain (read_with i x 4).refusal (line.expanded (plain_ends i) (plain x)) (cond-is NoMinusEnds (line.is_empty (plain_ends i)) p (plain-plain _, plain-plain _));
      by-union = interval-plain (read_two i o).refusal _ (union-ends NoMinus NoMinus (plain_ends i) (plain_ends o) p q);
      by-intersection = interval-plain (read_two i o).refusal _ (intersection-ends NoMinus NoMinus (plain_ends i) (plain_ends o) p q);
      by-hausdorff = distance-plain (read_two i o).refusal (plain_ends i) (plain_ends o);
      by-add = add-plain i x;
    }

-- ---- places
-- An interval holds the places from lo to hi, "ends included": `contains` exactly when the place is held.
pub contains-point : (i : Interval) → InReach i → (p : Float) → Place p → Decides (contains i p) (holds i p ≡ true)
contains-point = places.contains-place

-- An empty interval holds no place, and no other interval holds none.
pub empty-holds-nothing : (i : Interval) → InReach i → Decides (is_empty i) (Nothing i)
empty-holds-nothing = places.is-empty-places

-- "`contains` holds exactly when each place of the other is in this one"
pub contains-places : (i o : Interval) → InReach i → InReach o → Decides (contains_interval i o) (Inside i o)
contains-places = places.contains-interval-places

-- "`intersects` exactly when a place is shared"
pub intersects-places : (i o : Interval) → InReach i → InReach o → Decides (intersects i o) (Meets i o)
intersects-places = places.intersects-places

-- "`union` holds both operands"
pub union-holds : (i o : Interval) → InReach i → InReach o → Inside (union i o).value i × Inside (union i o).value o
union-holds = places.union-holds

-- "`intersection` holds every common place", and on the line no other
pub intersection-holds : (i o : Interval) → InReach i → InReach o
    → (p : Float) → Place p → (holds (intersection i o).value p ≡ true) ↔ ((holds i p ≡ true) × (holds o p ≡ true))
intersection-holds = places.intersection-places

-- The interior tests, over the places strictly between the ends. `interior_intersects` says yes where such a place is shared, and may say yes where
-- there is none: two neighbouring doubles have no place between them.
pub interior-places : (i o : Interval) → InReach i → InReach o
    → ((p : Float) → Place p → Decides (interior_contains i p) (line.interior_contains i p ≡ true))
    × Decides (interior_contains_interval i o) (StrictlyInside i o)
    × ((p : Float) → Place p → line.interior_contains i p ≡ true → holds o p ≡ true → interior_intersects i o ≡ yes_no true)
interior-places i o v w = (places.interior-contains-place i v, places.interior-contains-interval-places i o v w, places.interior-intersects-meets i o v w)

-- `eq` exactly when both hold the same places.
pub equal-places : (i o : Interval) → InReach i → InReach o → Decides (eq i o) (Inside i o × Inside o i)
equal-places = places.equal-places

-- `clamp_point` of an interval that is not empty answers the place of it that lies nearest to the point.
pub clamp-nearest : (i : Interval) → InReach i → (p : Float) → Place p → line.is_empty i ≡ false → ((clamp_point i p).refusal ≡ number accepted) × Nearest i p (clamp_point i p).value
clamp-nearest = places.clamp-point-nearest

-- `from_point_pair` holds both points.
pub point-pair-holds : (x y : Float) → Place x → Place y → (holds (from_point_pair x y).value x ≡ true) × (holds (from_point_pair x y).value y ≡ true)
point-pair-holds = places.from-point-pair-holds

-- Growth holds the start and the point, and each end of it is that end of the start or the point.
pub growth-holds : (i : Interval) (x : Float) → InReach i → Place x
    → (Inside (add i x).value i × (holds (add i x).value x ≡ true))
    × ((((add i x).value.lo ≡ plain i.lo) ⊎ ((add i x).value.lo ≡ plain x)) × (((add i x).value.hi ≡ plain i.hi) ⊎ ((add i x).value.hi ≡ plain x)))
growth-holds i x v q = (places.add_holds i x v q, add-ends i x v q)

-- What these answer is within the limits again; `expanded` alone may leave reach.
pub within-the-limits : (i o : Interval) (x y : Float) → InReach i → InReach o → Place x → Place y
    → InReach (union i o).value × InReach (intersection i o).value × InReach (from_point_pair x y).value × InReach (add i x).value
within-the-limits i o x y v w q r = (union-reach i o v w, intersection-reach i o v w, from-point-pair-reach x y q r, add-reach i x v q)

-- ---- refusal numbers: when each is "given exactly", with the result beside it, and 0 otherwise
-- 1, "a rectangle or interval has a number out of reach": the operations on one interval
pub one-interval : (i : Interval) → NoExactly (is_empty i) out_of_reach (OutOfReach i) × ZeroExactly (center i) out_of_reach (OutOfReach i) × ZeroExactly (len i) out_of_reach (OutOfReach i)
unfolding is_empty center len
one-interval i = (one tests _ refl i, one numbers _ refl i, one numbers _ refl i)

-- 1: the operations on two intervals
pub two-intervals : (i o : Interval)
    → NoExactly (contains_interval i o) out_of_reach (OutOfReach i ⊎ OutOfReach o)
    × NoExactly (interior_contains_interval i o) out_of_reach (OutOfReach i ⊎ OutOfReach o)
    × NoExactly (intersects i o) out_of_reach (OutOfReach i ⊎ OutOfReach o)
    × NoExactly (interior_intersects i o) out_of_reach (OutOfReach i ⊎ OutOfReach o)
    × NoExactly (eq i o) out_of_reach (OutOfReach i ⊎ OutOfReach o)
    × NoExactly (approx_eq i o) out_of_reach (OutOfReach i ⊎ OutOfReach o)
    × EmptyExactly (intersection i o) out_of_reach (OutOfReach i ⊎ OutOfReach o)
    × EmptyExactly (union i o) out_of_reach (OutOfReach i ⊎ OutOfReach o)
    × GivenExactly (λ (y : Hausdorff). y.refusal) (directed_hausdorff_distance i o) (zero_distance (number out_of_reach)) (OutOfReach i ⊎ OutOfReach o)
unfolding contains_interval interior_contains_interval intersects interior_intersects eq approx_eq intersection union directed_hausdorff_distance
two-intervals i o = (
  two tests _ refl i o,
  two tests _ refl i o,
  two tests _ refl i o,
  two tests _ refl i o,
  two tests _ refl i o,
  two tests _ refl i o,
  two intervals _ refl i o,
  two intervals _ refl i o,
  two distances _ refl i o,
)

-- 1: `new`
pub new-refused : (lo hi : Float) → EmptyExactly («new» lo hi) out_of_reach ((in_reach lo ≡ false) ⊎ (in_reach hi ≡ false))
unfolding «new»
new-refused lo hi = one intervals _ refl (ends lo hi)

-- 3, "a point is no valid latlng (.. a line point out of reach; NaN always)": `from_point`
pub from-point-refused : (p : Float) → EmptyExactly (from_point p) bad_point (in_reach p ≡ false)
unfolding from_point
from-point-refused p = point intervals _ refl p

-- 3: `from_point_pair`
pub from-point-pair-refused : (p q : Float) → EmptyExactly (from_point_pair p q) bad_point ((in_reach p ≡ false) ⊎ (in_reach q ≡ false))
unfolding from_point_pair
from-point-pair-refused p q = points intervals _ refl p q

-- 1 and then 3: the operations on an interval and a point
pub interval-and-point : (i : Interval) (p : Float)
    → NoInTurn (contains i p) out_of_reach (OutOfReach i) bad_point (in_reach p ≡ false)
    × NoInTurn (interior_contains i p) out_of_reach (OutOfReach i) bad_point (in_reach p ≡ false)
    × ZeroInTurn (clamp_point i p) out_of_reach (OutOfReach i) bad_point (in_reach p ≡ false)
unfolding contains interior_contains clamp_point
interval-and-point i p = (beside tests _ refl 3 (omega arith) i p, beside tests _ refl 3 (omega arith) i p, beside numbers _ refl 3 (omega arith) i p)

-- 1 and then 3: "growth: the interval or rectangle handed in", every bit of it
pub growth-refused : (i : Interval) (p : Float)
    → GivenInTurn (λ (y : Answer). y.refusal) (add i p) (empty_under (number out_of_reach)) (record { refusal = number bad_point; value = i }) (OutOfReach i) (in_reach p ≡ false)
growth-refused = growth

-- 1 and then 4, "a margin, size or error is out of reach": an interval and a margin
pub interval-and-margin : (i : Interval) (m : Float) → EmptyInTurn (expanded i m) out_of_reach (OutOfReach i) bad_margin (in_reach m ≡ false)
unfolding expanded
interval-and-margin i m = beside intervals _ refl 4 (omega arith) i m

-- 1 and then 4: two intervals and an error
pub intervals-and-error : (i o : Interval) (e : Float) → NoInTurn (approx_eq_by i o e) out_of_reach (OutOfReach i ⊎ OutOfReach o) bad_margin (in_reach e ≡ false)
unfolding approx_eq_by
intervals-and-error i o e = beside_two tests _ refl i o e

-- ---- modules in port order
-- "The line Hausdorff answer is either a distance or Unbounded, the latter where the crate has infinity (first not empty, second empty); an empty first
-- gives 0."
pub hausdorff-cases : (i o : Interval) → InReach i → InReach o
    → (line.is_empty i ≡ true → directed_hausdorff_distance i o ≡ distance_answer (Of ZERO))
    × (line.is_empty i ≡ false → line.is_empty o ≡ true → directed_hausdorff_distance i o ≡ distance_answer Unbounded)
    × (line.is_empty i ≡ false → line.is_empty o ≡ false → directed_hausdorff_distance i o ≡ distance_answer (Of (line.farthest (plain_ends i) (plain_ends o))))
unfolding directed_hausdorff_distance line.directed_hausdorff_distance line.farthest
hausdorff-cases i o v w =
    let e = empty-plain i v in
    let f = empty-plain o w in
    (λ h. simp (two_in i v o w, e, h), λ h k. simp (two_in i v o w, e, h, f, k), λ h k. simp (two_in i v o w, e, h, f, k))

-- ---- strength of the contracts
-- "Show that two answers allowed by it coincide": of this distance, whose contract has a form of its own
pub one-hausdorff : (i o : Interval) (a b : Hausdorff) → IsHausdorff i o a → IsHausdorff i o b → a ≡ b
one-hausdorff = one-distance
