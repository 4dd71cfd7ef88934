-- What document 01 promises of circle intervals, in its order and words: each promise is one theorem, with all that it assumes in its own statement, of the
-- answers themselves. The proofs cite the laws. `Valid` is a valid interval of doubles, `OnCircle` a double of size at most PI, `Decides a P` says
-- that the test is accepted, and says yes exactly when P holds.
use mathlib.Core.Path.{◌≡◌, refl}
use mathlib.Core.Bool.{Bool, true, false, not}
use mathlib.Core.Logic.{◌⊎◌, ◌↔◌}
use lib.Ieee as Ieee
use lib.Ieee.{Float, binary64, of_bits, fits, lt, le, eq}
use Rattle.order.proofs.Bounds.{Between}
use Rattle.consts.specs.Constants.{PI, NEG-PI, TURN, NEG-ONE, HALF}
use Rattle.consts.specs.Refusal.{number, accepted, out_of_reach, bad_circle, bad_point}
use Rattle.consts.specs.Answer.{ZERO, number_answer, Decides}
use Rattle.consts.specs.Reading.{in_reach, plain, NoMinus}
use Rattle.consts.specs.Remainder.{remainder_of}
use Rattle.r1.specs.declared.interval.Interval.{Interval as Line}
use Rattle.s1.specs.declared.interval.Interval.{Interval}
use Rattle.s1.specs.Circle as circle
use Rattle.s1.specs.Circle.{ends, FULL, EMPTY, seam, moved_by, widened_to}
use Rattle.s1.specs.Reading.{plain_ends, NoMinusEnds, on_circle, read_one, read_two, read_with_point}
use Rattle.s1.specs.Refusals.{Reach, Out, Fine, Bad, OneOut, OneBad, EndsFine, EndsBad, Refusals, Says, Tells, Answers, LineAnswers}
use Rattle.s1.specs.Answers as answers
use Rattle.s1.specs.Answers.{is_valid, is_full, is_empty, is_inverted, fast_contains, contains, interior_contains, contains_interval, interior_contains_interval, intersects, interior_intersects, approx_eq, approx_eq_by}
use Rattle.s1.specs.Answers.{circle_answer, empty_under, «new», from_line, to_line, positive_distance, from_point_pair, invert, center, len, complement, complement_center, expanded, add, union, intersection, directed_hausdorff_distance}
use Rattle.s1.specs.Places.{holds, strictly_holds, Place, Valid, OnCircle, Inside, StrictlyInside, Meets, StrictlyMeets, Nothing, Everything}
use Rattle.s1.proofs.Readings.{valid-reach}
use Rattle.s1.proofs.Limits.{holds_plain}
use Rattle.s1.proofs.Held as held
use Rattle.s1.proofs.Laws as laws
use Rattle.s1.proofs.Places as places
use Rattle.s1.proofs.Seams as seams
use Rattle.s1.proofs.Ends as zeros
use Rattle.s1.proofs.Expansions as expansions
use Rattle.s1.proofs.Measures as measures
use Rattle.s1.proofs.Refusals as refusals

-- ==== Numbers and records
-- "The seam is written PI": any two points of the circle make a valid interval by `new`, which leaves a valid one as it is read
pub seam-written : ((lo hi : Float) → OnCircle lo → OnCircle hi → Valid («new» lo hi).value) × ((i : Interval) → Valid i → «new» i.lo i.hi ≡ circle_answer (plain_ends i))
seam-written = (seams.new-valid, seams.new-stays)

-- "The domain of demand 2 is valid operands whose numbers are in reach": what is valid is in reach
pub valid-in-reach : (i : Interval) → Valid i → Reach i
valid-in-reach i v = valid-reach i v.lo-double v.hi-double v.is-valid

-- "Negative zero coming in is read as zero", which changes no place that is held
pub negative-zero-read : (i : Interval) → Valid i → ((read_one i).value ≡ plain_ends i) × ((p : Float) (g : Bool) → Place p g → holds (plain_ends i) p g ≡ holds i p g)
unfolding read_one
negative-zero-read i v = (refl, λ p g q. holds_plain i v p g (held.at-num q))

-- "and no negative zero is written"
pub record NoNegativeZero : Type 0 where
  pub of-new : (lo hi : Float) → («new» lo hi).refusal ≡ number accepted → NoMinusEnds («new» lo hi).value
  pub of-from-line : (l : Line) → (from_line l).refusal ≡ number accepted → NoMinusEnds (from_line l).value
  pub of-to-line : (i : Interval) → (to_line i).refusal ≡ number accepted → NoMinus (to_line i).value.lo × NoMinus (to_line i).value.hi
  pub of-positive-distance : (a b : Float) → (positive_distance a b).refusal ≡ number accepted → NoMinus (positive_distance a b).value
  pub of-from-point-pair : (a b : Float) → (from_point_pair a b).refusal ≡ number accepted → NoMinusEnds (from_point_pair a b).value
  pub of-invert : (i : Interval) → (invert i).refusal ≡ number accepted → NoMinusEnds (invert i).value
  pub of-center : (i : Interval) → (center i).refusal ≡ number accepted → NoMinus (center i).value
  pub of-len : (i : Interval) → (len i).refusal ≡ number accepted → NoMinus (len i).value
  pub of-complement : (i : Interval) → (complement i).refusal ≡ number accepted → NoMinusEnds (complement i).value
  pub of-complement-center : (i : Interval) → (complement_center i).refusal ≡ number accepted → NoMinus (complement_center i).value
  pub of-expanded : (i : Interval) (m : Float) → (expanded i m).refusal ≡ number accepted → NoMinusEnds (expanded i m).value
  pub of-add : (i : Interval) (p : Float) → (add i p).refusal ≡ number accepted → NoMinusEnds (add i p).value
  pub of-union : (i o : Interval) → (union i o).refusal ≡ number accepted → NoMinusEnds (union i o).value
  pub of-intersection : (i o : Interval) → (intersection i o).refusal ≡ number accepted → NoMinusEnds (intersection i o).value
  pub of-directed-hausdorff : (i o : Interval) → (directed_hausdorff_distance i o).refusal ≡ number accepted → NoMinus (directed_hausdorff_distance i o).value

pub no-negative-zero : NoNegativeZero
no-negative-zero =
    record {
      of-new = λ lo hi h. zeros.new-plain lo hi;
      of-from-line = λ l h. zeros.from-line-plain l;
      of-to-line = λ i h. zeros.to-line-plain i;
      of-positive-distance = λ a b h. zeros.distance-plain a b;
      of-from-point-pair = λ a b h. zeros.from-point-pair-plain a b;
      of-invert = λ i h. zeros.invert-plain i;
      of-center = λ i h. zeros.center-plain i;
      of-len = λ i h. zeros.len-plain i;
      of-complement = λ i h. zeros.complement-plain i;
      of-complement-center = λ i h. zeros.complement-center-plain i;
      of-expanded = λ i m h. expansions.expanded-plain i m;
      of-add = zeros.add-plain;
      of-union = λ i o h. zeros.union-plain i o;
      of-intersection = λ i o h. zeros.intersection-plain i o;
      of-directed-hausdorff = λ i o h. zeros.hausdorff-plain i o;
    }

-- "Sums, differences and products are rounded once an operation": so a length lies from -1 to 2 PI, a centre from -PI to PI, a distance from 0 to 2 PI
pub measured : ((i : Interval) → Valid i → Between NEG-ONE TURN (len i).value × Between NEG-PI PI (center i).value)
    × ((a b : Float) → OnCircle a → OnCircle b → Between ZERO TURN (positive_distance a b).value)
measured = (λ i v. (measures.len-bounds i v, measures.center-bounds i v), measures.distance-bounds)

-- ==== Places
-- "FULL holds all, EMPTY none"
pub full-and-empty : Everything FULL × Nothing EMPTY
full-and-empty = (
  (laws.full-everything seams.full-valid).0 (unfold circle.is_full eq of_bits in refl),
  λ p g q h. held.clash (holds EMPTY p g) h (held.empty-fwd seams.empty-valid seams.empty-valid q (unfold circle.is_empty eq of_bits in refl)),
)

-- "ends included"; the gap just above the eastern end is not. "Without the gaps, [C00921FB54442D17, PI] would hold as much as FULL": it lacks the one
-- just above -PI
pub ends-and-gaps : (holds (ends ZERO HALF) HALF false ≡ true) × (holds (ends ZERO HALF) HALF true ≡ false) × (holds (ends (of_bits binary64 0xC00921FB54442D17) PI) NEG-PI true ≡ false)
unfolding of_bits lt le eq
ends-and-gaps = (refl, refl, refl)

-- "-PI is the place PI"
pub seam-place : (i : Interval) → Valid i → Decides (contains i NEG-PI) (holds i PI false ≡ true)
seam-place i v =
    let q : OnCircle NEG-PI = record { is-double = unfold fits of_bits in refl; on-circle = unfold on_circle le lt eq of_bits in refl } in
    let e : seam NEG-PI ≡ PI = unfold seam eq of_bits in refl in
    rw e at (places.contains-place i v NEG-PI q)

-- of a point: exactly when its place, -PI read as PI, is held
pub contains-exactly : (i : Interval) (p : Float) → Valid i → OnCircle p → Decides (contains i p) (holds i (seam p) false ≡ true)
contains-exactly i p v q = places.contains-place i v p q

-- `fast_contains` says the same of every point but -PI
pub fast-contains-exactly : (i : Interval) (p : Float) → Valid i → OnCircle p → eq p NEG-PI ≡ false → Decides (fast_contains i p) (holds i (seam p) false ≡ true)
fast-contains-exactly i p v q h = places.fast-contains-place i v p q h

-- "`contains` holds exactly when each place of the other is in this one"
pub contains-interval-exactly : (i o : Interval) → Valid i → Valid o → Decides (contains_interval i o) (Inside i o)
contains-interval-exactly = places.contains-interval-places

-- "`intersects` exactly when a place is shared"
pub intersects-exactly : (i o : Interval) → Valid i → Valid o → Decides (intersects i o) (Meets i o)
intersects-exactly = places.intersects-places

-- "`union` holds both operands, and if their longitudes share a place its longitude holds no other place"; and it is valid
pub union-exactly : (i o : Interval) → Valid i → Valid o
    → Valid (union i o).value × (Inside (union i o).value i × Inside (union i o).value o)
    × (Meets i o → (p : Float) (g : Bool) → Place p g → holds (union i o).value p g ≡ true → (holds i p g ≡ true) ⊎ (holds o p g ≡ true))
union-exactly i o v w = (places.union-valid i o v w, places.union-holds i o v w, places.union-only i o v w)

-- "`intersection` holds every common place, and its longitude lies within one operand's"; and it is valid
pub intersection-exactly : (i o : Interval) → Valid i → Valid o
    → Valid (intersection i o).value × ((p : Float) (g : Bool) → Place p g → holds i p g ≡ true → holds o p g ≡ true → holds (intersection i o).value p g ≡ true)
    × (Inside i (intersection i o).value ⊎ Inside o (intersection i o).value)
intersection-exactly i o v w = (places.intersection-valid i o v w, places.intersection-holds i o v w, places.intersection-within i o v w)

-- the interior tests, by the places strictly between the ends: FULL has all, a single point and EMPTY none
pub interior-contains-exactly : (i : Interval) (p : Float) → Valid i → OnCircle p → Decides (interior_contains i p) (strictly_holds i (seam p) false ≡ true)
interior-contains-exactly i p v q = places.interior-contains-place i v p q

pub interior-contains-interval-exactly : (i o : Interval) → Valid i → Valid o → Decides (interior_contains_interval i o) (StrictlyInside i o)
interior-contains-interval-exactly = places.interior-contains-interval-places

pub interior-intersects-exactly : (i o : Interval) → Valid i → Valid o → Decides (interior_intersects i o) (StrictlyMeets i o)
interior-intersects-exactly = places.interior-intersects-places

-- `is_empty` exactly when no place is held, `is_full` exactly when every place is
pub empty-or-full-exactly : (i : Interval) → Valid i → Decides (is_empty i) (Nothing i) × Decides (is_full i) (Everything i)
empty-or-full-exactly i v = (places.is-empty-places i v, places.is-full-places i v)

-- two valid intervals hold the same places exactly when `eq` says so, and then their numbers, zeros alike, are equal
pub equal-exactly : (i o : Interval) → Valid i → Valid o → Decides (answers.eq i o) (Inside i o × Inside o i) × (Inside i o → Inside o i → plain_ends i ≡ plain_ends o)
equal-exactly i o v w = (places.equal-places i o v w, places.equal-numbers i o v w)

-- `complement` holds exactly the places that do not lie strictly inside; and it is valid
pub complement-exactly : (i : Interval) → Valid i
    → Valid (complement i).value × ((p : Float) (g : Bool) → Place p g → (holds (complement i).value p g ≡ true) ↔ (not (strictly_holds i p g) ≡ true))
complement-exactly i v = (places.complement-valid i v, places.complement-places i v)

-- `invert` swaps the ends; and the answer is valid
pub invert-swaps : (i : Interval) → Valid i → Valid (invert i).value × (invert i ≡ circle_answer (ends (plain i.hi) (plain i.lo)))
invert-swaps i v = (seams.invert-valid i v, seams.invert-is i v)

-- `from_point_pair` holds both points; and it is valid
pub pair-holds-both : (p q : Float) → OnCircle p → OnCircle q
    → Valid (from_point_pair p q).value × ((holds (from_point_pair p q).value (seam p) false ≡ true) × (holds (from_point_pair p q).value (seam q) false ≡ true))
pair-holds-both p q a b = (places.from-point-pair-valid p q a b, places.from-point-pair-holds p q a b)

-- growth holds all that was held and the point, is valid, and each of its ends is that end of the start or the point, -PI read as PI
pub add-exactly : (i : Interval) (p : Float) → Valid i → OnCircle p
    → Valid (add i p).value × (Inside (add i p).value i × (holds (add i p).value (seam p) false ≡ true))
    × ((((add i p).value.lo ≡ plain i.lo) ⊎ ((add i p).value.lo ≡ seam (plain p))) × (((add i p).value.hi ≡ plain i.hi) ⊎ ((add i p).value.hi ≡ seam (plain p))))
add-exactly i p v q = (places.add-valid i p v q, places.add_holds i p v q, zeros.add-ends i p v q)

-- ==== Refusal numbers. For any numbers whatever, NaN too: each number is given exactly when its reason stands, and what stands beside it
-- "1: an interval has a number out of reach"; "22 (circle interval not valid)", "for intervals only 22"; beside them "empty / no / zero". An interval alone:
pub record Alone (i : Interval) : Type 0 where
  pub numbers : Refusals (read_one i).refusal (Fine i) (Out i) (Bad i) ⊥ ⊥
  pub of-is-valid : Says (read_one i).refusal (is_valid i)
  pub of-is-full : Says (read_one i).refusal (is_full i)
  pub of-is-empty : Says (read_one i).refusal (is_empty i)
  pub of-is-inverted : Says (read_one i).refusal (is_inverted i)
  pub of-invert : Answers (read_one i).refusal (invert i)
  pub of-complement : Answers (read_one i).refusal (complement i)
  pub of-to-line : LineAnswers (read_one i).refusal (to_line i)
  pub of-center : Tells (read_one i).refusal (center i)
  pub of-len : Tells (read_one i).refusal (len i)
  pub of-complement-center : Tells (read_one i).refusal (complement_center i)

pub refusals-alone : (i : Interval) → Alone i
unfolding is_valid is_full is_empty is_inverted invert complement to_line center len complement_center
refusals-alone i =
    let n = (read_one i).refusal in
    record {
      numbers = refusals.of_one i;
      of-is-valid = refusals.says n _;
      of-is-full = refusals.says n _;
      of-is-empty = refusals.says n _;
      of-is-inverted = refusals.says n _;
      of-invert = refusals.answers n _;
      of-complement = refusals.answers n _;
      of-to-line = refusals.line-answers n _;
      of-center = refusals.tells n _;
      of-len = refusals.tells n _;
      of-complement-center = refusals.tells n _;
    }

-- "Order: operands left to right", 1 before 22 in each. Two intervals:
pub record Two (i o : Interval) : Type 0 where
  pub numbers : Refusals (read_two i o).refusal (Fine i × Fine o) (OneOut i o) (OneBad i o) ⊥ ⊥
  pub of-contains-interval : Says (read_two i o).refusal (contains_interval i o)
  pub of-interior-contains-interval : Says (read_two i o).refusal (interior_contains_interval i o)
  pub of-intersects : Says (read_two i o).refusal (intersects i o)
  pub of-interior-intersects : Says (read_two i o).refusal (interior_intersects i o)
  pub of_eq : Says (read_two i o).refusal (answers.eq i o)
  pub of-approx-eq : Says (read_two i o).refusal (approx_eq i o)
  pub of-union : Answers (read_two i o).refusal (union i o)
  pub of-intersection : Answers (read_two i o).refusal (intersection i o)
  pub of-directed-hausdorff : Tells (read_two i o).refusal (directed_hausdorff_distance i o)

pub refusals-two : (i o : Interval) → Two i o
unfolding contains_interval interior_contains_interval intersects interior_intersects answers.eq approx_eq union intersection directed_hausdorff_distance
refusals-two i o =
    let n = (read_two i o).refusal in
    record {
      numbers = refusals.of_two i o;
      of-contains-interval = refusals.says n _;
      of-interior-contains-interval = refusals.says n _;
      of-intersects = refusals.says n _;
      of-interior-intersects = refusals.says n _;
      of_eq = refusals.says n _;
      of-approx-eq = refusals.says n _;
      of-union = refusals.answers n _;
      of-intersection = refusals.answers n _;
      of-directed-hausdorff = refusals.tells n _;
    }

-- "3: a circle point of size over PI; NaN always", after the interval; beside it no. An interval and a point:
pub record WithPoint (i : Interval) (p : Float) : Type 0 where
  pub numbers : Refusals (read_with_point i p).refusal (Fine i × (on_circle p ≡ true)) (Out i) (Bad i) (Fine i × (on_circle p ≡ false)) ⊥
  pub of-fast-contains : Says (read_with_point i p).refusal (fast_contains i p)
  pub of-contains : Says (read_with_point i p).refusal (contains i p)
  pub of-interior-contains : Says (read_with_point i p).refusal (interior_contains i p)

pub refusals-with-point : (i : Interval) (p : Float) → WithPoint i p
unfolding fast_contains contains interior_contains
refusals-with-point i p =
    let n = (read_with_point i p).refusal in
    record { numbers = refusals.of-one-and-point i p; of-fast-contains = refusals.says n _; of-contains = refusals.says n _; of-interior-contains = refusals.says n _ }

-- "4: a margin is out of reach", after the interval; beside it EMPTY
pub refusals-expanded : (i : Interval) (m : Float)
    → Refusals (expanded i m).refusal (Fine i × (in_reach m ≡ true)) (Out i) (Bad i) ⊥ (Fine i × (in_reach m ≡ false)) × Answers (expanded i m).refusal (expanded i m)
refusals-expanded i m = let a = refusals.expanded-answers i m in (rw a.number_is (refusals.of-one-and-margin i m), refusals.own-answers a)

-- "4: an error is out of reach", after both intervals; beside it no
pub refusals-approx-eq-by : (i o : Interval) (e : Float)
    → Refusals (approx_eq_by i o e).refusal ((Fine i × Fine o) × (in_reach e ≡ true)) (OneOut i o) (OneBad i o) ⊥ ((Fine i × Fine o) × (in_reach e ≡ false))
    × Says (approx_eq_by i o e).refusal (approx_eq_by i o e)
refusals-approx-eq-by i o e = let a = refusals.approx-says i o e in (rw a.number_is (refusals.of-two-and-error i o e), refusals.own-says a)

-- "for circle `new`, an end of size over PI": 22, where both ends are in reach; 1 where one is NaN or of size over 2^500; beside both EMPTY
pub refusals-new : (lo hi : Float)
    → Refusals («new» lo hi).refusal (EndsFine lo hi) (Out (ends lo hi)) (EndsBad lo hi) ⊥ ⊥ × Answers («new» lo hi).refusal («new» lo hi)
refusals-new lo hi = let a = refusals.new-answers lo hi in (rw a.number_is (refusals.of-ends lo hi), refusals.own-answers a)

-- "for line to circle, a result not valid": 22, where both ends are in reach; 1 where one is not; beside both EMPTY
pub refusals-from-line : (l : Line)
    → Refusals (from_line l).refusal (Fine (ends l.lo l.hi)) (Out (ends l.lo l.hi)) (Bad (ends l.lo l.hi)) ⊥ ⊥ × Answers (from_line l).refusal (from_line l)
refusals-from-line l = let a = refusals.from-line-answers l in (rw a.number_is (refusals.of_one (ends l.lo l.hi)), refusals.own-answers a)

-- two points: 3 alone, for the first or the second; beside it EMPTY, or zero
pub refusals-from-point-pair : (p q : Float)
    → Refusals (from_point_pair p q).refusal ((on_circle p ≡ true) × (on_circle q ≡ true)) ⊥ ⊥ ((on_circle p ≡ false) ⊎ ((on_circle p ≡ true) × (on_circle q ≡ false))) ⊥
    × Answers (from_point_pair p q).refusal (from_point_pair p q)
refusals-from-point-pair p q = let a = refusals.pair-answers p q in (rw a.number_is (refusals.of-points p q), refusals.own-answers a)

pub refusals-positive-distance : (p q : Float)
    → Refusals (positive_distance p q).refusal ((on_circle p ≡ true) × (on_circle q ≡ true)) ⊥ ⊥ ((on_circle p ≡ false) ⊎ ((on_circle p ≡ true) × (on_circle q ≡ false))) ⊥
    × Tells (positive_distance p q).refusal (positive_distance p q)
refusals-positive-distance p q = let a = refusals.distance-tells p q in (rw a.number_is (refusals.of-points p q), refusals.own-tells a)

-- growth: 1 and 22 on the interval, with EMPTY; then 3 on the point, with "the interval handed in", every bit of it
pub record Growth (i : Interval) (p : Float) : Type 0 where
  pub numbers : Refusals (add i p).refusal (Fine i × (on_circle p ≡ true)) (Out i) (Bad i) (Fine i × (on_circle p ≡ false)) ⊥
  pub under-1 : Out i → add i p ≡ empty_under (number out_of_reach)
  pub under-22 : Bad i → add i p ≡ empty_under (number bad_circle)
  pub under-3 : Fine i → on_circle p ≡ false → add i p ≡ record { refusal = number bad_point; value = i }

pub refusals-growth : (i : Interval) (p : Float) → Growth i p
refusals-growth i p =
    record {
      numbers = refusals.of-add i p;
      under-1 = (refusals.add-empty i p).0;
      under-22 = (refusals.add-empty i p).1;
      under-3 = λ f h. refusals.add-refused i p h f;
    }

-- ==== Modules, 3
-- "`len` of EMPTY is -1"
pub empty-length : len EMPTY ≡ number_answer NEG-ONE
unfolding len read_one circle.is_valid in_reach plain circle.len Ieee.add Ieee.sub of_bits lt le eq
empty-length = refl

-- "`expanded` tests for FULL and EMPTY with `DBL_EPSILON` before any remainder": it is the crate's arithmetic with IEEE 754's remainder; and it is valid
pub expanded-exactly : (i : Interval) (m : Float) → Valid i → fits binary64 m ≡ true → in_reach m ≡ true
    → (expanded i m ≡ circle_answer (widened_to (moved_by remainder_of (plain_ends i) (plain m)) (plain_ends i) (plain m))) × Valid (expanded i m).value
expanded-exactly i m v f r = (expansions.expanded-ieee i m v f r, expansions.expanded-valid i m v f r)

-- "Directed Hausdorff: contained gives 0, EMPTY second gives PI"
pub hausdorff-ends : (i o : Interval) → Valid i → Valid o
    → (Inside o i → directed_hausdorff_distance i o ≡ number_answer ZERO) × ((Inside o i → ⊥) → Nothing o → directed_hausdorff_distance i o ≡ number_answer PI)
hausdorff-ends i o v w = (measures.hausdorff-inside i o v w, measures.hausdorff-empty i o v w)
