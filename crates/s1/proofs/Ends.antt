-- Whatever is so of the ends that go into a choice, and of PI and -PI, is so of the ends that come out: said once, over any statements P of a western and Q
-- of an eastern end. With "has no negative zero" it says that none is written, and of growth whose ends it has. Assumes nothing.
use mathlib.Core.Path.{◌≡◌, refl}
use mathlib.Core.Bool.{Bool, true, false, ◌&&◌, not, ◌||◌, cond}
use mathlib.Core.Logic.{◌⊎◌, inl, inr}
use Prim.Native.Nat.{ℕ}
use lib.Dec.{eqb}
use borrow.Author.Tests.{eqb-false}
use lib.Ieee.{Float, lt, le, eq, of_bits}
use Rattle.consts.specs.declared.answer.Number.{Number}
use Rattle.consts.specs.Constants.{PI, NEG-PI}
use Rattle.consts.specs.Answer.{ZERO, told}
use Rattle.consts.specs.Refusal.{number, accepted, first_refusal}
use Rattle.consts.specs.Reading.{plain, NoMinus}
use Rattle.consts.proofs.Readings.{plain-plain}
use Rattle.r1.specs.Line.{ONE}
use Rattle.r1.specs.declared.interval.Interval.{Interval as Line}
use Rattle.r1.specs.declared.interval.Answer.{Answer as LineAnswer}
use Rattle.s1.specs.declared.interval.Interval.{Interval}
use Rattle.s1.specs.declared.interval.Answer.{Answer}
use Rattle.s1.specs.Circle as circle
use Rattle.s1.specs.Circle.{ends, seam, is_empty, is_point, fast_contains, contains, contains_interval}
use Rattle.s1.specs.Reading.{plain_ends, NoMinusEnds, read_one, read_ends, read_two, read_point}
use Rattle.s1.specs.Answers as answers
use Rattle.s1.specs.Answers.{circle_answer, empty_under, interval, «new», from_line, to_line, positive_distance, from_point_pair, invert, center, len, union, intersection, complement, complement_center, add}
use Rattle.s1.specs.Places.{Valid}
use Rattle.s1.proofs.Limits.{OnCircle}
use Rattle.s1.proofs.Places.{add_is}

pub cond-is : {A : Type 0} (P : A → Type 0) (t : Bool) {x y : A} → P x → P y → P (cond t x y)
cond-is P true p q = p
cond-is P false p q = q

module _ (P Q : Float → Type 0) where
  abbrev Ends : Interval → Type 0
  Ends u = P u.lo × Q u.hi

  pub union-ends : Ends (ends NEG-PI PI) → (i o : Interval) → Ends i → Ends o → Ends (circle.union i o)
  unfolding circle.union
  union-ends f i o a b =
      cond-is Ends (is_empty o) a
      (cond-is Ends (fast_contains i o.lo)
      (cond-is Ends (fast_contains i o.hi) (cond-is Ends (contains_interval i o) a f) (a.0, b.1))
      (cond-is Ends (fast_contains i o.hi) (b.0, a.1)
      (cond-is Ends (is_empty i || fast_contains o i.lo) b
      (cond-is Ends (lt (circle.positive_distance o.hi i.lo) (circle.positive_distance i.hi o.lo)) (b.0, a.1) (a.0, b.1)))))

  pub intersection-ends : Ends (ends PI NEG-PI) → (i o : Interval) → Ends i → Ends o → Ends (circle.intersection i o)
  unfolding circle.intersection
  intersection-ends e i o a b =
      cond-is Ends (is_empty o) e
      (cond-is Ends (fast_contains i o.lo)
      (cond-is Ends (fast_contains i o.hi) (cond-is Ends (lt (circle.len o) (circle.len i)) b a) (b.0, a.1))
      (cond-is Ends (fast_contains i o.hi) (a.0, b.1)
      (cond-is Ends (fast_contains o i.lo) a e)))

  pub read-add-ends : (x : Float) → P (seam x) → Q (seam x) → (i : Interval) → Ends i → Ends (circle.add i x)
  unfolding circle.add
  read-add-ends x p q i a =
      cond-is Ends (fast_contains i (seam x)) a
      (cond-is Ends (is_empty i) (p, q)
      (cond-is Ends (lt (circle.positive_distance (seam x) i.lo) (circle.positive_distance i.hi (seam x))) (p, a.1) (a.0, q)))

-- ---- growth: each end is that end of the start or the point, -PI read as PI
pub add-ends : (i : Interval) (x : Float) → Valid i → OnCircle x
    → (((add i x).value.lo ≡ plain i.lo) ⊎ ((add i x).value.lo ≡ seam (plain x))) × (((add i x).value.hi ≡ plain i.hi) ⊎ ((add i x).value.hi ≡ seam (plain x)))
add-ends i x v q =
    rw (add_is i x v q)
    (read-add-ends (λ y. (y ≡ plain i.lo) ⊎ (y ≡ seam (plain x))) (λ y. (y ≡ plain i.hi) ⊎ (y ≡ seam (plain x))) (plain x) (inr refl) (inr refl) (plain_ends i) (inl refl, inl refl))

-- ---- no negative zero
pub plain-PI : NoMinus PI
unfolding plain eq of_bits
plain-PI = refl

pub plain-NEG : NoMinus NEG-PI
unfolding plain eq of_bits
plain-NEG = refl

plain-ZERO : NoMinus ZERO
unfolding plain eq of_bits
plain-ZERO = refl

pub plain-ends : (i : Interval) → NoMinusEnds (plain_ends i)
plain-ends i = (plain-plain i.lo, plain-plain i.hi)

seam-no-minus : (x : Float) → NoMinus x → NoMinus (seam x)
unfolding seam
seam-no-minus x h = cond-is NoMinus (eq x NEG-PI) plain-PI h

pub normal-no-minus : (x y : Float) → NoMinus x → NoMinus y → NoMinusEnds (circle.«new» x y)
unfolding circle.«new»
normal-no-minus x y p q = (cond-is NoMinus (eq x NEG-PI && not (eq y PI)) plain-PI p, cond-is NoMinus (eq y NEG-PI && not (eq x PI)) plain-PI q)

-- an answer under any number has none where what it would answer has none
pub interval-plain : (n : ℕ) (u : Interval) → NoMinusEnds u → NoMinusEnds (interval n u).value
interval-plain n u h = cond-is (λ (a : Answer). NoMinusEnds a.value) (eqb n 0) h (plain-PI, plain-NEG)

told-plain : (n : ℕ) (x : Float) → NoMinus x → NoMinus (told n x).value
told-plain n x h = cond-is (λ (a : Number). NoMinus a.value) (eqb n 0) h plain-ZERO

module _ (i o : Interval) where
  pub union-plain : NoMinusEnds (union i o).value
  unfolding union read_two read_one
  union-plain = interval-plain (read_two i o).refusal (circle.union (plain_ends i) (plain_ends o)) (union-ends NoMinus NoMinus (plain-NEG, plain-PI) (plain_ends i) (plain_ends o) (plain-ends i) (plain-ends o))

  pub intersection-plain : NoMinusEnds (intersection i o).value
  unfolding intersection read_two read_one
  intersection-plain = interval-plain (read_two i o).refusal (circle.intersection (plain_ends i) (plain_ends o)) (intersection-ends NoMinus NoMinus (plain-PI, plain-NEG) (plain_ends i) (plain_ends o) (plain-ends i) (plain-ends o))

  pub hausdorff-plain : NoMinus (answers.directed_hausdorff_distance i o).value
  unfolding answers.directed_hausdorff_distance read_two read_one circle.directed_hausdorff_distance
  hausdorff-plain =
      told-plain (read_two i o).refusal (circle.directed_hausdorff_distance (plain_ends i) (plain_ends o))
      (cond-is NoMinus (contains_interval (plain_ends o) (plain_ends i)) plain-ZERO
      (cond-is NoMinus (is_empty (plain_ends o)) plain-PI
      (cond-is NoMinus (contains (plain_ends i) (circle.complement_center (plain_ends o))) (plain-plain _) (plain-plain _))))

module _ (i : Interval) where
  pub invert-plain : NoMinusEnds (invert i).value
  unfolding invert read_one
  invert-plain = interval-plain (read_one i).refusal (circle.invert (plain_ends i)) (plain-plain i.hi, plain-plain i.lo)

  pub complement-plain : NoMinusEnds (complement i).value
  unfolding complement read_one circle.complement
  complement-plain = interval-plain (read_one i).refusal (circle.complement (plain_ends i)) (cond-is NoMinusEnds (is_point (plain_ends i)) (plain-NEG, plain-PI) (plain-plain i.hi, plain-plain i.lo))

  pub center-plain : NoMinus (center i).value
  unfolding center read_one circle.center
  center-plain = told-plain (read_one i).refusal (circle.center (plain_ends i)) (plain-plain _)

  pub len-plain : NoMinus (len i).value
  unfolding len read_one
  len-plain = told-plain (read_one i).refusal (plain (circle.len (plain_ends i))) (plain-plain _)

  pub complement-center-plain : NoMinus (complement_center i).value
  unfolding complement_center read_one circle.complement_center circle.center
  complement-center-plain = told-plain (read_one i).refusal (circle.complement_center (plain_ends i)) (cond-is NoMinus (is_point (plain_ends i)) (plain-plain _) (plain-plain _))

  -- what growth refuses with 3 it hands back as it came, with any zero
  pub add-plain : (x : Float) → (add i x).refusal ≡ number accepted → NoMinusEnds (add i x).value
  unfolding add read_one read_point
  add-plain x =
      go (read_one i).refusal (read_point x).refusal (eqb (read_one i).refusal 0) (eqb (read_point x).refusal 0) refl (circle.add (plain_ends i) (plain x))
      (read-add-ends NoMinus NoMinus (plain x) (seam-no-minus (plain x) (plain-plain x)) (seam-no-minus (plain x) (plain-plain x)) (plain_ends i) (plain-ends i))
    where
      -- under the number m of the interval and k of the point
      go : (m k : ℕ) (s t : Bool) → eqb k 0 ≡ t → (u : Interval) → NoMinusEnds u
          → (cond s (cond t (circle_answer u) (record { refusal = k; value = i })) (empty_under m)).refusal ≡ number accepted
          → NoMinusEnds (cond s (cond t (circle_answer u) (record { refusal = k; value = i })) (empty_under m)).value
      go m k true true z u h e = h
      go m k true false z u h e = absurd (eqb-false k 0 z e)
      go m k false t z u h e = (plain-PI, plain-NEG)

module _ (x y : Float) where
  pub new-plain : NoMinusEnds («new» x y).value
  unfolding «new» read_ends
  new-plain = interval-plain (read_ends x y).refusal (circle.«new» (plain x) (plain y)) (normal-no-minus (plain x) (plain y) (plain-plain x) (plain-plain y))

  pub from-point-pair-plain : NoMinusEnds (from_point_pair x y).value
  unfolding from_point_pair read_point circle.from_point_pair
  from-point-pair-plain =
      let a = seam-no-minus (plain x) (plain-plain x) in
      let b = seam-no-minus (plain y) (plain-plain y) in
      interval-plain (first_refusal (read_point x).refusal (read_point y).refusal) (circle.from_point_pair (plain x) (plain y)) (cond-is NoMinusEnds (le (circle.positive_distance (seam (plain x)) (seam (plain y))) PI) (a, b) (b, a))

  pub distance-plain : NoMinus (positive_distance x y).value
  unfolding positive_distance read_point
  distance-plain = told-plain (first_refusal (read_point x).refusal (read_point y).refusal) (plain (circle.positive_distance (plain x) (plain y))) (plain-plain _)

pub from-line-plain : (l : Line) → NoMinusEnds (from_line l).value
unfolding from_line read_one
from-line-plain l = interval-plain (read_one (ends l.lo l.hi)).refusal (ends (plain l.lo) (plain l.hi)) (plain-plain l.lo, plain-plain l.hi)

pub to-line-plain : (i : Interval) → NoMinus (to_line i).value.lo × NoMinus (to_line i).value.hi
unfolding to_line read_one
to-line-plain i =
    let z : NoMinus ONE × NoMinus ZERO = unfold plain eq of_bits in (refl, refl) in
    cond-is (λ (a : LineAnswer). NoMinus a.value.lo × NoMinus a.value.hi) (eqb (read_one i).refusal 0) (plain-plain i.lo, plain-plain i.hi) z
