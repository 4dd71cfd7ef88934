-- Whatever is so of the ends that go into a choice is so of the ends that come out: said once, over any statements P of a western and Q of an eastern
-- end. With "is a place" it says that answers are in reach, with "has no negative zero" that none is written, and of growth whose ends it has.
-- Assumes nothing.
use mathlib.Core.Path.{◌≡◌, refl, sym, ap, subst}
use mathlib.Core.Bool.{Bool, true, false, ◌&&◌, cond, false≢true}
use mathlib.Core.Logic.{◌⊎◌, inl, inr}
use Prim.Native.Nat.{ℕ, ◌*◌}
use native.Mathlib.Omega.{arith}
use lib.Dec.{ltb, eqb}
use lib.IntN.{ℤ}
use lib.Ieee.{Float, nan, inf, fin, up, down, lt, le, eq, of_bits}
use borrow.Author.Tests.{ltb-true, ne_eqb}
use Rattle.order.specs.Choice.{min, max}
use Rattle.consts.specs.Reading.{in_reach, plain, NoMinus}
use Rattle.consts.specs.Refusal.{number, accepted, out_of_reach, bad_point, given}
use Rattle.consts.specs.declared.answer.Number.{Number}
use Rattle.consts.specs.Answer.{ZERO, told}
use Rattle.consts.proofs.Readings.{plain-plain}
use Rattle.r1.specs.declared.interval.Interval.{Interval}
use Rattle.r1.specs.declared.interval.Answer.{Answer}
use Rattle.r1.specs.Answers.{Hausdorff}
use Rattle.r1.specs.Line as line
use Rattle.r1.specs.Line.{EMPTY, is_empty, farthest, distance_of, directed_hausdorff_distance}
use Rattle.r1.specs.Reading.{plain_ends, NoMinusEnds}
use Rattle.r1.specs.Answers.{line_answer, empty_under, interval, distance_answer, zero_distance, from_point_pair, clamp_point, union, intersection, add}
use Rattle.r1.specs.Places.{Place, InReach}
use Rattle.r1.proofs.Readings.{both_in, place-plain, reach-plain}
use Rattle.r1.proofs.Accepted.{union-is, intersection-is, clamp-is, add-chosen, add_is, pair_is}
use Rattle.r1.proofs.Distances.{distance_is}

pub cond-is : {A : Type 0} (P : A → Type 0) (t : Bool) {x y : A} → P x → P y → P (cond t x y)
cond-is P true p q = p
cond-is P false p q = q

pub smaller-is : (P : Float → Type 0) {x y : Float} → P x → P y → P (min x y)
unfolding min
smaller-is P {x} {y} p q = cond-is P (lt y x) q p

pub larger-is : (P : Float → Type 0) {x y : Float} → P x → P y → P (max x y)
unfolding max
larger-is P {x} {y} p q = cond-is P (lt x y) q p

module _ (P Q : Float → Type 0) where
  abbrev Ends : Interval → Type 0
  Ends u = P u.lo × Q u.hi

  pub union-ends : (i o : Interval) → Ends i → Ends o → Ends (line.union i o)
  unfolding line.union
  union-ends i o a b = cond-is Ends (is_empty i) b (cond-is Ends (is_empty o) a (smaller-is P a.0 b.0, larger-is Q a.1 b.1))

  pub intersection-ends : (i o : Interval) → Ends i → Ends o → Ends (line.intersection i o)
  unfolding line.intersection
  intersection-ends i o a b = (larger-is P a.0 b.0, smaller-is Q a.1 b.1)

  module _ (x : Float) (p : P x) (q : Q x) where
    pub read-add-ends : (i : Interval) → Ends i → Ends (line.add i x)
    unfolding line.add
    read-add-ends i a = cond-is Ends (is_empty i) (p, q) (cond-is Ends (lt x i.lo) (p, a.1) (cond-is Ends (lt i.hi x) (a.0, q) a))

    pub pair_ends : (y : Float) → P y → Q y → Ends (line.from_point_pair x y)
    unfolding line.from_point_pair
    pair_ends y r s = cond-is Ends (le x y) (p, s) (r, q)

-- ---- growth: each end is that end of the start or the point
pub add-ends : (i : Interval) (x : Float) → InReach i → Place x
    → (((add i x).value.lo ≡ plain i.lo) ⊎ ((add i x).value.lo ≡ plain x)) × (((add i x).value.hi ≡ plain i.hi) ⊎ ((add i x).value.hi ≡ plain x))
add-ends i x v q =
    rw (add_is i x v q)
    (read-add-ends (λ y. (y ≡ plain i.lo) ⊎ (y ≡ plain x)) (λ y. (y ≡ plain i.hi) ⊎ (y ≡ plain x)) (plain x) (inr refl) (inr refl) (plain_ends i) (inl refl, inl refl))

-- ---- in reach: what is answered can be asked of again (but for `expanded`, which may leave reach)
reach_of : {u : Interval} → Place u.lo × Place u.hi → InReach u
reach_of a = record { lo-place = a.0; hi-place = a.1 }

ends_of : {u : Interval} → InReach u → Place u.lo × Place u.hi
ends_of v = (v.lo-place, v.hi-place)

module _ (i o : Interval) (v : InReach i) (w : InReach o) where
  pub union-reach : InReach (union i o).value
  union-reach = rw (union-is i o v w) (reach_of (union-ends Place Place (plain_ends i) (plain_ends o) (ends_of (reach-plain v)) (ends_of (reach-plain w))))

  pub intersection-reach : InReach (intersection i o).value
  intersection-reach = rw (intersection-is i o v w) (reach_of (intersection-ends Place Place (plain_ends i) (plain_ends o) (ends_of (reach-plain v)) (ends_of (reach-plain w))))

pub add-reach : (i : Interval) (x : Float) → InReach i → Place x → InReach (add i x).value
add-reach i x v q = rw (add_is i x v q) (reach_of (read-add-ends Place Place (plain x) (place-plain q) (place-plain q) (plain_ends i) (ends_of (reach-plain v))))

pub clamp-reach : (i : Interval) (x : Float) → InReach i → Place x → Place (clamp_point i x).value
unfolding line.clamp_point
clamp-reach i x v q = rw (clamp-is i x v q) (larger-is Place (place-plain v.lo-place) (smaller-is Place (place-plain v.hi-place) (place-plain q)))

pub from-point-pair-reach : (x y : Float) → Place x → Place y → InReach (from_point_pair x y).value
from-point-pair-reach x y q r =
    rw (pair_is x y q r) (reach_of (pair_ends Place Place (plain x) (place-plain q) (place-plain q) (plain y) (place-plain r) (place-plain r)))

-- ---- no negative zero is written
pub plain-ends : (i : Interval) → NoMinusEnds (plain_ends i)
plain-ends i = (plain-plain i.lo, plain-plain i.hi)

pub zero-plain : NoMinus ZERO
unfolding plain eq of_bits
zero-plain = refl

empty-plain : NoMinusEnds EMPTY
unfolding plain eq of_bits
empty-plain = (refl, refl)

-- a number above zero is no zero
not-level : (a b : ℕ) (t : Bool) → ltb a b ≡ true → eqb b a && t ≡ false
not-level a b t h = ap (λ (s : Bool). s && t) (ne_eqb b a (λ k. omega (arith, ltb-true a b h)))

above : (d : ℤ) (x : Float) → lt (fin false 0 d) x ≡ true → eq x (fin false 0 d) ≡ false
unfolding lt eq
above d nan h = absurd (false≢true h)
above d (inf s) h = refl
above d (fin true m e) h = absurd (false≢true h)
above d (fin false m e) h = not-level (0 * up d * down e) (m * up e * down d) true h

above_zero : (x : Float) → lt ZERO x ≡ true → eq x ZERO ≡ false
unfolding of_bits
above_zero x h = above _ x h

from-zero-plain : (x : Float) → NoMinus (max ZERO x)
unfolding max
from-zero-plain x = go (lt ZERO x) refl
  where
    go : (t : Bool) → lt ZERO x ≡ t → NoMinus (cond t x ZERO)
    go true h = unfold plain in (ap (λ (t : Bool). cond t ZERO x) (above_zero x h))
    go false h = zero-plain

-- of an answer, where its value has none: a refused one is the standard empty or zero
pub interval-plain : (n : ℕ) (u : Interval) → NoMinusEnds u → NoMinusEnds (interval n u).value
interval-plain n u p = cond-is (λ (a : Answer). NoMinusEnds a.value) (eqb n 0) p empty-plain

pub told-plain : (n : ℕ) (x : Float) → NoMinus x → NoMinus (told n x).value
told-plain n x p = cond-is (λ (a : Number). NoMinus a.value) (eqb n 0) p zero-plain

pub distance-plain : (n : ℕ) (i o : Interval)
    → NoMinus (distance_of (given n (distance_answer (directed_hausdorff_distance i o)) (zero_distance n)).value)
distance-plain n i o =
    cond-is (λ (a : Hausdorff). NoMinus (distance_of a.value)) (eqb n 0)
    (subst NoMinus (sym (distance_is i o)) (unfold farthest in (cond-is NoMinus (is_empty i) zero-plain (cond-is NoMinus (is_empty o) inf-plain (from-zero-plain _)))))
    (unfold distance_of in zero-plain)
  where
    inf-plain : NoMinus (inf false)
    inf-plain = unfold plain eq of_bits in refl

-- growth that is accepted; refused with 3 it hands back what came
pub add-plain : (i : Interval) (x : Float) → (add i x).refusal ≡ number accepted → NoMinusEnds (add i x).value
add-plain i x = subst (λ (a : Answer). a.refusal ≡ number accepted → NoMinusEnds a.value) (sym (add-chosen i x)) (go (both_in i) (in_reach x))
  where
    go : (t u : Bool)
        → (cond t (cond u (line_answer (line.add (plain_ends i) (plain x))) (record { refusal = number bad_point; value = i })) (empty_under (number out_of_reach))).refusal ≡ number accepted
        → NoMinusEnds (cond t (cond u (line_answer (line.add (plain_ends i) (plain x))) (record { refusal = number bad_point; value = i })) (empty_under (number out_of_reach))).value
    go true true h = read-add-ends NoMinus NoMinus (plain x) (plain-plain x) (plain-plain x) (plain_ends i) (plain-ends i)
    go true false h = absurd (omega arith)
    go false u h = absurd (omega arith)
