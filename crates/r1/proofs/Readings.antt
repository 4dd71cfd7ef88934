-- Reading the operands of a line's operation: operands within the limits are accepted, with their zeros read, which changes no place that they hold;
-- the first operand out of reach decides otherwise, by its number. Assumes nothing.
use mathlib.Core.Path.{◌≡◌, refl, sym}
use mathlib.Core.Bool.{Bool, true, false, ◌&&◌, cond, false≢true}
use mathlib.Core.Logic.{◌↔◌, ◌⊎◌, inl, inr, ⊎_elim}
use Prim.Native.Nat.{ℕ}
use lib.Dec.{eqb}
use lib.Ieee.{Float}
use Rattle.order.specs.Key.{Num}
use Rattle.consts.specs.Refusal.{number, accepted, out_of_reach, first_refusal}
use Rattle.consts.specs.Reading.{in_reach, plain, read_number}
use Rattle.consts.proofs.Readings.{reach-num, plain_fits, plain-reach, plain-le, le-plain, plain-lt, lt-plain}
use Rattle.r1.specs.declared.interval.Interval.{Interval}
use Rattle.r1.specs.Line.{is_empty, interior_contains}
use Rattle.r1.specs.Reading.{plain_ends, read_one, read_two, read_with}
use Rattle.r1.specs.Places.{Place, InReach, OutOfReach, holds}

pub place-num : {p : Float} → Place p → Num p ≡ true
place-num {p} a = reach-num p a.is-double a.in-reach

pub place-plain : {p : Float} → Place p → Place (plain p)
place-plain {p} a = record { is-double = plain_fits p a.is-double; in-reach = plain-reach p a.in-reach }

pub reach-plain : {i : Interval} → InReach i → InReach (plain_ends i)
reach-plain v = record { lo-place = place-plain v.lo-place; hi-place = place-plain v.hi-place }

-- ---- within the limits
module _ (i : Interval) (v : InReach i) where
  pub one_in : read_one i ≡ record { refusal = number accepted; value = plain_ends i }
  unfolding read_one
  one_in = simp (v.lo-place.in-reach, v.hi-place.in-reach)

  pub two_in : (o : Interval) → InReach o → read_two i o ≡ record { refusal = number accepted; left = plain_ends i; right = plain_ends o }
  unfolding read_two read_one first_refusal
  two_in o w = simp (v.lo-place.in-reach, v.hi-place.in-reach, w.lo-place.in-reach, w.hi-place.in-reach)

  pub with_in : (x : Float) (n : ℕ) → in_reach x ≡ true → read_with i x n ≡ record { refusal = number accepted; value = plain_ends i; number = plain x }
  unfolding read_with read_one read_number first_refusal
  with_in x n h = simp (v.lo-place.in-reach, v.hi-place.in-reach, h)

  -- it is empty as it was
  pub empty-plain : is_empty (plain_ends i) ≡ is_empty i
  unfolding is_empty
  empty-plain =
      let a = place-num v.lo-place in
      let b = place-num v.hi-place in
      let c = place-num (place-plain v.lo-place) in
      simp (plain-lt, lt-plain)

  -- the same places are held, and the same lie strictly inside
  module _ (p : Float) (q : Place p) where
    pub holds_plain : holds (plain_ends i) p ≡ holds i p
    unfolding holds
    holds_plain =
        let a = place-num v.lo-place in
        let b = place-num v.hi-place in
        let n = place-num q in
        simp (plain-le, le-plain)

    pub strict-plain : interior_contains (plain_ends i) p ≡ interior_contains i p
    unfolding interior_contains
    strict-plain =
        let a = place-num v.lo-place in
        let b = place-num v.hi-place in
        let n = place-num q in
        simp (plain-lt, lt-plain)

    -- the point's own zero makes no difference either
    pub point-plain : holds i (plain p) ≡ holds i p
    unfolding holds
    point-plain =
        let a = place-num v.lo-place in
        let b = place-num v.hi-place in
        let n = place-num q in
        simp (plain-le, le-plain)

    pub strict-point : interior_contains i (plain p) ≡ interior_contains i p
    unfolding interior_contains
    strict-point =
        let a = place-num v.lo-place in
        let b = place-num v.hi-place in
        let n = place-num q in
        simp (plain-lt, lt-plain)

-- ---- the refusal number, by the tests in their order
-- both ends are in reach
abbrev pub both_in : Interval → Bool
both_in i = in_reach i.lo && in_reach i.hi

pub one-refusal : (i : Interval) → (read_one i).refusal ≡ cond (both_in i) (number accepted) (number out_of_reach)
unfolding read_one
one-refusal i = refl

-- of two operands that are refused alike
pub either-refusal : (t u : Bool) (n : ℕ) → eqb n 0 ≡ false → first_refusal (cond t (number accepted) n) (cond u (number accepted) n) ≡ cond (t && u) (number accepted) n
unfolding first_refusal
either-refusal true u n d = refl
either-refusal false u n d = simp d

pub two-refusal : (i o : Interval) → (read_two i o).refusal ≡ cond (both_in i && both_in o) (number accepted) (number out_of_reach)
unfolding read_two read_one
two-refusal i o = either-refusal (both_in i) (both_in o) (number out_of_reach) refl

-- of an interval, or of two, and what is read after
pub before-refusal : (t : Bool) (n : ℕ) → first_refusal (cond t (number accepted) (number out_of_reach)) n ≡ cond t n (number out_of_reach)
unfolding first_refusal
before-refusal true n = refl
before-refusal false n = refl

pub with-refusal : (i : Interval) (x : Float) (n : ℕ) → (read_with i x n).refusal ≡ cond (both_in i) (cond (in_reach x) (number accepted) n) (number out_of_reach)
unfolding read_with read_one read_number
with-refusal i x n = before-refusal (both_in i) (cond (in_reach x) (number accepted) n)

-- ---- a test fails exactly when a number is out of reach
pub and-fails : {P Q : Type 0} (a b : Bool) → (a ≡ false) ↔ P → (b ≡ false) ↔ Q → (a && b ≡ false) ↔ (P ⊎ Q)
and-fails true b p q = (λ h. inr (q.0 h), λ h. ⊎_elim (λ k. absurd (false≢true (sym (p.1 k)))) (λ k. q.1 k) h)
and-fails false b p q = (λ h. inl (p.0 refl), λ h. refl)

pub out-fails : (i : Interval) → (both_in i ≡ false) ↔ OutOfReach i
out-fails i = and-fails (in_reach i.lo) (in_reach i.hi) (λ h. h, λ h. h) (λ h. h, λ h. h)

-- no interval is refused as a point is
pub no_bad_point : (i : Interval) → eqb (read_one i).refusal 3 ≡ false
unfolding read_one
no_bad_point i = go (in_reach i.lo && in_reach i.hi)
  where
    go : (t : Bool) → eqb (cond t (number accepted) (number out_of_reach)) 3 ≡ false
    go true = refl
    go false = refl
