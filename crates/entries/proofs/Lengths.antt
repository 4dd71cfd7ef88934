-- How long a list may be: what `whole` tells, with the record's size and the limit as they are or as numbers. Assumes nothing.
use mathlib.Core.Path.{◌≡◌, refl, sym, ap, ◌∙◌, subst}
use mathlib.Core.Bool.{Bool, true, false, ◌&&◌, false≢true}
use mathlib.Core.Logic.{◌⊎◌, inl, inr, ◌↔◌}
use Prim.Native.Nat.{ℕ, zero, suc, ◌+◌, ◌*◌, ◌/◌, ◌%◌, ◌≤◌, ◌<◌}
use native.Mathlib.Nat.{zero-add, mod-add-div, mul-le-mul_left, le_of_mul-le-mul_left}
use native.Mathlib.Omega.{arith}
use borrow.Author.Tests.{leb-true, leb-false, le-leb, lt-leb, eqb-true, eqb-false, eq-eqb, ne_eqb}
use lib.Dec.{leb, eqb}
use Rattle.order.proofs.Ranks.{and_l, and_r, and-of}
use Rattle.entries.specs.Lists.{whole_length}

module _ (size limit n : ℕ) where
  -- a length is whole, or it is no multiple of the record, or it is too long
  pub good : n % size ≡ 0 → n ≤ size * limit → whole_length size limit n ≡ true
  unfolding whole_length
  good h k = and-of (eq-eqb (n % size) 0 h) (le-leb n (size * limit) k)

  pub odd : (n % size ≡ 0 → ⊥) → whole_length size limit n ≡ false
  unfolding whole_length
  odd h = ap (λ (t : Bool). t && leb n (size * limit)) (ne_eqb (n % size) 0 h)

  pub long : size * limit < n → whole_length size limit n ≡ false
  unfolding whole_length
  long k = off (eqb (n % size) 0) ∙ refl
    where
      off : (t : Bool) → t && leb n (size * limit) ≡ false
      off true = lt-leb n (size * limit) k
      off false = refl

  pub whole_multiple : whole_length size limit n ≡ true → n % size ≡ 0
  unfolding whole_length
  whole_multiple h = eqb-true (n % size) 0 (and_l (eqb (n % size) 0) _ h)

  pub whole-short : whole_length size limit n ≡ true → n ≤ size * limit
  unfolding whole_length
  whole-short h = leb-true n (size * limit) (and_r (eqb (n % size) 0) _ h)

  not-whole : whole_length size limit n ≡ false → (n % size ≡ 0 → ⊥) ⊎ (size * limit < n)
  not-whole h = go (eqb (n % size) 0) (leb n (size * limit)) refl refl
    where
      go : (s t : Bool) → eqb (n % size) 0 ≡ s → leb n (size * limit) ≡ t → (n % size ≡ 0 → ⊥) ⊎ (size * limit < n)
      go true true a b = absurd (false≢true (sym h ∙ good (eqb-true (n % size) 0 a) (leb-true n (size * limit) b)))
      go true false a b = inr (leb-false n (size * limit) b)
      go false t a b = inl (eqb-false (n % size) 0 a)

  -- exactly then
  pub whole-when : (whole_length size limit n ≡ true) ↔ ((n % size ≡ 0) × (n ≤ size * limit))
  whole-when = ((λ h. (whole_multiple h, whole-short h)), (λ h. good h.0 h.1))

  pub not-whole-when : (whole_length size limit n ≡ false) ↔ ((n % size ≡ 0 → ⊥) ⊎ (size * limit < n))
  not-whole-when = (not-whole, back)
    where
      back : (n % size ≡ 0 → ⊥) ⊎ (size * limit < n) → whole_length size limit n ≡ false
      back (inl h) = odd h
      back (inr h) = long h

-- ---- as it is tested: by the number of records, so that no product is made
pub no_size : (limit n : ℕ) → eqb n 0 ≡ whole_length 0 limit n
no_size limit zero = sym (good 0 limit 0 refl (omega arith))
no_size limit (suc n) = ne_eqb (suc n) 0 (λ e. omega (arith, e)) ∙ sym (long 0 limit (suc n) (omega arith))

above : (a b : ℕ) → (a ≤ b → ⊥) → b < a
above a b h = go (leb a b) refl
  where
    go : (t : Bool) → leb a b ≡ t → b < a
    go true e = absurd (h (leb-true a b e))
    go false e = leb-false a b e

pub by_count : (size limit n : ℕ) → 0 < size → eqb (n % size) 0 && leb (n / size) limit ≡ whole_length size limit n
by_count size limit n p = go (eqb (n % size) 0) (leb (n / size) limit) refl refl
  where
    many : n % size ≡ 0 → size * (n / size) ≡ n
    many e = sym (zero-add (size * (n / size))) ∙ ap (λ (r : ℕ). r + size * (n / size)) (sym e) ∙ mod-add-div n size

    go : (s t : Bool) → eqb (n % size) 0 ≡ s → leb (n / size) limit ≡ t → s && t ≡ whole_length size limit n
    go true true a b =
        let e = eqb-true (n % size) 0 a in
        sym (good size limit n e (subst (λ (m : ℕ). m ≤ size * limit) (many e) (mul-le-mul_left size (leb-true (n / size) limit b))))
    go true false a b =
        let e = eqb-true (n % size) 0 a in
        let over : n ≤ size * limit → n / size ≤ limit = λ h. le_of_mul-le-mul_left (subst (λ (m : ℕ). m ≤ size * limit) (sym (many e)) h) p in
        sym (long size limit n (above n (size * limit) (λ h. omega (arith, leb-false (n / size) limit b, over h))))
    go false t a b = sym (odd size limit n (eqb-false (n % size) 0 a))
