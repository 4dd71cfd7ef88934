-- The nearest whole number to k / t: it is no further off than a half, at a half it is even, and it is no further off than 0 is.
-- With k = q * t + r, the three cases are 2 * r below t, above t, and t itself. Assumes nothing.
use mathlib.Core.Path.{◌≡◌, refl, sym, ap, ◌∙◌, subst}
use Prim.Native.Nat.{ℕ, zero, suc, ◌+◌, ◌*◌, ◌/◌, ◌%◌, ◌≤◌, ◌<◌}
use native.Mathlib.Nat.{div-add-mod', mod-lt, suc-mul, one-mul, zero-mul}
use native.Mathlib.Omega.{arith}
use lib.Arith.{digits_div, digits_mod}
use borrow.Author.Tests.{lt-ltb, le-ltb}
use Rattle.consts.specs.Remainder.{nearer, nearest}
use Rattle.consts.proofs.Differences.{by_order, apart}

-- n is a whole number nearest to k / t
pub record Near (k t n : ℕ) : Type 0 where
  pub half : apart k (n * t) * 2 ≤ t
  pub tie : apart k (n * t) * 2 ≡ t → n % 2 ≡ 0
  pub least : apart k (n * t) ≤ k

module _ (k t q r : ℕ) (is : k ≡ q * t + r) (under : r < t) where
  next : suc q * t ≡ q * t + t
  next = suc-mul q t

  nearest-is : nearest k t ≡ nearer q r t
  unfolding nearest
  nearest-is = λ i. nearer (quotient i) (rest i) t
    where
      quotient : k / t ≡ q
      quotient = ap (λ (z : ℕ). z / t) is ∙ digits_div q under

      rest : k % t ≡ r
      rest = ap (λ (z : ℕ). z % t) is ∙ digits_mod q under

  at-below : r * 2 < t → nearest k t ≡ q
  unfolding nearer
  at-below h = nearest-is ∙ simp (lt-ltb (r * 2) t h)

  at_above : t < r * 2 → nearest k t ≡ suc q
  unfolding nearer
  at_above h = nearest-is ∙ simp (le-ltb (r * 2) t (omega arith), lt-ltb t (r * 2) h)

  at-half : r * 2 ≡ t → nearest k t ≡ q + q % 2
  unfolding nearer
  at-half h = nearest-is ∙ simp (le-ltb (r * 2) t (omega arith), le-ltb t (r * 2) (omega arith))

  near_down : r * 2 ≤ t → (r * 2 ≡ t → q % 2 ≡ 0) → Near k t q
  near_down h e = record { half = omega arith; tie = λ p. e (omega arith); least = omega arith }

  near_up : t ≤ r * 2 → (r * 2 ≡ t → suc q % 2 ≡ 0) → Near k t (suc q)
  near_up h e = let n = next in record { half = omega arith; tie = λ p. e (omega arith); least = omega arith }

  near-half : r * 2 ≡ t → Near k t (q + q % 2)
  near-half h = go (q % 2) refl
    where
      go : (b : ℕ) → q % 2 ≡ b → Near k t (q + b)
      go zero e = let none : q ≡ q + 0 = omega arith in subst (λ (n : ℕ). Near k t n) none (near_down (omega arith) (λ _. e))
      go (suc b) e = let one : suc q ≡ q + suc b = omega arith in subst (λ (n : ℕ). Near k t n) one (near_up (omega arith) (λ _. omega arith))

  near-any : Near k t (nearest k t)
  near-any =
      by_order (r * 2) t
      (λ h. subst (λ (n : ℕ). Near k t n) (sym (at-below h)) (near_down (omega arith) (λ e. absurd (omega arith))))
      (λ h.
      by_order t (r * 2) (λ l. subst (λ (n : ℕ). Near k t n) (sym (at_above l)) (near_up (omega arith) (λ e. absurd (omega arith))))
      (λ l. let e : r * 2 ≡ t = omega arith in subst (λ (n : ℕ). Near k t n) (sym (at-half e)) (near-half e)))

pub nearest-near : (k t : ℕ) → 0 < t → Near k t (nearest k t)
nearest-near k t h = near-any k t (k / t) (k % t) (sym (div-add-mod' k t)) (mod-lt k h)

pub nearest-none : (t : ℕ) → 0 < t → nearest 0 t ≡ 0
nearest-none t h = let z = zero-mul t in at-below 0 t 0 0 (omega arith) h (omega arith)

-- ---- up to 2 t, for a t that is twice h: between two odd multiples of h the even multiple there is nearest, and at 3 h, as near to t, 2 t is taken
module _ (k t h : ℕ) (twice : t ≡ h + h) where
  pub near-0 : k ≤ h → Near k t 0
  near-0 u = let z = zero-mul t in record { half = omega arith; tie = λ e. refl; least = omega arith }

  pub near-1 : h < k → k < h + t → Near k t 1
  near-1 l u = let o = one-mul t in record { half = omega arith; tie = λ e. absurd (omega arith); least = omega arith }

  pub near-2 : h + t ≤ k → k ≤ t + t → Near k t 2
  near-2 l u =
      let w : 2 * t ≡ t + t = suc-mul 1 t ∙ ap (λ (i : ℕ). i + t) (one-mul t) in
      record { half = omega arith; tie = λ e. refl; least = omega arith }
