-- How the writer's text grows: one more decimal, and none where nothing is left, or no place; and a number by its sign. Assumes nothing.
use Prim.Native.Nat.{ℕ, zero, suc, ◌+◌, ◌-◌, ◌/◌, ◌%◌, ◌^◌, ◌≤◌, ◌<◌}
use mathlib.Core.Path.{◌≡◌, refl, sym, ◌∙◌, ap}
use mathlib.Core.Bool.{true, false, false≢true}
use mathlib.Core.List.{List, [], ◌∷◌, ◌++◌, append-nil}
use native.Mathlib.Omega.{arith}
use native.Mathlib.Nat.{pow-suc, one-le-pow, pow-le-pow_right, div-lt_iff_lt-mul}
use lib.IntN.{ℤ, pos, negsuc, nat_abs}
use lib.Signed.{lt_z}
use borrow.Author.Tests.{eq-eqb, ne_eqb, ltb-true}
use Rattle.bbox_text.specs.Text.{decimals, size_text, number_text}

no_decimals : (k f : ℕ) → f ≡ 0 → decimals k f ≡ []
unfolding decimals
no_decimals zero f e = refl
no_decimals (suc k) f e = simp (eq-eqb f 0 e)

no_place : (k f : ℕ) → k ≡ 0 → decimals k f ≡ []
unfolding decimals
no_place zero f e = refl
no_place (suc k) f e = absurd (omega (arith, e))

-- a text to which the k decimals of f are still to come
pub nothing_left : (k f : ℕ) (s t : List ℕ) → f ≡ 0 → t ≡ s ++ decimals k f → s ≡ t
nothing_left k f s t e h = sym (h ∙ ap (λ (l : List ℕ). s ++ l) (no_decimals k f e) ∙ append-nil s)

pub no_place_left : (k f : ℕ) (s t : List ℕ) → k ≡ 0 → t ≡ s ++ decimals k f → s ≡ t
no_place_left k f s t e h = sym (h ∙ ap (λ (l : List ℕ). s ++ l) (no_place k f e) ∙ append-nil s)

pub next_decimal : (k f : ℕ) → 0 < k → (f ≡ 0 → ⊥) → decimals k f ≡ (48 + f / 10 ^ (k - 1)) ∷ decimals (k - 1) (f % 10 ^ (k - 1))
unfolding decimals
next_decimal zero f p h = absurd (omega (arith, p))
next_decimal (suc k) f p h =
    let e : suc k - 1 ≡ k = omega arith in
    simp (e, ne_eqb f 0 h)

-- ---- the unit of a place
pub unit_above : (k : ℕ) → 0 < 10 ^ k
unit_above k = one-le-pow k 10 (omega arith)

pub unit_fits : (k : ℕ) → k ≤ 6 → 10 ^ k ≤ 1000000
unit_fits k h = pow-le-pow_right {n = 10} (omega arith) h

pub digit_under : (k f : ℕ) → 0 < k → f < 10 ^ k → f / 10 ^ (k - 1) < 10
digit_under zero f p h = absurd (omega (arith, p))
digit_under (suc k) f p h =
    let e : suc k - 1 ≡ k = omega arith in
    rw e ((div-lt_iff_lt-mul {k = 10 ^ k} {x = f} {y = 10} (unit_above k)).1 (omega (arith, h, pow-suc 10 k)))

-- ---- a number by its sign
pub number-below : (z : ℤ) → lt_z z (pos 0) ≡ true → 45 ∷ size_text (nat_abs z) ≡ number_text z
unfolding number_text
number-below (pos n) t =
    let k : n < 0 = ltb-true n 0 t in
    absurd (omega arith)
number-below (negsuc n) t = refl

pub number-above : (z : ℤ) → lt_z z (pos 0) ≡ false → size_text (nat_abs z) ≡ number_text z
unfolding number_text
number-above (pos n) t = refl
number-above (negsuc n) t = absurd (false≢true (sym t))
