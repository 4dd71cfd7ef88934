-- "No NaN, and of size at most e" is what the test between -e and e says; "NaN, or of size over e" is that it fails. Assumes nothing.
use mathlib.Core.Path.{◌≡◌, refl, sym, ap, ◌∙◌}
use mathlib.Core.Bool.{Bool, true, false, not, ◌&&◌, cond, false≢true}
use mathlib.Core.Logic.{◌↔◌, ◌⊎◌, inl, inr, ⊎_elim}
use lib.Ieee.{Float, binary64, fits, is_nan, lt, le, neg}
use Rattle.order.specs.Key.{Num}
use Rattle.order.specs.Choice.{abs}
use Rattle.order.proofs.Keys.{neg-num}
use Rattle.order.proofs.Ranks.{and_l, and_r, and-of}
use Rattle.order.proofs.Facts.{num-r, not-le, le-no}
use Rattle.order.proofs.Choices.{size-le}
use Rattle.consts.specs.Answer.{ZERO}

size-num : (x : Float) → Num x ≡ true → Num (abs x) ≡ true
unfolding abs
size-num x n = go (lt x ZERO)
  where
    go : (t : Bool) → Num (cond t (neg x) x) ≡ true
    go true = neg-num binary64 x n
    go false = n

-- e' is -e
module _ (x e e' : Float) (f : fits binary64 x ≡ true) (n : Num e ≡ true) (m : neg e ≡ e') where
  abbrev between : Bool
  between = le e' x && le x e

  is-between : Num x ≡ true → le (abs x) e ≡ between
  is-between k = size-le x e k n ∙ ap (λ (y : Float). le y x && le x e) m

  number : is_nan x ≡ false → Num x ≡ true
  number h = and-of f (ap not h)

  no_nan : between ≡ true → is_nan x ≡ false
  no_nan h = go (is_nan x) (and_r (fits binary64 x) (not (is_nan x)) (num-r e' x f (and_l (le e' x) (le x e) h)))
    where
      go : (t : Bool) → not t ≡ true → t ≡ false
      go true k = absurd (false≢true k)
      go false k = refl

  pub size-within : (between ≡ true) ↔ ((is_nan x ≡ false) × (le (abs x) e ≡ true))
  size-within = (λ h. (no_nan h, is-between (number (no_nan h)) ∙ h), λ h. sym (is-between (number h.0)) ∙ h.1)

  pub size-beyond : (between ≡ false) ↔ ((is_nan x ≡ true) ⊎ (lt e (abs x) ≡ true))
  size-beyond = (λ h. go (is_nan x) refl h, λ h. fails between refl h)
    where
      go : (t : Bool) → is_nan x ≡ t → between ≡ false → (is_nan x ≡ true) ⊎ (lt e (abs x) ≡ true)
      go true k h = inl k
      go false k h = inr (not-le (abs x) e (size-num x (number k)) n (is-between (number k) ∙ h))

      fails : (t : Bool) → between ≡ t → (is_nan x ≡ true) ⊎ (lt e (abs x) ≡ true) → between ≡ false
      fails false k h = k
      fails true k h =
          let s = size-within.0 k in
          absurd (false≢true (⊎_elim (λ g. sym s.0 ∙ g) (λ g. sym (le-no (abs x) e (size-num x (number s.0)) n s.1) ∙ g) h))
