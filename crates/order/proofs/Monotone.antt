-- Rounding keeps the order: a sum of finite doubles grows with each operand, a difference with the first and against the second, and a product by a factor
-- above zero with the other factor. None of them is a NaN; an overflow is an infinity, which has its place in the order. Assumes nothing.
use mathlib.Core.Path.{◌≡◌, refl, sym, ◌∙◌, subst}
use mathlib.Core.Bool.{true, false, not, and-true, false≢true}
use Prim.Native.Nat.{ℕ, ◌^◌, ◌≤◌}
use native.Mathlib.Omega.{arith}
use lib.IntN.{ℤ}
use lib.Ieee.{Float, nan, inf, fin, binary64, low, fits, is_nan, round, neg, add, sub, mul, lt, le, eq, of_bits}
use lib.Ieee.Bits.{is_true}
use lib.Ieee.Fits.{neg-fits}
use lib.Ieee.Positive.{positive}
use borrow.Author.Tests.{leb-true, le-leb}
use Rattle.order.specs.Key.{K, Num, Real}
use Rattle.order.proofs.Keys.{le-key, key-top, neg-key, neg-num}
use Rattle.order.proofs.Rounding.{Finite, made, finite-made, sum-is-num, add-rises, sum-least, product-num, mul-rises}

-- ---- finite doubles
pub of-real : (x : Float) → Real x ≡ true → Finite binary64 x
of-real x h = finite-made binary64 x h

pub real-num : (x : Float) → Real x ≡ true → Num x ≡ true
real-num x h = go (of-real x h)
  where
    go : {y : Float} → Finite binary64 y → Num y ≡ true
    go (made {s = s} {m = m} {e = e} p) = unfold is_nan in (and-true (fits binary64 (fin s m e)) ∙ is_true (fits binary64 (fin s m e)) p)

pub neg-real : (x : Float) → Real x ≡ true → Real (neg x) ≡ true
neg-real x h = go (of-real x h)
  where
    go : {y : Float} → Finite binary64 y → Real (neg y) ≡ true
    go (made {s = s} {m = m} {e = e} p) = unfold neg in (and-true (fits binary64 (fin (not s) m e)) ∙ is_true (fits binary64 (fin (not s) m e)) (unfold neg in neg-fits binary64 (fin s m e) p))

-- what lies between finite doubles is finite
pub real-between : (a x b : Float) → Real a ≡ true → Real b ≡ true → fits binary64 x ≡ true → le a x ≡ true → le x b ≡ true → Real x ≡ true
real-between a x b ha hb f p q = go (of-real a ha) (of-real b hb) x f p q
  where
    go : {a b : Float} → Finite binary64 a → Finite binary64 b → (x : Float) → fits binary64 x ≡ true → le a x ≡ true → le x b ≡ true → Real x ≡ true
    go (made u) (made v) nan f p q = unfold le lt eq in absurd (false≢true p)
    go (made u) (made v) (inf true) f p q = unfold le lt eq in absurd (false≢true p)
    go (made u) (made v) (inf false) f p q = unfold le lt eq in absurd (false≢true q)
    go (made u) (made v) (fin s m e) f p q = and-true (fits binary64 (fin s m e)) ∙ f

-- their order, by keys
pub le-of-keys : (x y : Float) → Num x ≡ true → Num y ≡ true → K x ≤ K y → le x y ≡ true
le-of-keys x y n m h = le-key binary64 x y n m ∙ le-leb (K x) (K y) h

pub keys-of-le : (x y : Float) → Real x ≡ true → Real y ≡ true → le x y ≡ true → K x ≤ K y
keys-of-le x y n m h = leb-true (K x) (K y) (sym (le-key binary64 x y (real-num x n) (real-num y m)) ∙ h)

pub neg-anti : (x y : Float) → Real x ≡ true → Real y ≡ true → le x y ≡ true → le (neg y) (neg x) ≡ true
neg-anti x y hx hy h =
    let n = real-num x hx in
    let m = real-num y hy in
    le-of-keys (neg y) (neg x) (neg-num binary64 y m) (neg-num binary64 x n) (omega (arith, neg-key binary64 x n, neg-key binary64 y m, keys-of-le x y hx hy h))

-- ---- sums and differences
module _ (x y : Float) (hx : Real x ≡ true) (hy : Real y ≡ true) where
  pub add-num : Num (add binary64 x y) ≡ true
  add-num = sum-is-num binary64 (of-real x hx) (of-real y hy)

  pub sub-num : Num (sub binary64 x y) ≡ true
  unfolding sub
  sub-num = sum-is-num binary64 (of-real x hx) (of-real (neg y) (neg-real y hy))

module _ (x x' y y' : Float) (hx : Real x ≡ true) (hx' : Real x' ≡ true) (hy : Real y ≡ true) (hy' : Real y' ≡ true) where
  pub add-mono : le x x' ≡ true → le y y' ≡ true → le (add binary64 x y) (add binary64 x' y') ≡ true
  add-mono p q =
      le-of-keys (add binary64 x y) (add binary64 x' y') (add-num x y hx hy) (add-num x' y' hx' hy')
      (add-rises binary64 (of-real x hx) (of-real x' hx') (of-real y hy) (of-real y' hy') (omega (arith, keys-of-le x x' hx hx' p, keys-of-le y y' hy hy' q)))

module _ (x x' y y' : Float) (hx : Real x ≡ true) (hx' : Real x' ≡ true) (hy : Real y ≡ true) (hy' : Real y' ≡ true) where
  pub sub-mono : le x x' ≡ true → le y' y ≡ true → le (sub binary64 x y) (sub binary64 x' y') ≡ true
  unfolding sub
  sub-mono p q = add-mono x x' (neg y) (neg y') hx hx' (neg-real y hy) (neg-real y' hy') p (neg-anti y' y hy' hy q)

-- a difference of operands in order is not negative
pub sub-from-zero : (x y : Float) → Real x ≡ true → Real y ≡ true → le y x ≡ true → le (of_bits binary64 0) (sub binary64 x y) ≡ true
unfolding sub
sub-from-zero x y hx hy h =
    le-of-keys (of_bits binary64 0) (sub binary64 x y) (unfold fits is_nan of_bits in refl) (sub-num x y hx hy)
    (subst (λ (k : ℕ). k ≤ K (sub binary64 x y)) none
    (sum-least binary64 (of-real x hx) (of-real (neg y) (neg-real y hy)) 0 (omega (arith, neg-key binary64 y (real-num y hy), key-top binary64 y (real-num y hy), keys-of-le y x hy hx h))))
  where
    none : K (round binary64 false 0 (2 ^ low binary64)) ≡ K (of_bits binary64 0)
    none = unfold round of_bits in refl

-- ---- products by a c that is finite and above zero
-- it is m * 2 ^ e
by-factor : (P : Float → Type 0) → ((m : ℕ) (e : ℤ) → P (fin false m e)) → (c : Float) → positive c ≡ true → P c
by-factor P h nan p = absurd (false≢true p)
by-factor P h (inf s) p = absurd (false≢true p)
by-factor P h (fin true m e) p = absurd (false≢true p)
by-factor P h (fin false m e) p = h m e

module _ (c : Float) (above_zero : positive c ≡ true) where
  pub mul-num : (x : Float) → Real x ≡ true → Num (mul binary64 c x) ≡ true
  mul-num x hx = by-factor (λ (a : Float). Num (mul binary64 a x) ≡ true) (λ m e. product-num binary64 m e (of-real x hx)) c above_zero

  pub mul_mono : (x x' : Float) → Real x ≡ true → Real x' ≡ true → le x x' ≡ true → le (mul binary64 c x) (mul binary64 c x') ≡ true
  mul_mono x x' hx hx' p =
      le-of-keys (mul binary64 c x) (mul binary64 c x') (mul-num x hx) (mul-num x' hx')
      (by-factor (λ (a : Float). K (mul binary64 a x) ≤ K (mul binary64 a x')) (λ m e. mul-rises binary64 m e (of-real x hx) (of-real x' hx') (keys-of-le x x' hx hx' p)) c above_zero)
