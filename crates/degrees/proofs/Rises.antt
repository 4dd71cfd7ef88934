-- The radians of a whole number of ten-millionths rise strictly from -180 to 180 degrees, so that no two of them become one double: the key of the double
-- is `height` above or below the middle, by the sign (Heights). Assumes nothing.
use Rattle.std.proofs.Common.{◌≡◌, ℕ, suc, ◌+◌, ◌-◌, ◌*◌, ◌<◌, ◌≤◌, Bool, true, false, cond, T, ltb, ◌⊎◌, ℤ, pos, negsuc, nat_abs, ◌∙◌, inl, inr}
use Rattle.std.proofs.Common.{sym, refl, ap, subst, suc-le-suc, le_trans, lt_of_lt_of_le, zero-lt-suc, mul_assoc, mul_comm, mul-pos, arith, lit<, lit≤}
use Rattle.std.proofs.Common.{ltb-false, ltb-true, lt-ltb, eqb-true}
use mathlib.Core.Bool.{and-true, false≢true}
use native.Mathlib.Nat.{mul-mul-mul_comm, eq_of_mul-eq-mul_right}
use lib.Signed.{lt_z, le_z, lt_z_yes, le_z_yes, clash_ℤ}
use lib.Ieee.{Float, nan, inf, fin, binary64, low, unlike, up, down, fits, is_nan, round, of_int, of_bits, mul, div, lt, le, eq}
use lib.Ieee.Back.{round_whole}
use lib.Ieee.Bits.{is_true}
use lib.Ieee.Exact.{HasValue, units_val}
use lib.Ieee.Fits.{down_pos, round_is, mul-fits}
use lib.Ieee.Order.{drop, kept}
use lib.Ieee.Scale.{grid, overflow, round_same}
use Rattle.order.specs.Key.{mag, big, key, K, Num}
use Rattle.order.proofs.Facts.{le_refl, lt-le}
use Rattle.order.proofs.Keys.{scaled, low-enough, below-big, lt-key, eq-key}
use Rattle.bounds.specs.Bounds.{HALF}
use Rattle.degrees.specs.Degrees.{TEN-MILLION, PER-DEGREE, from_degrees, degrees, radians}
use Rattle.degrees.proofs.Heights.{ONE, PARTS, TOP, BOTTOM, steps, height, steps-under, height-under, height-rises}

-- ---- a rounded fraction's value
value_of : (s : Bool) (a c : ℕ) → grid binary64 a c < overflow binary64 → HasValue (round binary64 s a c) s (grid binary64 a c) ONE
value_of s a c h =
    subst (λ (x : Float). HasValue x s (grid binary64 a c) ONE) (sym (round_is binary64 s a c)) (units_val binary64 s (kept 53 (a * ONE) c) (drop 53 (a * ONE) c) h)

-- ---- the two operations, of what has a value
own_sign : (t : Bool) → unlike t false ≡ t
own_sign true = refl
own_sign false = refl

quotient : (x : Float) (s : Bool) (n : ℕ) → HasValue x s n 1 → div binary64 x TEN-MILLION ≡ round binary64 s n PARTS
unfolding div of_bits
quotient nan s n v = absurd v
quotient (inf t) s n v = absurd v
quotient (fin t m e) s n v =
    ap (λ (b : Bool). round binary64 b (m * up e * 1) (PARTS * down e)) (own_sign t ∙ v.0)
    ∙ round_same binary64 s (m * up e * 1) (PARTS * down e) n PARTS (mul-pos (lit< tt) (down_pos e)) (lit< tt)
    (ap (λ (z : ℕ). z * PARTS) v.1 ∙ mul_assoc n (down e) PARTS ∙ ap (λ (z : ℕ). n * z) (mul_comm (down e) PARTS))

product : (x : Float) (s : Bool) (g : ℕ) → HasValue x s g ONE → mul binary64 x PER-DEGREE ≡ round binary64 s (g * TOP) (ONE * BOTTOM)
unfolding mul of_bits
product nan s g v = absurd v
product (inf t) s g v = absurd v
product (fin t m e) s g v =
    ap (λ (b : Bool). round binary64 b (m * up e * TOP) (down e * BOTTOM)) (own_sign t ∙ v.0)
    ∙ round_same binary64 s (m * up e * TOP) (down e * BOTTOM) (g * TOP) (ONE * BOTTOM) (mul-pos (down_pos e) (lit< tt)) (lit< tt)
    (mul-mul-mul_comm (m * up e) TOP ONE BOTTOM ∙ ap (λ (z : ℕ). z * (TOP * BOTTOM)) v.1 ∙ sym (mul-mul-mul_comm g TOP (down e) BOTTOM))

both : (s : Bool) (n : ℕ) → n ≤ HALF → HasValue (mul binary64 (div binary64 (round binary64 s n 1) TEN-MILLION) PER-DEGREE) s (height n) ONE
both s n h =
    let a = quotient (round binary64 s n 1) s n (round_whole binary64 s n (le_trans h (lit≤ tt))) in
    let b = subst (λ (x : Float). HasValue x s (steps n) ONE) (sym a) (value_of s n PARTS (lt_of_lt_of_le (steps-under n h) (lit≤ tt))) in
    subst (λ (x : Float). HasValue x s (height n) ONE) (sym (product _ s (steps n) b)) (value_of s (steps n * TOP) (ONE * BOTTOM) (height-under n h))

abbrev negative : ℤ → Bool
negative (pos n) = false
negative (negsuc n) = true

radians-value : (z : ℤ) → nat_abs z ≤ HALF → HasValue (radians z) (negative z) (height (nat_abs z)) ONE
unfolding radians from_degrees degrees of_int
radians-value (pos n) h = both false n h
radians-value (negsuc n) h = both true (suc n) h

-- ---- the key of what has a value in units
key-signed : (s : Bool) (m : ℕ) (e : ℤ) → K (fin s m e) ≡ cond s (big binary64 - mag (low binary64) m e) (big binary64 + mag (low binary64) m e)
unfolding key
key-signed true m e = refl
key-signed false m e = refl

pub record Valued (x : Float) (s : Bool) (n : ℕ) : Type 0 where
  pub is-num : Num x ≡ true
  pub is_key : K x ≡ cond s (big binary64 - n) (big binary64 + n)
  pub under : n < big binary64

valued : (x : Float) (s : Bool) (n : ℕ) → T (fits binary64 x) → HasValue x s n ONE → Valued x s n
valued nan s n t v = absurd v
valued (inf b) s n t v = absurd v
valued (fin b m e) s n t v =
    let is : mag (low binary64) m e ≡ n = eq_of_mul-eq-mul_right (down e) (down_pos e) (mag (low binary64) m e) n (scaled (low binary64) m e (low-enough binary64 b m e t) ∙ v.1) in
    record {
      is-num = unfold is_nan in (and-true (fits binary64 (fin b m e)) ∙ is_true (fits binary64 (fin b m e)) t);
      is_key = key-signed b m e ∙ (λ i. cond (v.0 i) (big binary64 - is i) (big binary64 + is i));
      under = subst (λ (k : ℕ). k < big binary64) is (below-big binary64 b m e t);
    }

pub radians-valued : (z : ℤ) → nat_abs z ≤ HALF → Valued (radians z) (negative z) (height (nat_abs z))
radians-valued z h = valued (radians z) (negative z) (height (nat_abs z)) (unfold radians from_degrees in mul-fits binary64 (degrees z) PER-DEGREE) (radians-value z h)

pub radians-num : (z : ℤ) → nat_abs z ≤ HALF → Num (radians z) ≡ true
radians-num z h = (radians-valued z h).is-num

-- ---- the order
replaced : (x y a b : ℕ) → x ≡ a → y ≡ b → a < b → x < y
replaced x y a b p q h = omega arith

above : (b h k : ℕ) → h < k → b + h < b + k
above b h k l = omega arith

across : (b o h k : ℕ) → o < h → h < b → b - h < b + k
across b o h k l H = omega arith

under-both : (b h k : ℕ) → k < h → h < b → b - h < b - k
under-both b h k l H = omega arith

key-rises : (v w : ℤ) → nat_abs v ≤ HALF → nat_abs w ≤ HALF → lt_z v w ≡ true → K (radians v) < K (radians w)
key-rises (pos n) (pos m) h k l =
    replaced _ _ _ _ (radians-valued (pos n) h).is_key (radians-valued (pos m) k).is_key (above (big binary64) (height n) (height m) (height-rises n m (ltb-true n m l) k))
key-rises (pos n) (negsuc m) h k l = absurd (false≢true l)
key-rises (negsuc n) (pos m) h k l =
    let a = radians-valued (negsuc n) h in
    replaced _ _ _ _ a.is_key (radians-valued (pos m) k).is_key
    (across (big binary64) (height 0) (height (suc n)) (height m) (height-rises 0 (suc n) (zero-lt-suc n) h) a.under)
key-rises (negsuc n) (negsuc m) h k l =
    let a = radians-valued (negsuc n) h in
    replaced _ _ _ _ a.is_key (radians-valued (negsuc m) k).is_key
    (under-both (big binary64) (height (suc n)) (height (suc m)) (height-rises (suc m) (suc n) (suc-le-suc (ltb-true m n l)) h) a.under)

-- of two whole numbers of size at most 180 degrees the smaller has the smaller double
module _ (v w : ℤ) (p : nat_abs v ≤ HALF) (q : nat_abs w ≤ HALF) where
  pub rises : lt_z v w ≡ true → lt (radians v) (radians w) ≡ true
  rises h = lt-key binary64 (radians v) (radians w) (radians-num v p) (radians-num w q) ∙ lt-ltb _ _ (key-rises v w p q h)

-- ---- and so no two have one
either : (a b : ℕ) → (ltb a b ≡ true) ⊎ ((a ≡ b) ⊎ (ltb b a ≡ true))
either a b = go (ltb a b) (ltb b a) (ltb-false a b) (ltb-false b a)
  where
    go : (s t : Bool) → (s ≡ false → b ≤ a) → (t ≡ false → a ≤ b) → (s ≡ true) ⊎ ((a ≡ b) ⊎ (t ≡ true))
    go true t p q = inl refl
    go false true p q = inr (inr refl)
    go false false p q = inr (inl (omega (arith, p refl, q refl)))

clash : (a b : ℕ) → a ≡ b → a < b → ⊥
clash a b e h = omega arith

-- v is below w, is w, or is above w
pub order : (v w : ℤ) → (lt_z v w ≡ true) ⊎ ((v ≡ w) ⊎ (lt_z w v ≡ true))
order (pos n) (pos m) = elim (either n m) [ inl h ↦ inl h | inr r ↦ elim r [ inl e ↦ inr (inl (ap pos e)) | inr h ↦ inr (inr h) ] ]
order (pos n) (negsuc m) = inr (inr refl)
order (negsuc n) (pos m) = inl refl
order (negsuc n) (negsuc m) = elim (either n m) [ inl h ↦ inr (inr h) | inr r ↦ elim r [ inl e ↦ inr (inl (ap negsuc e)) | inr h ↦ inl h ] ]

module _ (v w : ℤ) (p : nat_abs v ≤ HALF) (q : nat_abs w ≤ HALF) where
  pub keeps : le_z v w ≡ true → le (radians v) (radians w) ≡ true
  keeps h =
      elim (order v w) [
        | inl l ↦ lt-le (radians v) (radians w) (rises v w p q l)
        | inr r ↦
            elim r [
              | inl e ↦ subst (λ (z : ℤ). le (radians v) (radians z) ≡ true) e (le_refl (radians v) (radians-num v p))
              | inr g ↦ clash_ℤ {a = w} {b = v} (lt_z_yes (subst T (sym g) tt)) (le_z_yes (subst T (sym h) tt))
            ]
      ]

  -- equal doubles are of equal numbers
  pub one-to-one : eq (radians v) (radians w) ≡ true → v ≡ w
  one-to-one h =
      let e = eqb-true _ _ (sym (eq-key binary64 (radians v) (radians w) (radians-num v p) (radians-num w q)) ∙ h) in
      elim (order v w) [
        | inl l ↦ absurd (clash _ _ e (key-rises v w p q l))
        | inr r ↦ elim r [ inl i ↦ i | inr g ↦ absurd (clash _ _ (sym e) (key-rises w v q p g)) ]
      ]
