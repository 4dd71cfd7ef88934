-- Doubles as whole numbers of units of 2 ^ -1074. The double made of a value has that value where its size is one that a double can have (`Size`):
-- then `round` changes nothing. Of one value there is one double, negative zero aside, so a double is made of its own value.
-- Assumes nothing.
use mathlib.Core.Path.{◌≡◌, refl, sym, ap, ◌∙◌, subst}
use mathlib.Core.Bool.{Bool, true, false, cond, ◌&&◌, and-true, false≢true}
use Prim.Native.Nat.{ℕ, zero, suc, ◌+◌, ◌-◌, ◌*◌, ◌%◌, ◌^◌, ◌≤◌, ◌<◌}
use native.Mathlib.Nat.{mul_assoc, eq_of_mul-eq-mul_right, le_of_mul-le-mul_right, lt_of_le_of_lt}
use native.Mathlib.Omega.{arith}
use lib.Pow.{pow_pos, pow-add}
use lib.Dec.{T, ltb, leb, eqb, ltb→lt, lit<}
use lib.IntN.{ℤ, pos, negsuc, neg_ℤ, nat_abs}
use lib.Ieee.{Float, nan, inf, fin, binary64, low, up, down, fits, round, eq, is_nan, of_bits}
use lib.Ieee.Bits.{is_true}
use lib.Ieee.Digits.{back}
use lib.Ieee.Exact.{HasValue, round_exact}
use lib.Ieee.Fits.{down_pos, round-fits, and_l, and_r}
use lib.Ieee.Scale.{finite}
use borrow.Author.Tests.{eqb-true, eq-eqb}
use Rattle.order.proofs.Keys.{scaled, low-enough, below-big, eq-key, zero-key}
use Rattle.order.proofs.Ranks.{and-of}
use Rattle.order.proofs.Monotone.{real-num}
use Rattle.order.specs.Key.{mag, big, key, K, Num, is_zero}
use Rattle.consts.proofs.Readings.{plain-num, plain-key, plain-plain, plain-same}
use Rattle.consts.proofs.Differences.{by_order, apart, apart-mul, abs-signed}
use Rattle.consts.specs.Answer.{ZERO}
use Rattle.consts.specs.Reading.{plain}
use Rattle.consts.specs.Remainder.{signed, value, double}

pub ok : (b : Bool) → b ≡ true → T b
ok b e = subst T (sym e) tt

-- ---- the value of a double, in units
abbrev pub UNIT : ℕ
UNIT = 2 ^ low binary64

abbrev pub units : ℕ → ℤ → ℕ
units m e = mag (low binary64) m e

pub in-units : (s : Bool) (m : ℕ) (e : ℤ) → T (fits binary64 (fin s m e)) → units m e * down e ≡ m * up e * UNIT
in-units s m e f = scaled (low binary64) m e (low-enough binary64 s m e f)

value_of : (x : Float) (s : Bool) (n : ℕ) → T (fits binary64 x) → HasValue x s n UNIT → value x ≡ signed s n
unfolding value
value_of nan s n f v = absurd v
value_of (inf t) s n f v = absurd v
value_of (fin t m e) s n f v =
    ap (λ (b : Bool). signed b (units m e)) v.0 ∙ ap (signed s) (eq_of_mul-eq-mul_right (down e) (down_pos e) (units m e) n (in-units t m e f ∙ v.1))

-- ---- the sizes that a double can have: at most 53 binary digits, and zeros after them
pub record Size (n : ℕ) : Type 0 where
  pub q : ℕ
  pub j : ℕ
  pub small : q < 2 ^ 53
  pub is : n ≡ q * 2 ^ j
  pub under : n < 2 ^ 2098

round-value : (s : Bool) (n : ℕ) → Size n → HasValue (round binary64 s n UNIT) s n UNIT
round-value s n h =
    round_exact binary64 s n UNIT h.q h.j (pow_pos (low binary64)) h.small (subst (λ (z : ℕ). z < 2 ^ 2098) h.is h.under) (ap (λ (z : ℕ). z * UNIT) h.is)

digits : (s : Bool) (m : ℕ) (e : ℤ) → T (fits binary64 (fin s m e)) → m < 2 ^ 53
unfolding fits
digits s zero e f = lit< tt
digits s (suc m) e f =
    let a = eqb (suc m % 2) 1 in
    let b = ltb (suc m) (2 ^ 53) in
    let c = leb (down e) (2 ^ 1074) in
    ltb→lt (suc m) (2 ^ 53) (and_r a b (and_l (a && b) c (and_l (a && b && c) (ltb (suc m * up e) (2 ^ 1024 * down e)) f)))

pub own-size : (s : Bool) (m : ℕ) (e : ℤ) → T (fits binary64 (fin s m e)) → Size (units m e)
unfolding mag big
own-size s m (pos k) f = record { q = m; j = low binary64 + k; small = digits s m (pos k) f; is = refl; under = below-big binary64 s m (pos k) f }
own-size s m (negsuc k) f = record { q = m; j = low binary64 - suc k; small = digits s m (negsuc k) f; is = refl; under = below-big binary64 s m (negsuc k) f }

-- The distance of a size a from a multiple of a size b is again a size, if it is at most a and at most b.
-- Both are multiples of the smaller of their powers of two, and so is the distance; and the one of that power is less than 2 ^ 53 of these.
pub as-multiple : (q a b : ℕ) → b ≤ a → q * 2 ^ a ≡ q * 2 ^ (a - b) * 2 ^ b
as-multiple q a b h = ap (λ (i : ℕ). q * 2 ^ i) (sym (back a b h)) ∙ ap (λ (z : ℕ). q * z) (pow-add 2 (a - b) b) ∙ sym (mul_assoc q (2 ^ (a - b)) (2 ^ b))

in-powers : (n j : ℕ) (h : Size n) → j ≤ h.j → n ≡ h.q * 2 ^ (h.j - j) * 2 ^ j
in-powers n j h l = h.is ∙ as-multiple h.q h.j j l

module _ (a b n : ℕ) (sa : Size a) (sb : Size b) (la : apart a (n * b) ≤ a) (lb : apart a (n * b) ≤ b) where
  abbrev r : ℕ
  r = apart a (n * b)

  by-powers : (j x y c : ℕ) → a ≡ x * 2 ^ j → b ≡ y * 2 ^ j → c < 2 ^ 53 → r ≤ c * 2 ^ j → Size r
  by-powers j x y c p q small l =
      let e : r ≡ apart x (n * y) * 2 ^ j = (λ i. apart (p i) (n * q i)) ∙ (λ i. apart (x * 2 ^ j) (sym (mul_assoc n y (2 ^ j)) i)) ∙ apart-mul x (n * y) (2 ^ j) in
      let d : apart x (n * y) ≤ c = le_of_mul-le-mul_right {m = apart x (n * y)} {n = c} {k = 2 ^ j} (subst (λ (z : ℕ). z ≤ c * 2 ^ j) e l) (pow_pos j) in
      record { q = apart x (n * y); j = j; small = lt_of_le_of_lt d small; is = e; under = lt_of_le_of_lt la sa.under }

  pub apart-size : Size r
  apart-size =
      by_order sa.j sb.j
      (λ h. by-powers sa.j sa.q (sb.q * 2 ^ (sb.j - sa.j)) sa.q sa.is (in-powers b sa.j sb (omega arith)) sa.small (subst (λ (z : ℕ). r ≤ z) sa.is la))
      (λ h. by-powers sb.j (sa.q * 2 ^ (sa.j - sb.j)) sb.q sb.q (in-powers a sb.j sa h) sb.is sb.small (subst (λ (z : ℕ). r ≤ z) sb.is lb))

-- ---- a double's key, by its value: of one value there is one double, negative zero aside
pub num_of : (s : Bool) (m : ℕ) (e : ℤ) → T (fits binary64 (fin s m e)) → Num (fin s m e) ≡ true
unfolding is_nan
num_of s m e f = and-true (fits binary64 (fin s m e)) ∙ is_true (fits binary64 (fin s m e)) f

pub finite-num : (x : Float) → fits binary64 x ≡ true → finite x ≡ true → Num x ≡ true
finite-num x f h = real-num x (and-of f h)

abbrev place : ℤ → ℕ
place (pos n) = big binary64 + n
place (negsuc n) = big binary64 - suc n

place-minus : (n : ℕ) → place (neg_ℤ (pos n)) ≡ big binary64 - n
place-minus zero = omega arith
place-minus (suc n) = refl

value-key : (x : Float) → finite x ≡ true → K x ≡ place (value x)
unfolding key value
value-key nan h = absurd (false≢true h)
value-key (inf s) h = absurd (false≢true h)
value-key (fin true m e) h = sym (place-minus (units m e))
value-key (fin false m e) h = refl

same_key : (x y : Float) → Num x ≡ true → Num y ≡ true → plain x ≡ x → plain y ≡ y → K x ≡ K y → x ≡ y
same_key x y n m p q h = plain-same x y n m p q (eq-key binary64 x y n m ∙ eq-eqb (K x) (K y) h)

pub one-double : (x y : Float) → fits binary64 x ≡ true → fits binary64 y ≡ true → finite x ≡ true → finite y ≡ true → plain x ≡ x → plain y ≡ y
    → value x ≡ value y → x ≡ y
one-double x y f g i j p q h = same_key x y (finite-num x f i) (finite-num y g j) p q (value-key x i ∙ ap place h ∙ sym (value-key y j))

-- ---- the double made of a value
pub double-fits : (z : ℤ) → fits binary64 (double z) ≡ true
unfolding double
double-fits (pos n) = is_true (fits binary64 (double (pos n))) (round-fits binary64 false n UNIT)
double-fits (negsuc n) = is_true (fits binary64 (double (negsuc n))) (round-fits binary64 true (suc n) UNIT)

pub double-signed : (s : Bool) (n : ℕ) → 0 < n → double (signed s n) ≡ round binary64 s n UNIT
unfolding double
double-signed s zero h = absurd (omega arith)
double-signed true (suc n) h = refl
double-signed false (suc n) h = refl

abbrev negative : ℤ → Bool
negative (pos n) = false
negative (negsuc n) = true

its-sign : (z : ℤ) → signed (negative z) (nat_abs z) ≡ z
its-sign (pos n) = refl
its-sign (negsuc n) = refl

module _ (z : ℤ) (size : Size (nat_abs z)) where
  has : HasValue (double z) (negative z) (nat_abs z) UNIT
  has = go z size
    where
      go : (z : ℤ) → Size (nat_abs z) → HasValue (double z) (negative z) (nat_abs z) UNIT
      go (pos n) h = unfold double in round-value false n h
      go (negsuc n) h = unfold double in round-value true (suc n) h

  pub double-value : value (double z) ≡ z
  double-value = value_of (double z) (negative z) (nat_abs z) (ok (fits binary64 (double z)) (double-fits z)) has ∙ its-sign z

  pub double-finite : finite (double z) ≡ true
  double-finite = go (double z) has
    where
      go : (x : Float) → HasValue x (negative z) (nat_abs z) UNIT → finite x ≡ true
      go nan v = absurd v
      go (inf s) v = absurd v
      go (fin s m e) v = refl

  double-key : K (double z) ≡ place z
  double-key = value-key (double z) double-finite ∙ ap place double-value

  double-num : Num (double z) ≡ true
  double-num = finite-num (double z) (double-fits z) double-finite

  -- it compares equal to zero only where it is made of zero
  pub double-plain : plain (double z) ≡ double z
  unfolding plain
  double-plain = go (eq (double z) ZERO) refl
    where
      none : (z : ℤ) → nat_abs z < big binary64 → place z ≡ big binary64 → z ≡ pos 0
      none (pos n) b h = ap pos (omega arith)
      none (negsuc n) b h = absurd (omega arith)

      zero-num : Num ZERO ≡ true
      zero-num = unfold fits is_nan of_bits in refl

      is-zero : is_zero ZERO ≡ true
      is-zero = unfold is_zero of_bits in refl

      go : (t : Bool) → eq (double z) ZERO ≡ t → cond t ZERO (double z) ≡ double z
      go true h =
          sym (ap double (none z (unfold big in size.under)
          (sym double-key ∙ eqb-true (K (double z)) (K ZERO) (sym (eq-key binary64 (double z) ZERO double-num zero-num) ∙ h) ∙ zero-key binary64 ZERO is-zero)) ∙ (unfold double of_bits in refl))
      go false h = refl

-- a double, read, is made of its own value
pub plain-made : (s : Bool) (m : ℕ) (e : ℤ) → T (fits binary64 (fin s m e)) → plain (fin s m e) ≡ double (signed s (units m e))
unfolding value
plain-made s m e f =
    let x = fin s m e in
    let z = signed s (units m e) in
    let n = num_of s m e f in
    let size : Size (nat_abs z) = subst Size (sym (abs-signed s (units m e))) (own-size s m e f) in
    same_key (plain x) (double z) (plain-num x n) (double-num z size) (plain-plain x) (double-plain z size) (plain-key x n ∙ value-key x refl ∙ sym (double-key z size))
