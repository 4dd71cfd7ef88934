-- Nothing is lost on the way: a double whose pattern is read again is the same double, and a pattern that is no NaN's is that of its double.
-- Each law sets the NaN aside; the rest is the library's round trip of bit patterns. `fits` holds of every f64. Assumes nothing.
use mathlib.Core.Path.{◌≡◌, refl, sym, ◌∙◌, subst}
use mathlib.Core.Bool.{true, false, not}
use Prim.Native.Nat.{ℕ, ◌<◌, ◌^◌}
use lib.Dec.{T, lit<}
use lib.Ieee.{Float, nan, inf, fin, binary64, fits, is_nan, nan_bits, of_bits, to_bits}
use lib.Ieee.Bits.{of_bits-to_bits, to_bits-of_bits, to_bits-lt, nan_bits_is}
use Rattle.bits.specs.Pattern.{of_pattern, to_pattern}

-- a double that is no NaN, whose pattern then is no NaN's either
number : (x : Float) → fits binary64 x ≡ true → is_nan x ≡ false → of_pattern (to_bits binary64 x) ≡ x
unfolding of_pattern
number x h n = simp (nan_bits_is, of_bits-to_bits binary64 x (subst T (sym h) tt), n)

-- reading what was written
pub read-written : (x : Float) → fits binary64 x ≡ true → of_pattern (to_pattern x) ≡ x
unfolding to_pattern of_pattern is_nan nan_bits
read-written nan h = refl
read-written (inf s) h = number (inf s) h refl
read-written (fin s m e) h = number (fin s m e) h refl

-- writing what was read
pub written_read : (n : ℕ) → n < 2 ^ 64 → nan_bits binary64 n ≡ false → to_pattern (of_pattern n) ≡ n
unfolding to_pattern of_pattern
written_read n below h =
    let k : is_nan (of_bits binary64 n) ≡ false = sym (nan_bits_is binary64 n) ∙ h in
    simp (h, k, to_bits-of_bits binary64 n below (subst (λ b. T (not b)) (sym k) tt))

-- a pattern has 64 bits
pub pattern_lt : (x : Float) → fits binary64 x ≡ true → to_pattern x < 2 ^ 64
unfolding to_pattern is_nan
pattern_lt nan h = lit< tt
pattern_lt (inf s) h = to_bits-lt binary64 (inf s) (subst T (sym h) tt)
pattern_lt (fin s m e) h = to_bits-lt binary64 (fin s m e) (subst T (sym h) tt)
