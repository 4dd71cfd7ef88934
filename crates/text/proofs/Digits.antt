-- What the digits mean. Reading the last k hexadecimal digits of a number back gives the number modulo 16^k, by induction on k, a digit being four of its
-- bits; so a double's 16 digits are its bit pattern, and two doubles with the same digits are the same double. `fits` holds of every f64. Reading a number
-- under 1,000 back from its decimal gives the number. Assumes nothing.
use mathlib.Core.Path.{◌≡◌, refl, sym, ap, ◌∙◌}
use mathlib.Core.Bool.{Bool, true, false}
use mathlib.Core.List.{List}
use Prim.Native.Nat.{ℕ, zero, suc, ◌+◌, ◌*◌, ◌/◌, ◌%◌, ◌^◌, ◌≤◌, ◌<◌}
use native.Mathlib.Nat.{pow-suc, mod-lt, mod-eq_of_lt}
use native.Mathlib.Omega.{arith}
use borrow.Author.Tests.{lt-ltb, le-ltb, ltb-true, ltb-false}
use lib.Dec.{ltb, lit<}
use lib.ListN.{length}
use lib.Pow.{pow-add, mod-pow-add}
use lib.Ieee.{Float, binary64, fits}
use Rattle.bits.specs.Pattern.{of_pattern, to_pattern}
use Rattle.bits.proofs.RoundTrip.{read-written, pattern_lt}
use Rattle.text.specs.Text.{hex_digit, hex, number_text, decimal_text, digit_value, value}
use Rattle.text.proofs.Lengths.{length-hex, one-digit, two_digits, three-digits}

-- a digit is worth what it was written for
pub digit-reads : (d : ℕ) → d < 16 → digit_value (hex_digit d) ≡ d
unfolding hex_digit digit_value
digit-reads d h = by-test (ltb d 10) refl
  where
    by-test : (b : Bool) → ltb d 10 ≡ b → digit_value (hex_digit d) ≡ d
    by-test true e =
        let p : d < 10 = ltb-true d 10 e in
        let q : 48 + d < 58 = omega arith in
        simp (e, lt-ltb (48 + d) 58 q) (omega arith)
    by-test false e =
        let p : 10 ≤ d = ltb-false d 10 e in
        let q : 58 ≤ 55 + d = omega arith in
        simp (e, le-ltb (55 + d) 58 q) (omega arith)

-- ---- hexadecimal
sixteens : (k : ℕ) → 16 ^ k ≡ 2 ^ (4 * k)
sixteens zero = refl
sixteens (suc k) =
    let e : 4 * k + 4 ≡ 4 * suc k = omega arith in
    pow-suc 16 k ∙ ap (λ (n : ℕ). n * 16) (sixteens k) ∙ sym (pow-add 2 (4 * k) 4) ∙ ap (λ (n : ℕ). 2 ^ n) e

by_bits : (k n : ℕ) → value 16 (hex k n) ≡ n % 2 ^ (4 * k)
unfolding hex value
by_bits zero n = omega arith
by_bits (suc k) n =
    let d : ℕ = n / 2 ^ (4 * k) % 16 in
    let e : 4 + 4 * k ≡ 4 * suc k = omega arith in
    ap (λ (w : ℕ). w * 16 ^ length (hex k n) + value 16 (hex k n)) (digit-reads d (mod-lt (n / 2 ^ (4 * k)) (lit< tt)))
    ∙ ap (λ (j : ℕ). d * 16 ^ j + value 16 (hex k n)) (length-hex k n)
    ∙ ap (λ (w : ℕ). d * w + value 16 (hex k n)) (sixteens k)
    ∙ ap (λ (w : ℕ). d * 2 ^ (4 * k) + w) (by_bits k n)
    ∙ sym (mod-pow-add n 4 (4 * k)) ∙ ap (λ (j : ℕ). n % 2 ^ j) e

pub hex-reads : (k n : ℕ) → value 16 (hex k n) ≡ n % 16 ^ k
hex-reads k n = by_bits k n ∙ ap (λ (m : ℕ). n % m) (sym (sixteens k))

-- ---- doubles
pub number-reads : (x : Float) → fits binary64 x ≡ true → value 16 (number_text x) ≡ to_pattern x
unfolding number_text
number-reads x h = by_bits 16 (to_pattern x) ∙ mod-eq_of_lt (pattern_lt x h)

pub same_number : (x y : Float) → fits binary64 x ≡ true → fits binary64 y ≡ true → number_text x ≡ number_text y → x ≡ y
same_number x y h k e =
    sym (read-written x h) ∙ ap of_pattern (sym (number-reads x h) ∙ ap (λ (t : List ℕ). value 16 t) e ∙ number-reads y k) ∙ read-written y k

-- ---- decimal
pub decimal-reads : (n : ℕ) → n < 1000 → value 10 (decimal_text n) ≡ n
unfolding value
decimal-reads n h = by_tests (ltb n 10) (ltb n 100) refl refl
  where
    by_tests : (b c : Bool) → ltb n 10 ≡ b → ltb n 100 ≡ c → value 10 (decimal_text n) ≡ n
    by_tests true c e f =
        let p : n < 10 = ltb-true n 10 e in
        ap (value 10) (one-digit n (omega arith)) ∙ omega (arith, digit-reads n (omega arith))
    by_tests false true e f =
        let p : 10 ≤ n = ltb-false n 10 e in
        let q : n < 100 = ltb-true n 100 f in
        ap (value 10) (two_digits n (omega arith) (omega arith)) ∙ omega (arith, digit-reads (n / 10) (omega arith), digit-reads (n % 10) (omega arith))
    by_tests false false e f =
        let p : 100 ≤ n = ltb-false n 100 f in
        ap (value 10) (three-digits n (omega arith))
        ∙ omega (arith, digit-reads (n / 100) (omega arith), digit-reads (n / 10 % 10) (omega arith), digit-reads (n % 10) (omega arith))
