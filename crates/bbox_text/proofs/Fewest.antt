-- No text with the same meaning is shorter than the one that is written: k digits are worth less than 10 ^ k, and such a number has at most k digits; decimals
-- that are worth the same are no fewer, by induction on the digits; a minus before zero, a fraction of zeros and spaces are left out. Assumes nothing.
use mathlib.Core.Path.{◌≡◌, refl, ap, ◌∙◌}
use mathlib.Core.Bool.{Bool, true, false, cond}
use mathlib.Core.List.{List, [], ◌∷◌, ◌++◌}
use Prim.Native.Nat.{ℕ, zero, suc, ◌+◌, ◌-◌, ◌*◌, ◌/◌, ◌%◌, ◌^◌, ◌≤◌, ◌<◌}
use native.Mathlib.Nat.{pow-suc, one-le-pow, mod-eq_of_lt, mul-add-mod_self_right, mul-le-mul_right, mul-lt-mul_of_pos_right}
use native.Mathlib.Omega.{arith}
use borrow.Author.Tests.{ltb-true, ltb-false, lt-ltb, leb-true}
use lib.Dec.{ltb, eqb}
use lib.ListN.{length, length-append}
use lib.Pow.{pow-add}
use lib.IntN.{ℤ, pos, negsuc, neg_ℤ}
use lib.Signed.{le_z}
use Rattle.text.specs.Text.{decimal_text, digit_value, value}
use Rattle.text.proofs.Lengths.{one-digit, two_digits, few-digits}
use Rattle.bounds.specs.declared.bounds.Bounds.{Bounds}
use Rattle.bounds.specs.Bounds.{HALF, in_limits, within, is_westmost, whole_circle, seam_read, placed}
use Rattle.bbox_text.specs.Grammar.{is_digit, are_digits, Int, zero-alone, one-to-three, Frac, no-point, with-point, minus_text, signed, Number, is_number, Element, is-element, Array, is-array}
use Rattle.bbox_text.specs.Text.{decimals, frac_text, size_text, number_text, element_text, text_of}
use Rattle.bounds.proofs.Tests.{and_left, and_right}
use Rattle.bbox_text.proofs.Digits.{digit-high}
use Rattle.bounds.proofs.Boxes.{InLimits, limits, within-size}
use Rattle.bbox_text.proofs.Written.{digit-before}

-- ---- what k digits are worth
digit-under : (d : ℕ) → is_digit d ≡ true → digit_value d ≤ 9
unfolding digit_value
digit-under d h =
    let k : d ≤ 57 = digit-high d h in
    simp (lt-ltb d 58 (omega arith)) (omega arith)

digits-under : (t : List ℕ) → are_digits t ≡ true → value 10 t < 10 ^ length t
unfolding are_digits value
digits-under [] h = omega arith
digits-under (d ∷ t) h =
    let m : digit_value d * 10 ^ length t ≤ 9 * 10 ^ length t = mul-le-mul_right (10 ^ length t) (digit-under d (and_left (is_digit d) (are_digits t) h)) in
    omega (arith, digits-under t (and_right (is_digit d) (are_digits t) h), pow-suc 10 (length t))

-- ---- the whole degrees
pub few-enough : (w k : ℕ) → 1 ≤ k → w < 10 ^ k → length (decimal_text w) ≤ k
few-enough w zero p h = absurd (omega (arith, p))
few-enough w (suc zero) p h = omega (arith, ap length (one-digit w (omega (arith, h))))
few-enough w (suc (suc zero)) p h = by-test (ltb w 10) refl
  where
    by-test : (b : Bool) → ltb w 10 ≡ b → length (decimal_text w) ≤ 2
    by-test true e = omega (arith, ap length (one-digit w (let q : w < 10 = ltb-true w 10 e in omega arith)))
    by-test false e = omega (arith, ap length (two_digits w (let q : 10 ≤ w = ltb-false w 10 e in omega arith) (omega (arith, h))))
few-enough w (suc (suc (suc k))) p h = omega (arith, (few-digits w).1)

int-digits : (t : List ℕ) → Int t → (are_digits t ≡ true) × (1 ≤ length t)
unfolding are_digits is_digit
int-digits t zero-alone = (refl, omega arith)
int-digits t (one-to-three d u h z a l) = (rw (h, a) refl, omega arith)

fewest-int : (t : List ℕ) → Int t → length (decimal_text (value 10 t)) ≤ length t
fewest-int t i = few-enough (value 10 t) (length t) (int-digits t i).1 (digits-under t (int-digits t i).0)

-- ---- the decimals
decimals-zero : (n f : ℕ) → f ≡ 0 → length (decimals n f) ≡ 0
unfolding decimals
decimals-zero zero f e = refl
decimals-zero (suc n) f e = rw e refl

-- a digit q before n decimals
decimals-digit : (n q f : ℕ) → f < 10 ^ n → length (decimals (suc n) (q * 10 ^ n + f)) ≤ suc (length (decimals n f))
unfolding decimals
decimals-digit n q f h = go (eqb (q * 10 ^ n + f) 0)
  where
    rest : (q * 10 ^ n + f) % 10 ^ n ≡ f
    rest = mul-add-mod_self_right q (10 ^ n) f ∙ mod-eq_of_lt h

    go : (b : Bool) → length (cond b [] ((48 + (q * 10 ^ n + f) / 10 ^ n) ∷ decimals n ((q * 10 ^ n + f) % 10 ^ n))) ≤ suc (length (decimals n f))
    go true = omega arith
    go false = rw rest (omega arith)

-- digits, and zeros up to n of them
digits-filled : (n : ℕ) (t : List ℕ) → are_digits t ≡ true → length t ≤ n → value 10 t * 10 ^ (n - length t) < 10 ^ n
digits-filled n t h l =
    let k : length t + (n - length t) ≡ n = omega arith in
    let m : value 10 t * 10 ^ (n - length t) < 10 ^ length t * 10 ^ (n - length t) = mul-lt-mul_of_pos_right (digits-under t h) (one-le-pow (n - length t) 10 (omega arith)) in
    omega (arith, m, pow-add 10 (length t) (n - length t), ap (λ (j : ℕ). 10 ^ j) k)

fewest-decimals : (n : ℕ) (t : List ℕ) → are_digits t ≡ true → length t ≤ n → length (decimals n (value 10 t * 10 ^ (n - length t))) ≤ length t
unfolding are_digits value
fewest-decimals n [] h l = omega (arith, decimals-zero n (0 * 10 ^ (n - 0)) (omega arith))
fewest-decimals zero (d ∷ t) h l = absurd (omega (arith, l))
fewest-decimals (suc n) (d ∷ t) h l =
    let a : are_digits t ≡ true = and_right (is_digit d) (are_digits t) h in
    let k : length t ≤ n = omega (arith, l) in
    let f : ℕ = value 10 t * 10 ^ (n - length t) in
    omega (arith, ap (λ (m : ℕ). length (decimals (suc n) m)) (digit-before n d t k), decimals-digit n (digit_value d) f (digits-filled n t a k), fewest-decimals n t a k)

frac-length : (f : ℕ) → length (frac_text f) ≤ suc (length (decimals 7 f))
unfolding frac_text
frac-length f = go (eqb f 0)
  where
    go : (b : Bool) → length (cond b [] (46 ∷ decimals 7 f)) ≤ suc (length (decimals 7 f))
    go true = omega arith
    go false = omega arith

fewest-frac : (t : List ℕ) (f : ℕ) → Frac t f → (f < 10000000) × (length (frac_text f) ≤ length t)
unfolding frac_text
fewest-frac t f no-point = (omega arith, omega arith)
fewest-frac t f (with-point d a p l) =
    let n : ℕ = value 10 d * 10 ^ (7 - length d) in
    (digits-filled 7 d a l, omega (arith, frac-length n, fewest-decimals 7 d a l))

-- ---- a number
size-length : (w f : ℕ) → f < 10000000 → length (size_text (w * 10000000 + f)) ≡ length (decimal_text w) + length (frac_text f)
unfolding size_text
size-length w f h =
    let a : (w * 10000000 + f) / 10000000 ≡ w = omega arith in
    let b : (w * 10000000 + f) % 10000000 ≡ f = omega arith in
    rw (a, b) (length-append (decimal_text w) (frac_text f))

-- a minus, unless before zero
signed-length : (m : Bool) (n : ℕ) → length (number_text (signed m n)) ≤ length (minus_text m) + length (size_text n)
unfolding number_text signed minus_text
signed-length true zero = omega arith
signed-length true (suc n) = omega arith
signed-length false n = omega arith

pub fewest-number : (t : List ℕ) (z : ℤ) → Number t z → length (number_text z) ≤ length t
fewest-number t z (is_number m i f n p q) =
    let r : (n < 10000000) × (length (frac_text n) ≤ length f) = fewest-frac f n q in
    omega (arith, length-append (minus_text m) (i ++ f), length-append i f, signed-length m (value 10 i * 10000000 + n), size-length (value 10 i) n r.0, fewest-int i p, r.1)

-- ---- the array
fewest-element : (mark : ℕ) (t : List ℕ) (z : ℤ) → Element mark t z → suc (length (number_text z)) ≤ length t
fewest-element mark t z (is-element a u b _ p q r) = simp length-append (omega (arith, fewest-number u z q))

-- a bracket, and a mark after each of the four numbers
pub text-length : (b : Bounds)
    → length (text_of b) ≡ 5 + length (number_text b.west) + length (number_text b.south) + length (number_text b.east) + length (number_text b.north)
unfolding text_of element_text
text-length b = simp length-append (omega arith)

pub fewest-array : (s : List ℕ) (b : Bounds) → Array s b → length (text_of b) ≤ length s
fewest-array s b (is-array x w t e n y west south east north p i j k l q) =
    simp length-append
    (omega (arith, text-length b, fewest-element 44 w west i, fewest-element 44 t south j, fewest-element 44 e east k, fewest-element 93 n north l))

-- ---- the seam: reading -180 as 180 drops a minus
seam-short : (z : ℤ) → within HALF z ≡ true → length (number_text (seam_read z)) ≤ length (number_text z)
unfolding seam_read is_westmost number_text
seam-short (pos n) h = omega arith
seam-short (negsuc n) h = by-test (le_z (negsuc n) (neg_ℤ (pos HALF))) refl
  where
    by-test : (b : Bool) → le_z (negsuc n) (neg_ℤ (pos HALF)) ≡ b → length (number_text (cond b (pos HALF) (negsuc n))) ≤ suc (length (size_text (suc n)))
    by-test true e =
        let k : suc n ≡ HALF = omega (arith, leb-true 1799999999 n e, within-size HALF (negsuc n) h) in
        omega (arith, ap (λ (m : ℕ). length (size_text m)) k)
    by-test false e = omega arith

pub placed-short : (b : Bounds) → in_limits b ≡ true → length (text_of (placed b)) ≤ length (text_of b)
unfolding placed
placed-short b h = by-test (whole_circle b)
  where
    l : InLimits b
    l = limits b h

    read : Bounds
    read = record { west = seam_read b.west; south = b.south; east = seam_read b.east; north = b.north }

    by-test : (c : Bool) → length (text_of (cond c b read)) ≤ length (text_of b)
    by-test true = omega arith
    by-test false = omega (arith, text-length b, text-length read, seam-short b.west l.west, seam-short b.east l.east)
