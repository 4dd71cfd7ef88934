-- What is written is a text of the grammar and means the box it was written for: the digits of a whole number under 1,000 have no needless zero; the first n
-- decimals of a part of 10 ^ n are at most n digits, worth that part once zeros fill them up to n, by induction on n. Assumes nothing.
use mathlib.Core.Path.{◌≡◌, refl, sym, ap, ◌∙◌, subst}
use mathlib.Core.Bool.{Bool, true, false, cond}
use mathlib.Core.List.{List, [], ◌∷◌, ◌++◌, append-nil}
use Prim.Native.Nat.{ℕ, zero, suc, ◌+◌, ◌-◌, ◌*◌, ◌/◌, ◌%◌, ◌^◌, ◌≤◌, ◌<◌}
use native.Mathlib.Nat.{add-mul, mul_assoc, pow-suc, one-le-pow, mod-lt, div-add-mod', div-lt_iff_lt-mul, pos_of_ne-zero}
use native.Mathlib.Omega.{arith}
use borrow.Author.Tests.{ltb-true, ltb-false, eqb-true, eqb-false, lt-ltb, le-leb, ne_eqb}
use lib.Dec.{ltb, eqb}
use lib.ListN.{length, drop, get_or, length-append}
use lib.Pow.{pow-add}
use lib.IntN.{ℤ, pos, negsuc, nat_abs}
use lib.Signed.{lt_z}
use Rattle.text.specs.Text.{hex_digit, decimal_text, digit_value, value}
use Rattle.text.proofs.Lengths.{one-digit, two_digits, three-digits, few-digits}
use Rattle.text.proofs.Digits.{decimal-reads}
use Rattle.bounds.specs.declared.bounds.Bounds.{Bounds}
use Rattle.bounds.specs.Bounds.{givable}
use Rattle.bbox_text.specs.Grammar.{is_digit, are_digits, are_spaces, Int, zero-alone, one-to-three, Frac, no-point, with-point, minus_text, signed}
use Rattle.bbox_text.specs.Grammar.{Number, is_number, Element, is-element, Array, is-array}
use Rattle.bbox_text.specs.Text.{decimals, frac_text, size_text, number_text, element_text, text_of}
use Rattle.bounds.proofs.Boxes.{sizes}

above_zero : (n : ℕ) → eqb n 0 ≡ false → 0 < n
above_zero n e = pos_of_ne-zero (eqb-false n 0 e)

-- ---- digits
digit : (d : ℕ) → d < 10 → is_digit (48 + d) ≡ true
unfolding is_digit
digit d h = rw (le-leb 48 (48 + d) (omega arith), le-leb (48 + d) 57 (omega arith)) refl

digit-worth : (d : ℕ) → d < 10 → digit_value (48 + d) ≡ d
unfolding digit_value
digit-worth d h = simp (lt-ltb (48 + d) 58 (omega arith)) (omega arith)

digit-is : (d : ℕ) → d < 10 → hex_digit d ≡ 48 + d
unfolding hex_digit
digit-is d h = simp (lt-ltb d 10 h)

written-digit : (d : ℕ) → d < 10 → is_digit (hex_digit d) ≡ true
written-digit d h = ap is_digit (digit-is d h) ∙ digit d h

-- ---- the whole degrees
-- a digit that is not zero, and at most two more
leading : (d : ℕ) (t : List ℕ) → 0 < d → d < 10 → are_digits t ≡ true → length t ≤ 2 → Int (hex_digit d ∷ t)
leading d t p h a l =
    one-to-three (hex_digit d) t (written-digit d h) (ne_eqb (hex_digit d) 48 (λ e. omega (arith, digit-is d h, e))) a l

pub int-written : (w : ℕ) → w < 1000 → Int (decimal_text w)
unfolding are_digits decimal_text hex_digit
int-written w h = by_tests (eqb w 0) (ltb w 10) (ltb w 100) refl refl refl
  where
    by_tests : (z b c : Bool) → eqb w 0 ≡ z → ltb w 10 ≡ b → ltb w 100 ≡ c → Int (decimal_text w)
    by_tests true b c k e f = subst Int (sym (ap decimal_text (eqb-true w 0 k))) zero-alone
    by_tests false true c k e f =
        let p : w < 10 = ltb-true w 10 e in
        subst Int (sym (one-digit w (omega arith))) (leading w [] (above_zero w k) p refl (omega arith))
    by_tests false false true k e f =
        let p : 10 ≤ w = ltb-false w 10 e in
        let q : w < 100 = ltb-true w 100 f in
        subst Int (sym (two_digits w (omega arith) (omega arith)))
        (leading (w / 10) (hex_digit (w % 10) ∷ []) (omega arith) (omega arith) (rw (written-digit (w % 10) (omega arith)) refl) (omega arith))
    by_tests false false false k e f =
        let p : 100 ≤ w = ltb-false w 100 f in
        subst Int (sym (three-digits w (omega arith)))
        (leading (w / 100) (hex_digit (w / 10 % 10) ∷ (hex_digit (w % 10) ∷ [])) (omega arith) (omega arith)
        (rw (written-digit (w / 10 % 10) (omega arith), written-digit (w % 10) (omega arith)) refl) (omega arith))

-- ---- the decimals
-- a digit before others, and zeros up to one place more: what each is worth
pub digit-before : (n d : ℕ) (t : List ℕ) → length t ≤ n
    → value 10 (d ∷ t) * 10 ^ (suc n - length (d ∷ t)) ≡ digit_value d * 10 ^ n + value 10 t * 10 ^ (n - length t)
unfolding value
digit-before n d t h =
    let k : ℕ = n - length t in
    let e : length t + k ≡ n = omega arith in
    let s : suc n - suc (length t) ≡ k = omega arith in
    ap (λ (j : ℕ). (digit_value d * 10 ^ length t + value 10 t) * 10 ^ j) s
    ∙ add-mul (digit_value d * 10 ^ length t) (value 10 t) (10 ^ k)
    ∙ ap (λ (m : ℕ). m + value 10 t * 10 ^ k) (mul_assoc (digit_value d) (10 ^ length t) (10 ^ k))
    ∙ ap (λ (m : ℕ). digit_value d * m + value 10 t * 10 ^ k) (sym (pow-add 10 (length t) k) ∙ ap (λ (j : ℕ). 10 ^ j) e)

-- the text t of n decimals for f, zeros at the end left out
record Decimals (n f : ℕ) (t : List ℕ) : Type 0 where
  digits : are_digits t ≡ true
  few : length t ≤ n
  worth : value 10 t * 10 ^ (n - length t) ≡ f

decimals-none : (n f : ℕ) → f ≡ 0 → Decimals n f []
unfolding are_digits value
decimals-none n f e = record { digits = refl; few = omega arith; worth = omega arith }

decimals-digit : (n q f : ℕ) (t : List ℕ) → q < 10 → Decimals n f t → Decimals (suc n) (q * 10 ^ n + f) ((48 + q) ∷ t)
unfolding are_digits
decimals-digit n q f t h r =
    record {
      digits = rw (digit q h) r.digits;
      few = omega (arith, r.few);
      worth = digit-before n (48 + q) t r.few ∙ ap (λ (d : ℕ). d * 10 ^ n + value 10 t * 10 ^ (n - length t)) (digit-worth q h) ∙ ap (λ (m : ℕ). q * 10 ^ n + m) r.worth;
    }

decimals-written : (n f : ℕ) → f < 10 ^ n → Decimals n f (decimals n f)
unfolding decimals
decimals-written zero f h = decimals-none 0 f (omega (arith, h))
decimals-written (suc n) f h = by-test (eqb f 0) refl (decimals-written n (f % 10 ^ n) (mod-lt f p))
  where
    p : 0 < 10 ^ n
    p = one-le-pow n 10 (omega arith)

    q : f / 10 ^ n < 10
    q = (div-lt_iff_lt-mul p).1 (omega (arith, h, pow-suc 10 n))

    by-test : (b : Bool) → eqb f 0 ≡ b → Decimals n (f % 10 ^ n) (decimals n (f % 10 ^ n))
        → Decimals (suc n) f (cond b [] ((48 + f / 10 ^ n) ∷ decimals n (f % 10 ^ n)))
    by-test true e r = decimals-none (suc n) f (eqb-true f 0 e)
    by-test false e r =
        subst (λ (m : ℕ). Decimals (suc n) m ((48 + f / 10 ^ n) ∷ decimals n (f % 10 ^ n))) (div-add-mod' f (10 ^ n))
        (decimals-digit n (f / 10 ^ n) (f % 10 ^ n) (decimals n (f % 10 ^ n)) q r)

-- a part that is not zero has a decimal
decimals-some : (n f : ℕ) → eqb f 0 ≡ false → 0 < length (decimals (suc n) f)
unfolding decimals
decimals-some n f e = rw e (omega arith)

pub frac-written : (f : ℕ) → f < 10000000 → Frac (frac_text f) f
unfolding frac_text
frac-written f h = by-test (eqb f 0) refl
  where
    by-test : (b : Bool) → eqb f 0 ≡ b → Frac (cond b [] (46 ∷ decimals 7 f)) f
    by-test true e = subst (Frac []) (sym (eqb-true f 0 e)) no-point
    by-test false e =
        let d : Decimals 7 f (decimals 7 f) = decimals-written 7 f h in
        subst (Frac (46 ∷ decimals 7 f)) d.worth (with-point (decimals 7 f) d.digits (decimals-some 6 f e) d.few)

-- ---- a number
size-written : (m : Bool) (n : ℕ) → n < 10000000000 → Number (minus_text m ++ size_text n) (signed m n)
unfolding size_text
size-written m n h =
    let w : ℕ = n / 10000000 in
    let f : ℕ = n % 10000000 in
    let b : w < 1000 = omega arith in
    let e : value 10 (decimal_text w) * 10000000 + f ≡ n = omega (arith, decimal-reads w b) in
    subst (λ (k : ℕ). Number (minus_text m ++ (decimal_text w ++ frac_text f)) (signed m k)) e
    (is_number m (decimal_text w) (frac_text f) f (int-written w b) (frac-written f (omega arith)))

pub number-written : (z : ℤ) → nat_abs z < 10000000000 → Number (number_text z) z
unfolding number_text minus_text signed
number-written (pos n) h = size-written false n h
number-written (negsuc n) h = size-written true (suc n) h

-- ---- the array, with no spaces
element-written : (z : ℤ) (mark : ℕ) → nat_abs z < 10000000000 → Element mark (element_text z mark) z
unfolding element_text are_spaces
element-written z mark h = is-element [] (number_text z) [] z refl (number-written z h) refl

pub array_written : (b : Bounds) → givable b ≡ true → Array (text_of b) b
unfolding text_of are_spaces
array_written b h =
    let s : (nat_abs b.west < 10000000000) × (nat_abs b.south < 10000000000) × (nat_abs b.east < 10000000000) × (nat_abs b.north < 10000000000) = sizes b h in
    subst (λ (t : List ℕ). Array t b) (ap (λ (t : List ℕ). 91 ∷ (element_text b.west 44 ++ (element_text b.south 44 ++ (element_text b.east 44 ++ t)))) (append-nil (element_text b.north 93)))
    (is-array [] (element_text b.west 44) (element_text b.south 44) (element_text b.east 44) (element_text b.north 93) [] b.west b.south b.east b.north refl
    (element-written b.west 44 s.0) (element-written b.south 44 s.1) (element-written b.east 44 s.2) (element-written b.north 93 s.3) refl)

-- ---- the minus
-- a size begins with a digit, and the code of a minus is below those of the digits
low_digit : (d : ℕ) → 48 ≤ hex_digit d
unfolding hex_digit
low_digit d = go (ltb d 10)
  where
    go : (b : Bool) → 48 ≤ cond b (48 + d) (55 + d)
    go true = omega arith
    go false = omega arith

digit-first : (w : ℕ) (t : List ℕ) → 48 ≤ get_or (decimal_text w ++ t) 0 0
unfolding decimal_text
digit-first w t = go (ltb w 10) (ltb w 100)
  where
    go : (b c : Bool)
        → 48 ≤ get_or (cond b (hex_digit w ∷ []) (cond c (hex_digit (w / 10) ∷ (hex_digit (w % 10) ∷ []))
        (hex_digit (w / 100) ∷ (hex_digit (w / 10 % 10) ∷ (hex_digit (w % 10) ∷ [])))) ++ t) 0 0
    go true c = low_digit w
    go false true = low_digit (w / 10)
    go false false = low_digit (w / 100)

-- what begins with a minus is below zero
pub minus-below : (z : ℤ) (t : List ℕ) → number_text z ≡ 45 ∷ t → lt_z z (pos 0) ≡ true
unfolding number_text size_text
minus-below (pos n) t e =
    absurd (omega (arith, digit-first (n / 10000000) (frac_text (n % 10000000)), ap (λ (l : List ℕ). get_or l 0 0) e))
minus-below (negsuc n) t e = refl

-- only zero is written "0"
size-zero : (n : ℕ) → n < 10000000000 → size_text n ≡ 48 ∷ [] → n ≡ 0
unfolding size_text frac_text value digit_value
size-zero n h = by-test (eqb f 0) refl
  where
    w : ℕ
    w = n / 10000000

    f : ℕ
    f = n % 10000000

    by-test : (b : Bool) → eqb f 0 ≡ b → decimal_text w ++ cond b [] (46 ∷ decimals 7 f) ≡ 48 ∷ [] → n ≡ 0
    by-test true k e =
        let v : value 10 (decimal_text w) ≡ 0 = ap (value 10) (sym (append-nil (decimal_text w)) ∙ e) in
        omega (arith, eqb-true f 0 k, decimal-reads w (omega arith))
    by-test false k e =
        absurd (omega (arith, ap length e, length-append (decimal_text w) (46 ∷ decimals 7 f), (few-digits w).0, decimals-some 6 f k))

-- never "-0"
pub no-minus-zero : (z : ℤ) → nat_abs z < 10000000000 → number_text z ≡ 45 ∷ (48 ∷ []) → ⊥
unfolding number_text
no-minus-zero (pos n) h e = omega (arith, ltb-true n 0 (minus-below (pos n) (48 ∷ []) e))
no-minus-zero (negsuc n) h e = omega (arith, size-zero (suc n) h (ap (drop 1) e))
