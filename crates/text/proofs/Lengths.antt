-- A number in decimal has as many digits as it takes, and how long each text is: 16 digits a number, 17 bytes with the mark after it, 68 a line.
-- Assumes nothing.
use mathlib.Core.Path.{◌≡◌, refl, ap}
use mathlib.Core.Bool.{Bool, true, false}
use mathlib.Core.List.{List, [], ◌∷◌}
use Prim.Native.Nat.{ℕ, zero, suc, ◌+◌, ◌*◌, ◌/◌, ◌%◌, ◌≤◌, ◌<◌}
use native.Mathlib.Omega.{arith}
use borrow.Author.Tests.{lt-ltb, le-ltb, ltb-true, ltb-false}
use lib.Dec.{ltb}
use lib.ListN.{length, length-append}
use lib.Ieee.{Float}
use Rattle.text.specs.Text.{hex_digit, hex, number_text, word_text, line_text, lines_text, decimal_text, head_text, PIECES, pieces_text, refused_text, refused_where}

-- ---- decimals
pub one-digit : (n : ℕ) → n ≤ 9 → decimal_text n ≡ hex_digit n ∷ []
unfolding decimal_text
one-digit n h =
    let p : n < 10 = omega arith in
    simp (lt-ltb n 10 p)

pub two_digits : (n : ℕ) → 9 < n → n ≤ 99 → decimal_text n ≡ hex_digit (n / 10) ∷ (hex_digit (n % 10) ∷ [])
unfolding decimal_text
two_digits n h k =
    let p : 10 ≤ n = omega arith in
    let q : n < 100 = omega arith in
    simp (le-ltb n 10 p, lt-ltb n 100 q)

pub three-digits : (n : ℕ) → 99 < n → decimal_text n ≡ hex_digit (n / 100) ∷ (hex_digit (n / 10 % 10) ∷ (hex_digit (n % 10) ∷ []))
unfolding decimal_text
three-digits n h =
    let p : 10 ≤ n = omega arith in
    let q : 100 ≤ n = omega arith in
    simp (le-ltb n 10 p, le-ltb n 100 q)

-- one to three of them
pub few-digits : (n : ℕ) → (1 ≤ length (decimal_text n)) × (length (decimal_text n) ≤ 3)
few-digits n = by_tests (ltb n 10) (ltb n 100) refl refl
  where
    by_tests : (b c : Bool) → ltb n 10 ≡ b → ltb n 100 ≡ c → (1 ≤ length (decimal_text n)) × (length (decimal_text n) ≤ 3)
    by_tests true c e f =
        let p : n < 10 = ltb-true n 10 e in
        omega (arith, ap length (one-digit n (omega arith)))
    by_tests false true e f =
        let p : 10 ≤ n = ltb-false n 10 e in
        let q : n < 100 = ltb-true n 100 f in
        omega (arith, ap length (two_digits n (omega arith) (omega arith)))
    by_tests false false e f =
        let p : 100 ≤ n = ltb-false n 100 f in
        omega (arith, ap length (three-digits n (omega arith)))

-- ---- numbers and lines
pub length-hex : (k n : ℕ) → length (hex k n) ≡ k
unfolding hex
length-hex zero n = refl
length-hex (suc k) n = ap suc (length-hex k n)

pub length-number : (x : Float) → length (number_text x) ≡ 16
unfolding number_text
length-number x = length-hex 16 _

pub length-word : (x : Float) (m : ℕ) → length (word_text x m) ≡ 17
unfolding word_text
length-word x m = simp length-append (omega (arith, length-number x))

pub length-line : (a b c d : Float) → length (line_text a b c d) ≡ 68
unfolding line_text
length-line a b c d = simp length-append (omega (arith, length-word a 32, length-word b 32, length-word c 32, length-word d 10))

-- a line for each whole piece
pub length-lines : (l : List Float) → length (lines_text l) ≡ 68 * (length l / 4)
unfolding lines_text
length-lines [] = refl
length-lines (a ∷ []) = refl
length-lines (a ∷ (b ∷ [])) = refl
length-lines (a ∷ (b ∷ (c ∷ []))) = refl
length-lines (a ∷ (b ∷ (c ∷ (d ∷ l)))) = simp length-append (omega (arith, length-line a b c d, length-lines l))

-- ---- the two texts
pub length-head : (name : List ℕ) (n : ℕ) → length (head_text name n) ≡ length name + length (decimal_text n) + 1
unfolding head_text
length-head name n = simp length-append (omega arith)

pub length-pieces : (l : List Float) → length (pieces_text l) ≡ 8 + length (decimal_text (length l / 4)) + 68 * (length l / 4)
unfolding pieces_text
length-pieces l = simp length-append (omega (arith, length-head PIECES (length l / 4), length-lines l))

pub length-refused : (n : ℕ) → length (refused_text n) ≡ 9 + length (decimal_text n)
unfolding refused_text head_text
length-refused n = simp length-append (omega arith)

pub length-where : (words : List ℕ) (n place : ℕ) → length (refused_where words n place) ≡ 9 + length (decimal_text n) + length words + length (decimal_text place)
length-where words n place = simp length-append (omega (arith, length-head words place))

-- for `grind` in src/
pub ruleset sizes = (length-number, length-word, length-lines, length-head, length-pieces, length-where)
