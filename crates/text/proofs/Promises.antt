-- What document 01 promises of the texts that go out, in its order and words, each as one theorem with all that it asks in its own signature. Each is a law of the
-- modules beside this one. A number handed in is a double, as all numbers are that a program hands in (`fits`, `Doubles`). Assumes nothing.
use mathlib.Core.Path.{◌≡◌, refl}
use mathlib.Core.Bool.{Bool, true, false, cond}
use mathlib.Core.List.{List, [], ◌∷◌, ◌++◌}
use mathlib.Core.Logic.{◌⊎◌, inl, inr, ◌↔◌}
use Prim.Native.Nat.{ℕ, zero, suc, ◌+◌, ◌*◌, ◌/◌, ◌%◌, ◌^◌, ◌≤◌, ◌<◌}
use native.Mathlib.Omega.{arith}
use borrow.Author.Tests.{ltb-true, ltb-false, lt-leb, leb-false}
use lib.Dec.{leb, ltb}
use lib.ListN.{length}
use lib.Ieee.{Float, binary64, fits}
use Rattle.bits.specs.Pattern.{to_pattern}
use Rattle.consts.specs.Refusal.{number, accepted, bad_list, no_room}
use Rattle.entries.specs.Lists.{All, whole}
use Rattle.entries.proofs.Lengths.{not-whole-when}
use Rattle.text.specs.Text.{hex_digit, hex, number_text, word_text, line_text, lines_text, decimal_text, head_text, PIECES, REFUSED, pieces_text, refused_text, value}
use Rattle.text.specs.Text.{AT, refused_at_text, AT-LINE, refused_at_line_text}
use Rattle.text.specs.Answers.{Written, refused_with, wrote, left, wrote_pieces, left_pieces, wrote_refusal, left_refusal, Stands}
use Rattle.text.specs.Answers.{wrote_refusal_at, left_refusal_at, wrote_refusal_at_line, left_refusal_at_line}
use Rattle.text.proofs.Lengths as lengths
use Rattle.text.proofs.Digits as digits
use Rattle.text.proofs.Determined as determined
use Rattle.text.proofs.Determined.{Doubles}
use Rattle.text.proofs.Laws as laws

-- ---- "Output: `pieces N`, then a line per piece": N in decimal, with no needless digit
pub pieces-n : (l : List Float) → pieces_text l ≡ (PIECES ++ (decimal_text (length l / 4) ++ (10 ∷ []))) ++ lines_text l
unfolding pieces_text head_text
pieces-n l = refl

pub a-line-per-piece : (a b c d : Float) (l : List Float) → lines_text (a ∷ (b ∷ (c ∷ (d ∷ l)))) ≡ line_text a b c d ++ lines_text l
unfolding lines_text
a-line-per-piece a b c d l = refl

pub count-reads : (n : ℕ) → n < 1000 → value 10 (decimal_text n) ≡ n
count-reads n h = digits.decimal-reads n h

-- ---- "four bit patterns in 16 upper-case hex digits": 16 digits, worth the pattern, each `0` to `9` or `A` to `F`
pub bit-pattern : (x : Float) → fits binary64 x ≡ true → (length (number_text x) ≡ 16) × (value 16 (number_text x) ≡ to_pattern x)
bit-pattern x h = (lengths.length-number x, digits.number-reads x h)

abbrev pub UpperCase : ℕ → Type 0
UpperCase c = ((48 ≤ c) × (c ≤ 57)) ⊎ ((65 ≤ c) × (c ≤ 70))

upper-digit : (d : ℕ) → d < 16 → UpperCase (hex_digit d)
unfolding hex_digit
upper-digit d h = go (ltb d 10) (ltb-true d 10) (ltb-false d 10)
  where
    go : (t : Bool) → (t ≡ true → d < 10) → (t ≡ false → 10 ≤ d) → UpperCase (cond t (48 + d) (55 + d))
    go true f g = let k = f refl in inl (omega arith, omega arith)
    go false f g = let k = g refl in inr (omega arith, omega arith)

upper-hex : (k n : ℕ) → All UpperCase (hex k n)
unfolding hex
upper-hex zero n = tt
upper-hex (suc k) n = (upper-digit (n / 2 ^ (4 * k) % 16) (under (n / 2 ^ (4 * k))), upper-hex k n)
  where
    under : (m : ℕ) → m % 16 < 16
    under m = omega arith

pub upper-case : (x : Float) → All UpperCase (number_text x)
unfolding number_text
upper-case x = upper-hex 16 (to_pattern x)

-- "with single spaces": a space (32) after each of the first three, a newline (10) after the last
pub single-spaces : (a b c d : Float)
    → line_text a b c d ≡ (number_text a ++ (32 ∷ [])) ++ ((number_text b ++ (32 ∷ [])) ++ ((number_text c ++ (32 ∷ [])) ++ (number_text d ++ (10 ∷ []))))
unfolding line_text word_text
single-spaces a b c d = refl

-- ---- "or only `refused N`"; with the entry of a list, counted from zero, `refused N at K`; and for GeoJSON boxes, one a line, `refused N at line L`
pub refused-n : (n : ℕ) → refused_text n ≡ REFUSED ++ (decimal_text n ++ (10 ∷ []))
unfolding refused_text head_text
refused-n n = refl

pub refused-n-at : (n entry : ℕ) → refused_at_text n entry ≡ REFUSED ++ (decimal_text n ++ (AT ++ (decimal_text entry ++ (10 ∷ []))))
unfolding refused_at_text head_text
refused-n-at n entry = refl

pub refused-n-at-line : (n line : ℕ) → refused_at_line_text n line ≡ REFUSED ++ (decimal_text n ++ (AT-LINE ++ (decimal_text line ++ (10 ∷ []))))
unfolding refused_at_line_text head_text
refused-n-at-line n line = refl

-- ---- two lists of pieces with one text are the same, number by number
pub one_list : (l m : List Float) → whole 4 512 l ≡ true → whole 4 512 m ≡ true → Doubles l → Doubles m → pieces_text l ≡ pieces_text m → l ≡ m
one_list l m w z f g e = determined.same-pieces l m w z f g e

-- ---- the numbers, "given exactly when"
-- 5, "an input list's length is not a multiple of the record, or over 512 rectangles"
abbrev text_answer : Bool → ℕ → Written
text_answer f n = cond f (record { refusal = number accepted; count = n }) (refused_with (number no_room))

abbrev pieces_answer : Bool → Bool → ℕ → Written
pieces_answer t f n = cond t (text_answer f n) (refused_with (number bad_list))

pieces-number : (t f : Bool) (n : ℕ) → (pieces_answer t f n).refusal ≡ number bad_list → t ≡ false
pieces-number true true n e = absurd (omega arith)
pieces-number true false n e = absurd (omega arith)
pieces-number false f n e = refl

pub bad-list : (l : List Float) (room : ℕ) → ((wrote_pieces l room).refusal ≡ number bad_list) ↔ ((length l % 4 ≡ 0 → ⊥) ⊎ (4 * 512 < length l))
unfolding wrote_pieces wrote
bad-list l room = (
  (λ h. (not-whole-when 4 512 (length l)).0 (pieces-number (whole 4 512 l) (leb (length (pieces_text l)) room) (length (pieces_text l)) h)),
  (λ h. rw ((not-whole-when 4 512 (length l)).1 h) refl),
)

-- 6, the output is too short for the text
text-number : (f : Bool) (n : ℕ) → (text_answer f n).refusal ≡ number no_room → f ≡ false
text-number true n e = absurd (omega arith)
text-number false n e = refl

pub no-room : (t : List ℕ) (room : ℕ) → ((wrote t room).refusal ≡ number no_room) ↔ (room < length t)
unfolding wrote
no-room t room = (
  (λ h. leb-false (length t) room (text-number (leb (length t) room) (length t) h)),
  (λ h. rw (lt-leb (length t) room h) refl),
)

-- 34,827 bytes are room for every text of pieces, and 12 for every refusal
pub room-for-pieces : (l : List Float) (room : ℕ) → whole 4 512 l ≡ true → 34827 ≤ room → wrote_pieces l room ≡ record { refusal = number accepted; count = length (pieces_text l) }
room-for-pieces l room w h = laws.enough l room w h

pub room-for-refusal : (n room : ℕ) → 12 ≤ room → wrote_refusal n room ≡ record { refusal = number accepted; count = length (refused_text n) }
room-for-refusal n room h = laws.refusal-enough n room h

-- ---- "No refusal alters a lent number": no byte of the output
pub no-byte-altered : (t out : List ℕ) (l : List Float) (n k : ℕ)
    → (((wrote t (length out)).refusal ≡ 0 → ⊥) → left t out ≡ out) × (((wrote_pieces l (length out)).refusal ≡ 0 → ⊥) → left_pieces l out ≡ out)
    × (((wrote_refusal n (length out)).refusal ≡ 0 → ⊥) → left_refusal n out ≡ out) × (((wrote_refusal_at n k (length out)).refusal ≡ 0 → ⊥) → left_refusal_at n k out ≡ out)
    × (((wrote_refusal_at_line n k (length out)).refusal ≡ 0 → ⊥) → left_refusal_at_line n k out ≡ out)
no-byte-altered t out l n k =
    (laws.text-unaltered t out, laws.unaltered l out, laws.refusal-unaltered n out, laws.refusal-at-unaltered n k out, laws.refusal-at-line-unaltered n k out)

-- ---- "a public contract determines the answer and each number left in lent slices": under 0 the bytes that are counted are the text, and every byte after them stays
pub text-stands : (t out : List ℕ) → (wrote t (length out)).refusal ≡ 0 → Stands t (wrote t (length out)) out (left t out)
text-stands t out h = laws.text-stands t out h

pub pieces-stand : (l : List Float) (out : List ℕ) → (wrote_pieces l (length out)).refusal ≡ 0 → Stands (pieces_text l) (wrote_pieces l (length out)) out (left_pieces l out)
pieces-stand l out h = laws.stands l out h

pub refusal-stands : (n : ℕ) (out : List ℕ) → (wrote_refusal n (length out)).refusal ≡ 0 → Stands (refused_text n) (wrote_refusal n (length out)) out (left_refusal n out)
refusal-stands n out h = laws.refusal-stands n out h

pub refusal-at-stands : (n entry : ℕ) (out : List ℕ) → (wrote_refusal_at n entry (length out)).refusal ≡ 0
    → Stands (refused_at_text n entry) (wrote_refusal_at n entry (length out)) out (left_refusal_at n entry out)
refusal-at-stands n entry out h = laws.refusal-at-stands n entry out h

pub refusal-at-line-stands : (n line : ℕ) (out : List ℕ) → (wrote_refusal_at_line n line (length out)).refusal ≡ 0
    → Stands (refused_at_line_text n line) (wrote_refusal_at_line n line (length out)) out (left_refusal_at_line n line out)
refusal-at-line-stands n line out h = laws.refusal-at-line-stands n line out h
