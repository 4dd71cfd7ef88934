-- One record of the stream: the mark 52 31, then lat.lo, lat.hi, lng.lo, lng.hi as little-endian doubles. Read, it is either a rectangle or a refusal:
-- document 01's number and values for the bytes, and for each case of the answer. Definitions only; what they mean is in proofs/Records.antt.
use Rattle.std.specs.Prelude.{◌≡◌, Bool, ◌&&◌, cond, List, [], ◌∷◌, ℕ, ◌+◌, ◌*◌, length, get_or, leb, eqb, Float, Result, Ok, Err}
use Rattle.bits.specs.Pattern.{of_pattern}
use Rattle.consts.specs.declared.refusal.Refusal.{Refusal}
use Rattle.consts.specs.Refusal.{number, accepted, bad_record, code, given}
use Rattle.r1.specs.Line as line
use Rattle.s1.specs.Circle as circle
use Rattle.s2.specs.declared.rect.Rect.{Rect}
use Rattle.s2.specs.Zone.{box}
use Rattle.s2.specs.Reading.{as_read, read_one}

-- the mark
unfoldable pub is_mark : ℕ → ℕ → Bool
is_mark a b = eqb a 0x52 && eqb b 0x31

-- eight bytes as one word, the lowest first
abbrev pub joined : ℕ → ℕ → ℕ → ℕ → ℕ → ℕ → ℕ → ℕ → ℕ
joined a b c d e f g h = a + 256 * (b + 256 * (c + 256 * (d + 256 * (e + 256 * (f + 256 * (g + 256 * h))))))

-- the word at a place, and the double whose pattern it is
unfoldable pub word_at : List ℕ → ℕ → ℕ
word_at s at =
    joined (get_or s at 0) (get_or s (at + 1) 0) (get_or s (at + 2) 0) (get_or s (at + 3) 0) (get_or s (at + 4) 0) (get_or s (at + 5) 0) (get_or s (at + 6) 0)
    (get_or s (at + 7) 0)

unfoldable pub double_at : List ℕ → ℕ → Float
double_at s at = of_pattern (word_at s at)

-- a whole record with a right mark stands at the start of s
unfoldable pub whole_record : List ℕ → Bool
whole_record s = leb 34 (length s) && is_mark (get_or s 0 0) (get_or s 1 0)

-- the rectangle of a record, its numbers as they came
unfoldable pub rect_of : List ℕ → Rect
rect_of s = box (line.ends (double_at s 2) (double_at s 10)) (circle.ends (double_at s 18) (double_at s 26))

-- ---- document 01's number and values for the record at the start of s
-- 7 where it is short or has a wrong mark; else 1, 21, 22, 23 or 0, as every operation reads its rectangle
unfoldable pub number_of : List ℕ → ℕ
number_of s = cond (whole_record s) (read_one (rect_of s)).refusal (number bad_record)

-- under 0 the one rectangle as it is read: negative zero is zero; else none
unfoldable pub values_of : List ℕ → List Rect
values_of s = given (number_of s) (as_read (rect_of s) ∷ []) []

-- and for each case of a record as it is read: a rectangle that can be taken, or why there is none
abbrev pub Record : Type 0
Record = Result Rect Refusal

unfoldable pub record_number : Record → ℕ
record_number (Ok r) = number accepted
record_number (Err w) = code w

unfoldable pub record_values : Record → List Rect
record_values (Ok r) = r ∷ []
record_values (Err w) = []

-- what `read_record` promises of its answer x to the bytes s
pub record IsRecord (s : List ℕ) (x : Record) : Type 0 where
  pub number_is : record_number x ≡ number_of s
  pub values-are : record_values x ≡ values_of s
