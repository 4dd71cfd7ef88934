-- How a bbox array is read: from one position of the text to the next, a byte past the end being 0, which is no part of the grammar. Digits are taken as far
-- as they are allowed, so that one digit too many, or a digit after a leading zero, stands where a mark must. Definitions only; that just the texts of
-- the grammar (the crate bbox_text, specs/Grammar.antt) are accepted, with their meaning, is in proofs/Exactly.antt.
use Rattle.std.specs.Prelude.{Bool, true, false, cond, List, ℕ, zero, suc, ◌+◌, ◌-◌, ◌*◌, ltb, eqb, get_or, length, ℤ, pos}
use Rattle.std.specs.Prelude.{Option, None, Some, Result, Ok, Err}
use Rattle.consts.specs.declared.refusal.Refusal.{Refusal}
use Rattle.consts.specs.Refusal.{number, accepted, bad_text, bad_box, code}
use Rattle.bbox.specs.declared.number.Run.{Run}
use Rattle.bbox.specs.declared.reader.Answer.{Answer}
use Rattle.bounds.specs.declared.bounds.Bounds.{Bounds}
use Rattle.bounds.specs.Bounds.{in_limits, placed}
use Rattle.bbox_text.specs.Grammar.{is_digit, is_space, signed}

-- ---- a number
-- one turn of a run of digits: a digit is taken, and the position moves on; where there is none, a padded run gains a zero
unfoldable pub turn_of : Bool → List ℕ → Run → Run
turn_of pad s r =
    cond (is_digit (get_or s r.next 0)) (record { value = r.value * 10 + (get_or s r.next 0 - 48); next = r.next + 1 })
    (cond pad (record { value = r.value * 10; next = r.next }) r)

unfoldable pub turns_of : ℕ → Bool → List ℕ → Run → Run
turns_of zero pad s r = r
turns_of (suc n) pad s r = turns_of n pad s (turn_of pad s r)

-- the whole degrees: a zero alone, or up to three digits
unfoldable pub whole_of : List ℕ → ℕ → Run
whole_of s at = cond (eqb (get_or s at 0) 48) (turns_of 1 false s (record { value = 0; next = at })) (turns_of 3 false s (record { value = 0; next = at }))

-- what stands at a position: a number and the position after it, or no number
pub data Reading : Type 0 where
  Got : ℤ → ℕ → Reading
  Bad : Reading

abbrev pub reading_of : Option (ℤ × ℕ) → Reading
reading_of None = Bad
reading_of (Some r) = Got r.0 r.1

unfoldable pub got_of : Bool → ℕ → ℕ → Reading
got_of minus size next = Got (signed minus size) next

-- seven more digits after the whole degrees w, zeros for those that are not there
unfoldable pub fraction_of : List ℕ → Run → Run
fraction_of s w = turns_of 7 true s (record { value = w.value; next = w.next + 1 })

-- after the whole degrees: a point with one to seven digits, or nothing
unfoldable pub point_of : List ℕ → Bool → Run → Reading
point_of s minus w =
    cond (eqb (get_or s w.next 0) 46)
    (cond (is_digit (get_or s (w.next + 1) 0)) (got_of minus (fraction_of s w).value (fraction_of s w).next) Bad)
    (got_of minus (w.value * 10000000) w.next)

unfoldable pub magnitude_of : List ℕ → ℕ → Bool → Reading
magnitude_of s at minus = cond (is_digit (get_or s at 0)) (point_of s minus (whole_of s at)) Bad

unfoldable pub number_of : List ℕ → ℕ → Reading
number_of s at = cond (eqb (get_or s at 0) 45) (magnitude_of s (at + 1) true) (magnitude_of s at false)

-- ---- the array
-- the position after at most n spaces
unfoldable pub skip_of : ℕ → List ℕ → ℕ → ℕ
skip_of zero s at = at
skip_of (suc n) s at = cond (is_space (get_or s at 0)) (skip_of n s (at + 1)) at

unfoldable pub spaces_of : List ℕ → ℕ → ℕ
spaces_of s at = skip_of (length s - at) s at

-- a number that was read, then spaces and the mark
unfoldable pub mark_of : List ℕ → ℕ → Reading → Reading
mark_of s mark Bad = Bad
mark_of s mark (Got z n) = cond (eqb (get_or s (spaces_of s n) 0) mark) (Got z (spaces_of s n + 1)) Bad

unfoldable pub element_of : List ℕ → ℕ → ℕ → Reading
element_of s at mark = mark_of s mark (number_of s (spaces_of s at))

-- the four numbers of an array, or a text that is none
pub data Four : Type 0 where
  Numbers : Bounds → Four
  Not : Four

abbrev pub numbers_of : Option Bounds → Four
numbers_of None = Not
numbers_of (Some b) = Numbers b

unfoldable pub then_of : Reading → (ℤ → ℕ → Four) → Four
then_of Bad k = Not
then_of (Got z n) k = k z n

-- spaces, an opening bracket, three numbers with commas, a number with a closing bracket, spaces, the end
unfoldable pub four_of : List ℕ → Four
four_of s =
    cond (eqb (get_or s (spaces_of s 0) 0) 91)
    (then_of (element_of s (spaces_of s 0 + 1) 44) (λ w a.
    then_of (element_of s a 44) (λ t b.
    then_of (element_of s b 44) (λ e c.
    then_of (element_of s c 93) (λ n d.
    cond (ltb (spaces_of s d) (length s)) Not (Numbers (record { west = w; south = t; east = e; north = n })))))))
    Not

-- ---- the answer
-- a refused reading answers four zeros
abbrev pub zeros_under : ℕ → Answer
zeros_under n = record { refusal = n; value = record { west = pos 0; south = pos 0; east = pos 0; north = pos 0 } }

-- what a result stands for
abbrev pub answer_of : Result Bounds Refusal → Answer
answer_of (Ok b) = record { refusal = number accepted; value = b }
answer_of (Err r) = zeros_under (code r)

-- 8 for a text that is none, then 9 for a number out of range or the south above the north
unfoldable pub judged_of : Four → Answer
judged_of Not = zeros_under (number bad_text)
judged_of (Numbers b) = cond (in_limits b) (record { refusal = number accepted; value = placed b }) (zeros_under (number bad_box))

unfoldable pub read_of : List ℕ → Answer
read_of s = judged_of (four_of s)
