-- 513 records settle every answer: no byte after the 17,442nd changes the text that goes out. Each record is read from its own 34 bytes, and of what
-- follows 512 of them only a whole record's length and mark are looked at. Assumes nothing.
use mathlib.Core.Path.{◌≡◌, refl, sym, ap, ◌∙◌}
use mathlib.Core.Bool.{Bool, true, false}
use mathlib.Core.List.{List, [], ◌∷◌}
use Prim.Native.Nat.{ℕ, zero, suc, ◌+◌, ◌*◌, ◌≤◌, ◌<◌}
use native.Mathlib.Nat.{not-suc-le-zero, zero-add, suc-add}
use native.Mathlib.Omega.{arith}
use borrow.Author.Tests.{le-leb, lt-leb, leb-true, leb-false}
use lib.ListN.{length, take, drop, get_or, length-take}
use lib.Seq.{take-nil, get_or-take}
use lib.Dec.{leb}
use Rattle.consts.specs.Refusal.{given}
use Rattle.s2.specs.declared.rect.Rect.{Rect}
use Rattle.s2.specs.Reading.{as_read}
use Rattle.entries.specs.Inputs.{Input, Fault, after, read_from, input_of}
use Rattle.record.specs.Records.{word_at, double_at, whole_record, rect_of, number_of}
use Rattle.stream.specs.Stream.{over_number, RECORDS, to_stream, stream_of}
use Rattle.stream.specs.Answers.{text_of, answer_text}

-- ---- one record is read from its own bytes
module _ (m : ℕ) (h : 34 ≤ m) (s : List ℕ) where
  long_same : leb 34 (length (take m s)) ≡ leb 34 (length s)
  long_same = go (leb 34 (length s)) (leb-true 34 (length s)) (leb-false 34 (length s))
    where
      go : (b : Bool) → (b ≡ true → 34 ≤ length s) → (b ≡ false → length s < 34) → leb 34 (length (take m s)) ≡ b
      go true f g = let k = f refl in le-leb 34 (length (take m s)) (omega (arith, length-take m s))
      go false f g = let k = g refl in lt-leb 34 (length (take m s)) (omega (arith, length-take m s))

  at_same : (i : ℕ) → i < 34 → get_or (take m s) i 0 ≡ get_or s i 0
  at_same i k = get_or-take m s i 0 (omega arith)

  pub whole_same : whole_record (take m s) ≡ whole_record s
  unfolding whole_record
  whole_same = rw (long_same, at_same 0 (omega arith), at_same 1 (omega arith)) refl

  double-same : (at : ℕ) → at + 8 ≤ 34 → double_at (take m s) at ≡ double_at s at
  unfolding double_at word_at
  double-same at k =
      rw (
        at_same at (omega arith),
        at_same (at + 1) (omega arith),
        at_same (at + 2) (omega arith),
        at_same (at + 3) (omega arith),
        at_same (at + 4) (omega arith),
        at_same (at + 5) (omega arith),
        at_same (at + 6) (omega arith),
        at_same (at + 7) (omega arith),
      )
      refl

  rect-same : rect_of (take m s) ≡ rect_of s
  unfolding rect_of
  rect-same = rw (double-same 2 (omega arith), double-same 10 (omega arith), double-same 18 (omega arith), double-same 26 (omega arith)) refl

  pub number_same : number_of (take m s) ≡ number_of s
  unfolding number_of
  number_same = rw (whole_same, rect-same) refl

-- ---- and so is a stream
drop-take : (i n : ℕ) (s : List ℕ) → drop i (take (i + n) s) ≡ take n (drop i s)
drop-take zero n s = ap (λ (k : ℕ). take k s) (zero-add n)
drop-take (suc i) n [] = ap (drop (suc i)) (take-nil (suc i + n)) ∙ sym (take-nil n)
drop-take (suc i) n (b ∷ s) = ap (λ (k : ℕ). drop (suc i) (take k (b ∷ s))) (suc-add i n) ∙ drop-take i n s

over-same : (s : List ℕ) → over_number (take 34 s) ≡ over_number s
unfolding over_number
over-same s = rw (whole_same 34 (omega arith) s) refl

one_more : (n k : ℕ) (s : List ℕ) → 0 < length s
    → read_from RECORDS (suc n) k s ≡ given (number_of s) (after (as_read (rect_of s)) (read_from RECORDS n (suc k) (drop 34 s))) (Fault (number_of s) k)
unfolding read_from
one_more n k [] h = absurd (not-suc-le-zero h)
one_more n k (b ∷ s) h = refl

-- one record more, and m bytes after it
turn-same : (n k m : ℕ) (s : List ℕ) → 0 < length s → read_from RECORDS n (suc k) (take m (drop 34 s)) ≡ read_from RECORDS n (suc k) (drop 34 s)
    → read_from RECORDS (suc n) k (take (34 + m) s) ≡ read_from RECORDS (suc n) k s
turn-same n k m s h e =
    one_more n k (take (34 + m) s) (omega (arith, length-take (34 + m) s))
    ∙ rw (number_same (34 + m) (omega arith) s, rect-same (34 + m) (omega arith) s, drop-take 34 m s, e) refl
    ∙ sym (one_more n k s h)

read_same : (n k : ℕ) (s : List ℕ) → read_from RECORDS n k (take (34 * n + 34) s) ≡ read_from RECORDS n k s
unfolding read_from
read_same zero k [] = refl
read_same zero k (b ∷ s) = ap (λ (m : ℕ). Fault m k) (over-same (b ∷ s))
read_same (suc n) k [] = ap (read_from RECORDS (suc n) k) (take-nil (34 * suc n + 34))
read_same (suc n) k (b ∷ s) =
    ap (λ (m : ℕ). read_from RECORDS (suc n) k (take m (b ∷ s))) (more n)
    ∙ turn-same n k (34 * n + 34) (b ∷ s) (omega arith) (read_same n (suc k) (drop 34 (b ∷ s)))
  where
    more : (n : ℕ) → 34 * suc n + 34 ≡ 34 + (34 * n + 34)
    more n = omega arith

-- the theorem: the first 513 records have the answer
pub settled : (s : List ℕ) → answer_text (take 17442 s) ≡ answer_text s
unfolding answer_text stream_of input_of
settled s = ap (λ (x : Input Rect). text_of (to_stream x)) (read_same 512 0 s)
