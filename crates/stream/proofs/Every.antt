-- Every string of bytes is a stream: the records of valid rectangles, as their maker writes them, up to the first fault. So the laws of proofs/Laws.antt
-- give the answer to every input, in document 01's words, and to every input one. A record that is taken has no NaN, so that its doubles' patterns are its
-- bytes; the rest is by the definition's own cases. Assumes nothing.
use mathlib.Core.Path.{◌≡◌, refl, sym, ap, ◌∙◌}
use mathlib.Core.Bool.{Bool, true, false, cond, false≢true}
use mathlib.Core.List.{List, [], ◌∷◌, ◌++◌, append_assoc}
use Prim.Native.Nat.{ℕ, zero, suc, ◌+◌, ◌*◌, ◌/◌, ◌%◌, ◌^◌, ◌≤◌, ◌<◌}
use native.Mathlib.Omega.{arith}
use native.Mathlib.Numerals.{add-one}
use borrow.Author.Tests.{eqb-true, eqb-false}
use lib.ListN.{length, take, drop, get_or}
use lib.Seq.{drop-cons}
use lib.Dec.{eqb}
use lib.Ieee.{nan, binary64, nan_bits, of_bits}
use Rattle.order.proofs.Ranks.{and_l, and_r}
use Rattle.bits.specs.Pattern.{of_pattern}
use Rattle.bits.proofs.RoundTrip.{written_read}
use Rattle.consts.specs.Refusal.{number, accepted, bad_list, bad_record}
use Rattle.consts.specs.Reading.{in_reach}
use Rattle.consts.proofs.Readings.{nan-out}
use Rattle.s2.specs.declared.rect.Rect.{Rect}
use Rattle.s2.specs.Places.{Valid}
use Rattle.s2.specs.Reading.{rect_in_reach}
use Rattle.s2.proofs.Readings.{reach_of}
use Rattle.region.proofs.Unique.{unique}
use Rattle.entries.specs.Inputs.{in_turn}
use Rattle.entries.specs.Lists.{All}
use Rattle.lists.specs.Rects.{numbers_of}
use Rattle.text.specs.Text.{pieces_text, refused_text}
use Rattle.record.specs.Records.{word_at, double_at, whole_record, rect_of, number_of}
use Rattle.stream.specs.Bytes.{little_endian, double_bytes, record_bytes, stream_bytes}
use Rattle.stream.specs.Answers.{fault_text, answer_text}
use Rattle.record.proofs.Records.{whole_long, whole-mark, taken-whole, taken-valid}
use Rattle.stream.proofs.Laws.{Answers, common-answer, first-fault, one-too-many, no_record}
use Rattle.stream.proofs.Settled.{settled}

-- ---- bytes
abbrev pub Byte : ℕ → Type 0
Byte b = b < 256

byte_at : (s : List ℕ) → All Byte s → (i : ℕ) → get_or s i 0 < 256
byte_at [] a i = omega arith
byte_at (b ∷ s) a zero = a.0
byte_at (b ∷ s) a (suc i) = byte_at s a.1 i

bytes_left : (n : ℕ) (s : List ℕ) → All Byte s → All Byte (drop n s)
bytes_left zero s a = a
bytes_left (suc n) [] a = tt
bytes_left (suc n) (b ∷ s) a = bytes_left n s a.1

-- a word's lowest byte, and the others
low_byte : (k b w : ℕ) → b < 256 → little_endian (suc k) (b + 256 * w) ≡ b ∷ little_endian k w
unfolding little_endian
low_byte k b w h = rw (low b w h, high b w h) refl
  where
    low : (b w : ℕ) → b < 256 → (b + 256 * w) % 256 ≡ b
    low b w h = omega arith

    high : (b w : ℕ) → b < 256 → (b + 256 * w) / 256 ≡ w
    high b w h = omega arith

last_byte : (b : ℕ) → b < 256 → little_endian 1 b ≡ b ∷ []
unfolding little_endian
last_byte b h = rw (low b h) refl
  where
    low : (b : ℕ) → b < 256 → b % 256 ≡ b
    low b h = omega arith

byte_left : (s : List ℕ) (at n : ℕ) → n ≡ at + 1 → at < length s → drop at s ≡ get_or s at 0 ∷ drop n s
byte_left s at n e h = rw (e, add-one at) (drop-cons s at 0 h)

-- ---- the eight bytes of a double
module _ (s : List ℕ) (a : All Byte s) (at : ℕ) where
  word_bytes : little_endian 8 (word_at s at)
      ≡ get_or s at 0 ∷ (get_or s (at + 1) 0 ∷ (get_or s (at + 2) 0 ∷ (get_or s (at + 3) 0 ∷ (get_or s (at + 4) 0 ∷ (get_or s (at + 5) 0 ∷ (get_or s (at + 6) 0 ∷ (get_or s (at + 7) 0 ∷ [])))))))
  unfolding word_at
  word_bytes =
      rw (
        low_byte 7 (get_or s at 0) _ (byte_at s a at),
        low_byte 6 (get_or s (at + 1) 0) _ (byte_at s a (at + 1)),
        low_byte 5 (get_or s (at + 2) 0) _ (byte_at s a (at + 2)),
        low_byte 4 (get_or s (at + 3) 0) _ (byte_at s a (at + 3)),
        low_byte 3 (get_or s (at + 4) 0) _ (byte_at s a (at + 4)),
        low_byte 2 (get_or s (at + 5) 0) _ (byte_at s a (at + 5)),
        low_byte 1 (get_or s (at + 6) 0) _ (byte_at s a (at + 6)),
        last_byte (get_or s (at + 7) 0) (byte_at s a (at + 7)),
      )
      refl

  word_lt : word_at s at < 2 ^ 64
  unfolding word_at
  word_lt =
      omega (
        arith,
        byte_at s a at,
        byte_at s a (at + 1),
        byte_at s a (at + 2),
        byte_at s a (at + 3),
        byte_at s a (at + 4),
        byte_at s a (at + 5),
        byte_at s a (at + 6),
        byte_at s a (at + 7),
      )

  eight-left : at + 8 ≤ length s → drop at s
      ≡ get_or s at 0 ∷ (get_or s (at + 1) 0 ∷ (get_or s (at + 2) 0 ∷ (get_or s (at + 3) 0 ∷ (get_or s (at + 4) 0 ∷ (get_or s (at + 5) 0 ∷ (get_or s (at + 6) 0 ∷ (get_or s (at + 7) 0 ∷ drop (at + 8) s)))))))
  eight-left h =
      rw (
        byte_left s at (at + 1) refl (omega arith),
        byte_left s (at + 1) (at + 2) (omega arith) (omega arith),
        byte_left s (at + 2) (at + 3) (omega arith) (omega arith),
        byte_left s (at + 3) (at + 4) (omega arith) (omega arith),
        byte_left s (at + 4) (at + 5) (omega arith) (omega arith),
        byte_left s (at + 5) (at + 6) (omega arith) (omega arith),
        byte_left s (at + 6) (at + 7) (omega arith) (omega arith),
        byte_left s (at + 7) (at + 8) (omega arith) (omega arith),
      )
      refl

  -- a double in reach is no NaN, and its pattern is the word that was read
  no_nan : in_reach (double_at s at) ≡ true → nan_bits binary64 (word_at s at) ≡ false
  unfolding double_at of_pattern
  no_nan h = go (nan_bits binary64 (word_at s at)) h
    where
      go : (b : Bool) → in_reach (cond b nan (of_bits binary64 (word_at s at))) ≡ true → b ≡ false
      go true e = absurd (false≢true (sym nan-out ∙ e))
      go false e = refl

  double-left : at + 8 ≤ length s → in_reach (double_at s at) ≡ true → double_bytes (double_at s at) ++ drop (at + 8) s ≡ drop at s
  unfolding double_bytes double_at
  double-left h r = rw (written_read (word_at s at) word_lt (no_nan r), word_bytes) (sym (eight-left h))

-- ---- the bytes of a record that is taken
module _ (s : List ℕ) (a : All Byte s) (h : number_of s ≡ number accepted) where
  long : 34 ≤ length s
  long = whole_long s (taken-whole s h).0

  mark-left : 0x52 ∷ (0x31 ∷ drop 2 s) ≡ s
  mark-left =
      let m = whole-mark s (taken-whole s h).0 in
      sym (byte_left s 0 1 refl (omega (arith, long)) ∙ rw (byte_left s 1 2 refl (omega (arith, long)), m.0, m.1) refl)

  in-reach : (in_reach (double_at s 2) ≡ true) × (in_reach (double_at s 10) ≡ true) × (in_reach (double_at s 18) ≡ true) × (in_reach (double_at s 26) ≡ true)
  unfolding rect_in_reach rect_of
  in-reach = let r = reach_of (taken-valid s h) in (search (and_l, and_r), search (and_l, and_r), search (and_l, and_r), search (and_l, and_r))

  taken-bytes : record_bytes (rect_of s) ++ drop 34 s ≡ s
  unfolding record_bytes rect_of
  taken-bytes =
      simp (
        append_assoc,
        double-left s a 26 (omega (arith, long)) in-reach.3,
        double-left s a 18 (omega (arith, long)) in-reach.2,
        double-left s a 10 (omega (arith, long)) in-reach.1,
        double-left s a 2 (omega (arith, long)) in-reach.0,
      )
      mark-left

-- ---- the records of valid rectangles, up to n of them, and the first fault
pub data IsStream (n : ℕ) (s : List ℕ) : Type 0 where
  -- nothing else
  records : (rs : List Rect) → All Valid rs → length rs ≤ n → s ≡ stream_bytes rs → IsStream n s
  -- after fewer than n a record that is refused, and whatever follows it
  fault : (rs : List Rect) (t : List ℕ) → All Valid rs → length rs < n → 0 < length t → (number_of t ≡ number accepted → ⊥) → s ≡ stream_bytes rs ++ t → IsStream n s
  -- after n something more
  beyond : (rs : List Rect) (t : List ℕ) → All Valid rs → length rs ≡ n → 0 < length t → s ≡ stream_bytes rs ++ t → IsStream n s

put : (n : ℕ) (r : Rect) (s t : List ℕ) → Valid r → record_bytes r ++ t ≡ s → IsStream n t → IsStream (suc n) s
unfolding stream_bytes in_turn
put n r s t w e (records rs v h i) = records (r ∷ rs) (w, v) (omega arith) (sym e ∙ ap (λ (u : List ℕ). record_bytes r ++ u) i)
put n r s t w e (fault rs u v h k f i) =
    fault (r ∷ rs) u (w, v) (omega arith) k f (sym e ∙ ap (λ (u : List ℕ). record_bytes r ++ u) i ∙ sym (append_assoc (record_bytes r) (stream_bytes rs) u))
put n r s t w e (beyond rs u v h k i) =
    beyond (r ∷ rs) u (w, v) (omega arith) k (sym e ∙ ap (λ (u : List ℕ). record_bytes r ++ u) i ∙ sym (append_assoc (record_bytes r) (stream_bytes rs) u))

is-stream : (n : ℕ) (s : List ℕ) → All Byte s → IsStream n s
unfolding stream_bytes in_turn
is-stream zero [] a = records [] tt (omega arith) refl
is-stream zero (b ∷ s) a = beyond [] (b ∷ s) tt refl (omega arith) refl
is-stream (suc n) [] a = records [] tt (omega arith) refl
is-stream (suc n) (b ∷ s) a =
    go (eqb (number_of (b ∷ s)) 0) (eqb-true (number_of (b ∷ s)) 0) (eqb-false (number_of (b ∷ s)) 0) (is-stream n (drop 34 (b ∷ s)) (bytes_left 34 (b ∷ s) a))
  where
    go : (t : Bool) → (t ≡ true → number_of (b ∷ s) ≡ 0) → (t ≡ false → number_of (b ∷ s) ≡ 0 → ⊥) → IsStream n (drop 34 (b ∷ s)) → IsStream (suc n) (b ∷ s)
    go true f g rest = put n (rect_of (b ∷ s)) (b ∷ s) (drop 34 (b ∷ s)) (taken-valid (b ∷ s) (f refl)) (taken-bytes (b ∷ s) a (f refl)) rest
    go false f g rest = fault [] (b ∷ s) tt (omega arith) (omega arith) (g refl) refl

-- every string of bytes is one of the three
pub every-stream : (s : List ℕ) → All Byte s → IsStream 512 s
every-stream s a = is-stream 512 s a

-- ---- the answer to a stream s is the text t
pub data IsAnswer (s t : List ℕ) : Type 0 where
  -- up to 512 records of valid rectangles: their common region
  pieces : (rs : List Rect) → All Valid rs → length rs ≤ 512 → s ≡ stream_bytes rs → Answers rs t → IsAnswer s t
  -- the first fault decides: after fewer than 512 of them the number of the record that follows, a rectangle's with the entry that it is, counted from zero
  first-refused : (rs : List Rect) (u : List ℕ) → All Valid rs → length rs < 512 → 0 < length u → (number_of u ≡ number accepted → ⊥) → s ≡ stream_bytes rs ++ u → t ≡ fault_text (number_of u) (length rs) → IsAnswer s t
  -- a 513th whole record with a right mark gives 5, and what is no record there 7
  too_many : (rs : List Rect) (u : List ℕ) → All Valid rs → length rs ≡ 512 → 0 < length u → whole_record u ≡ true → s ≡ stream_bytes rs ++ u → t ≡ refused_text (number bad_list) → IsAnswer s t
  no_more : (rs : List Rect) (u : List ℕ) → All Valid rs → length rs ≡ 512 → 0 < length u → whole_record u ≡ false → s ≡ stream_bytes rs ++ u → t ≡ refused_text (number bad_record) → IsAnswer s t

answer-of : (s : List ℕ) → IsStream 512 s → IsAnswer s (answer_text s)
answer-of s (records rs v h e) = pieces rs v h e (rw e (common-answer rs v h))
answer-of s (fault rs u v h k f e) = first-refused rs u v h k f e (ap answer_text e ∙ first-fault rs v h u k f)
answer-of s (beyond rs u v h k e) = go (whole_record u) refl
  where
    go : (w : Bool) → whole_record u ≡ w → IsAnswer s (answer_text s)
    go true w = too_many rs u v h k w e (ap answer_text e ∙ one-too-many rs v h u k w)
    go false w = no_more rs u v h k w e (ap answer_text e ∙ no_record rs v h u k w)

-- every string of bytes has its answer
pub every-answer : (s : List ℕ) → All Byte s → IsAnswer s (answer_text s)
every-answer s a = answer-of s (every-stream s a)

-- and its first 17,442 bytes, which is all that the program reads, are enough
pub every-input : (s : List ℕ) → All Byte s → IsAnswer s (answer_text (take 17442 s))
every-input s a = rw (settled s) (every-answer s a)

-- no other text is its answer
pub one_answer : (s t : List ℕ) → IsAnswer s t → t ≡ answer_text s
one_answer s t (pieces rs v h e x) =
    let y = common-answer rs v h in
    x.is-text ∙ ap (λ (l : List Rect). pieces_text (numbers_of l)) (unique rs x.listed y.listed x.is-common y.is-common) ∙ sym y.is-text ∙ ap answer_text (sym e)
one_answer s t (first-refused rs u v h k f e x) = x ∙ sym (first-fault rs v h u k f) ∙ ap answer_text (sym e)
one_answer s t (too_many rs u v h k w e x) = x ∙ sym (one-too-many rs v h u k w) ∙ ap answer_text (sym e)
one_answer s t (no_more rs u v h k w e x) = x ∙ sym (no_record rs v h u k w) ∙ ap answer_text (sym e)
