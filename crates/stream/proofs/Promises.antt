-- What document 01 promises of the program `common` and its stream, in its order and words, each as one theorem with all that it asks in its own signature. Each is a
-- law of the modules beside this one. Assumes nothing.
use mathlib.Core.Path.{◌≡◌, refl, sym, ap, ◌∙◌, subst}
use mathlib.Core.Bool.{Bool, true, false, false≢true}
use mathlib.Core.List.{List, [], ◌∷◌, ◌++◌}
use mathlib.Core.Logic.{◌⊎◌, inl, inr, ◌↔◌}
use Prim.Native.Nat.{ℕ, ◌≤◌, ◌<◌}
use native.Mathlib.Omega.{arith}
use borrow.Author.Tests.{leb-false}
use lib.Dec.{leb}
use lib.ListN.{length, take, get_or}
use lib.Ieee.{Float}
use Rattle.consts.specs.declared.refusal.Refusal.{Refusal}
use Rattle.consts.specs.Refusal.{number, accepted, bad_list, bad_record, of_entry, code}
use Rattle.s2.specs.declared.rect.Rect.{Rect}
use Rattle.s2.specs.Reading.{as_read, read_one}
use Rattle.s2.proofs.Refusals.{never}
use Rattle.s2.specs.Places.{Valid}
use Rattle.s2.specs.Reading.{NoMinusRect}
use Rattle.entries.specs.Lists.{All}
use Rattle.lists.specs.Rects.{numbers_of, as_read_all}
use Rattle.region.specs.Answers.{pieces_of}
use Rattle.region.proofs.Listed.{listed-is}
use Rattle.text.specs.Text.{refused_text, refused_at_text}
use Rattle.record.specs.Records.{Record}
use Rattle.std.specs.Prelude.{Ok, Err}
use Rattle.record.specs.Records.{is_mark, whole_record, rect_of, number_of, record_number, record_values, IsRecord}
use Rattle.stream.specs.Bytes.{record_bytes, stream_bytes}
use Rattle.stream.specs.Stream.{Numbers, stream_of}
use Rattle.stream.specs.Answers.{fault_text, answer_text}
use Rattle.record.proofs.Records as records
use Rattle.record.proofs.Records.{Plain}
use Rattle.stream.proofs.Answers as answers
use Rattle.stream.proofs.Laws as laws
use Rattle.stream.proofs.Laws.{Answers}
use Rattle.stream.proofs.Every as every
use Rattle.stream.proofs.Every.{Byte, IsAnswer}
use Rattle.stream.proofs.Settled as settled

-- ---- "Negative zero coming in is read as zero, and no negative zero is written": neither in a record that is handed out nor in the pieces that go out
no_minus : (r : Rect) → as_read r ≡ r → NoMinusRect r
unfolding as_read
no_minus r e = ((ap (λ (o : Rect). o.lat.lo) e, ap (λ (o : Rect). o.lat.hi) e), (ap (λ (o : Rect). o.lng.lo) e, ap (λ (o : Rect). o.lng.hi) e))

plain-all : (l : List Rect) → All (λ r. as_read r ≡ r) l → All NoMinusRect l
plain-all [] a = tt
plain-all (r ∷ l) a = (no_minus r a.0, plain-all l a.1)

handed_out : (l : List Rect) → All Plain l → All NoMinusRect l
handed_out [] a = tt
handed_out (r ∷ l) a = (no_minus r a.0.as-read, handed_out l a.1)

pub no-negative-zero : (s : List ℕ)
    → ((x : Record) → IsRecord s x → All NoMinusRect (record_values x)) × ((l : List Float) → stream_of s ≡ Numbers l → All NoMinusRect (pieces_of l))
unfolding pieces_of
no-negative-zero s = (
  (λ x i. handed_out (record_values x) (records.record-plain s x i)),
  (λ l e. plain-all (pieces_of l) (listed-is _ (answers.taken s l e).all_valid).plain),
)

-- ---- "Standard input is records of 34 bytes: the mark 52 31, then lat.lo, lat.hi, lng.lo, lng.hi as little-endian doubles"
-- what is written so for a valid rectangle is read as that rectangle, whatever follows it
pub record-reads : (r : Rect) → Valid r → (t : List ℕ) → (number_of (record_bytes r ++ t) ≡ number accepted) × (rect_of (record_bytes r ++ t) ≡ r)
record-reads r v t = (laws.number_read r v t, laws.rect-read r v t)

-- ---- "One record read is either a rectangle or a refusal": a valid rectangle, as it is read, or the number; and no other record is allowed
pub rectangle-or-refusal : (s : List ℕ) (x : Record) → IsRecord s x
    → ((r : Rect) × (x ≡ Ok r) × (number_of s ≡ number accepted) × (as_read (rect_of s) ≡ r) × Valid r) ⊎ ((w : Refusal) × (x ≡ Err w) × (number_of s ≡ code w) × (code w ≡ number accepted → ⊥))
unfolding record_number record_values
rectangle-or-refusal s (Ok r) i =
    let t = records.is-taken s (Ok r) r i refl in
    inl (r, refl, t.0, records.taken_is s (Ok r) r i refl, (records.record-plain s (Ok r) i).0.is-valid)
rectangle-or-refusal s (Err w) i = inr (w, refl, sym i.number_is, (λ e. records.is-refused s (Err w) w i refl (sym i.number_is ∙ e)))

pub one-record : (s : List ℕ) (x y : Record) → IsRecord s x → IsRecord s y → x ≡ y
one-record s x y p q = records.one-record s x y p q

-- ---- 7, "wrong mark or short record", given exactly when
read-number : (r : Rect) → (read_one r).refusal ≡ number bad_record → ⊥
read-number r = never r 7 (unfold of_entry in refl)

pub bad-record : (s : List ℕ) → (number_of s ≡ number bad_record) ↔ ((length s < 34) ⊎ (is_mark (get_or s 0 0) (get_or s 1 0) ≡ false))
unfolding whole_record
bad-record s = ((λ h. there (leb 34 (length s)) (is_mark (get_or s 0 0) (get_or s 1 0)) refl refl h), back)
  where
    there : (a b : Bool) → leb 34 (length s) ≡ a → is_mark (get_or s 0 0) (get_or s 1 0) ≡ b → number_of s ≡ number bad_record → (length s < 34) ⊎ (is_mark (get_or s 0 0) (get_or s 1 0) ≡ false)
    there true true e f h = absurd (read-number (rect_of s) (sym (records.whole-number s (rw (e, f) refl)) ∙ h))
    there true false e f h = inr f
    there false b e f h = inl (leb-false 34 (length s) e)

    back : (length s < 34) ⊎ (is_mark (get_or s 0 0) (get_or s 1 0) ≡ false) → number_of s ≡ number bad_record
    back (inl h) = records.short-refused s h
    back (inr h) = records.mark-refused s h

-- a whole one is refused as every operation refuses its rectangle: 1, 21, 22, 23
pub as-its-rectangle : (s : List ℕ) → whole_record s ≡ true → number_of s ≡ (read_one (rect_of s)).refusal
as-its-rectangle s h = records.whole-number s h

-- ---- "The first fault in the stream decides": after fewer than 512 valid rectangles, whatever follows it
pub first-fault-decides : (rs : List Rect) → All Valid rs → length rs < 512 → (t : List ℕ) → 0 < length t → (number_of t ≡ number accepted → ⊥) →
    answer_text (stream_bytes rs ++ t) ≡ fault_text (number_of t) (length rs)
first-fault-decides rs v h t k e = laws.first-fault rs v h t k e

-- "`common` prints `refused 22 at 17`": the entry's number stands beside 1, 21, 22 and 23, as many records as stand before it; 7 stands alone
pub with-its-entry : (rs : List Rect) → All Valid rs → length rs < 512 → (t : List ℕ) → 0 < length t → of_entry (number_of t) ≡ true →
    answer_text (stream_bytes rs ++ t) ≡ refused_at_text (number_of t) (length rs)
with-its-entry rs v h t k e = laws.first-fault rs v h t k (λ z. none (subst (λ (n : ℕ). of_entry n ≡ true) z e)) ∙ answers.told_at (number_of t) (length rs) e
  where
    none : of_entry 0 ≡ true → ⊥
    none q = false≢true (unfold of_entry in q)

pub without-entry : (rs : List Rect) → All Valid rs → length rs < 512 → (t : List ℕ) → 0 < length t → number_of t ≡ number bad_record →
    answer_text (stream_bytes rs ++ t) ≡ refused_text (number bad_record)
without-entry rs v h t k e =
    laws.first-fault rs v h t k (λ z. seven (sym e ∙ z)) ∙ ap (λ (n : ℕ). fault_text n (length rs)) e ∙ answers.told-alone 7 (length rs) (unfold of_entry in refl)
  where
    seven : ◌≡◌ {A = ℕ} 7 0 → ⊥
    seven q = omega (arith, q)

-- "a 513th whole record with a right mark gives 5", whatever its numbers; what is no record there gives 7
pub one-too-many : (rs : List Rect) → All Valid rs → length rs ≡ 512 → (t : List ℕ) → 0 < length t → whole_record t ≡ true →
    answer_text (stream_bytes rs ++ t) ≡ refused_text (number bad_list)
one-too-many rs v h t k w = laws.one-too-many rs v h t k w

pub no_record : (rs : List Rect) → All Valid rs → length rs ≡ 512 → (t : List ℕ) → 0 < length t → whole_record t ≡ false →
    answer_text (stream_bytes rs ++ t) ≡ refused_text (number bad_record)
no_record rs v h t k w = laws.no_record rs v h t k w

-- ---- "the common region of its rectangles": for up to 512 valid rectangles the stream means their numbers, and the text is that of the one list of demand 3
pub stream-means : (rs : List Rect) → All Valid rs → length rs ≤ 512 → stream_of (stream_bytes rs) ≡ Numbers (numbers_of (as_read_all rs))
stream-means rs v h = laws.stream-of rs v h

pub common-region-text : (rs : List Rect) → All Valid rs → length rs ≤ 512 → Answers rs (answer_text (stream_bytes rs))
common-region-text rs v h = laws.common-answer rs v h

-- ---- "For every input, refused ones as well, a public contract determines the answer": every string of bytes has one of these answers, and no other text is its answer
pub every-input : (s : List ℕ) → All Byte s → IsAnswer s (answer_text s)
every-input s a = every.every-answer s a

pub one_answer : (s t : List ℕ) → IsAnswer s t → t ≡ answer_text s
one_answer s t a = every.one_answer s t a

-- the program reads 513 records, 17,442 bytes: they settle the answer to all of the input, however long
pub settled-early : (s : List ℕ) → answer_text (take 17442 s) ≡ answer_text s
settled-early s = settled.settled s
