-- What a stream means: the stream that is written for up to 512 valid rectangles is read as their numbers, so its text is that of their common region;
-- the first record that is refused decides; and after 512 records a whole one is one too many. (That every string of bytes is one of these is proved in
-- proofs/Every.antt.) A word's bytes join to the word; the rest is what holds of every input (lists). Assumes nothing.
use mathlib.Core.Path.{◌≡◌, refl, sym, ap, ◌∙◌}
use mathlib.Core.Bool.{true, false}
use mathlib.Core.List.{List, [], ◌∷◌, ◌++◌}
use Prim.Native.Nat.{ℕ, ◌/◌, ◌%◌, ◌^◌, ◌≤◌, ◌<◌}
use native.Mathlib.Omega.{arith}
use borrow.Author.Tests.{le-leb}
use lib.ListN.{length, drop, length-append}
use lib.Ieee.{Float, binary64, fits}
use Rattle.order.proofs.Ranks.{and-of}
use Rattle.bits.specs.Pattern.{of_pattern, to_pattern}
use Rattle.bits.proofs.RoundTrip.{read-written, pattern_lt}
use Rattle.consts.specs.Refusal.{number, accepted, bad_list, bad_record, of_entry}
use Rattle.s2.specs.declared.rect.Rect.{Rect}
use Rattle.s2.specs.Places.{Valid}
use Rattle.s2.specs.Reading.{as_read}
use Rattle.s2.proofs.Readings.{one_in}
use Rattle.entries.specs.Inputs.{Input}
use Rattle.entries.proofs.Written.{Reads, each, written, then-fault, then-over}
use Rattle.entries.specs.Lists.{All}
use Rattle.lists.specs.Rects.{numbers_of, as_read_all}
use Rattle.lists.proofs.RectLists.{rects-numbers}
use Rattle.region.specs.CommonRegion.{CommonRegion}
use Rattle.region.specs.Region.{region}
use Rattle.region.specs.Answers.{pieces_of}
use Rattle.region.proofs.Listed.{Read, read_all, listed-is}
use Rattle.text.specs.Text.{pieces_text, refused_text}
use Rattle.record.specs.Records.{is_mark, joined, word_at, double_at, whole_record, rect_of, number_of}
use Rattle.stream.specs.Bytes.{little_endian, double_bytes, record_bytes, stream_bytes}
use Rattle.stream.specs.Stream.{Numbers, over_number, RECORDS, to_stream, stream_of}
use Rattle.stream.specs.Answers.{region_text, fault_text, text_of, answer_text}
use Rattle.record.proofs.Records.{whole-number}
use Rattle.stream.proofs.Streams.{over-whole, over-other}
use Rattle.stream.proofs.Answers.{told-alone}

-- ---- a word's bytes
joined_bytes : (w : ℕ) → w < 2 ^ 64 →
    joined (w % 256) (w / 256 % 256) (w / 256 / 256 % 256) (w / 256 / 256 / 256 % 256) (w / 256 / 256 / 256 / 256 % 256) (w / 256 / 256 / 256 / 256 / 256 % 256)
    (w / 256 / 256 / 256 / 256 / 256 / 256 % 256) (w / 256 / 256 / 256 / 256 / 256 / 256 / 256 % 256)
    ≡ w
joined_bytes w h = omega arith

double-read : (x : Float) → fits binary64 x ≡ true → (w : ℕ) → w ≡ to_pattern x → of_pattern w ≡ x
double-read x h w e = ap of_pattern e ∙ read-written x h

-- ---- a record that is written and read again
record-size : (r : Rect) → length (record_bytes r) ≡ 34
unfolding record_bytes double_bytes little_endian
record-size r = refl

module _ (r : Rect) (v : Valid r) (t : List ℕ) where
  pub rect-read : rect_of (record_bytes r ++ t) ≡ r
  unfolding rect_of double_at word_at record_bytes double_bytes little_endian
  rect-read =
      rw (
        double-read r.lat.lo v.lat-reach.lo-place.is-double _ (joined_bytes (to_pattern r.lat.lo) (pattern_lt r.lat.lo v.lat-reach.lo-place.is-double)),
        double-read r.lat.hi v.lat-reach.hi-place.is-double _ (joined_bytes (to_pattern r.lat.hi) (pattern_lt r.lat.hi v.lat-reach.hi-place.is-double)),
        double-read r.lng.lo v.lng-valid.lo-double _ (joined_bytes (to_pattern r.lng.lo) (pattern_lt r.lng.lo v.lng-valid.lo-double)),
        double-read r.lng.hi v.lng-valid.hi-double _ (joined_bytes (to_pattern r.lng.hi) (pattern_lt r.lng.hi v.lng-valid.hi-double)),
      )
      refl

  long-read : 34 ≤ length (record_bytes r ++ t)
  long-read = omega (arith, length-append (record_bytes r) t, record-size r)

  whole-read : whole_record (record_bytes r ++ t) ≡ true
  unfolding whole_record is_mark record_bytes
  whole-read = and-of (le-leb 34 (length (record_bytes r ++ t)) long-read) refl

  rest_read : drop 34 (record_bytes r ++ t) ≡ t
  unfolding record_bytes double_bytes little_endian
  rest_read = refl

  some_bytes : 0 < length (record_bytes r ++ t)
  some_bytes = omega (arith, long-read)

  pub number_read : number_of (record_bytes r ++ t) ≡ number accepted
  number_read = whole-number (record_bytes r ++ t) whole-read ∙ rw (rect-read, one_in r v) refl

  item-read : as_read (rect_of (record_bytes r ++ t)) ≡ as_read r
  item-read = ap as_read rect-read

-- ---- a list of rectangles that is written and read again: the input's own laws (lists, Written.antt)
reads : Reads RECORDS Valid record_bytes as_read
reads = record { some = some_bytes; number_is = number_read; item-is = item-read; rest-is = rest_read }

each_read : (rs : List Rect) → each as_read rs ≡ as_read_all rs
unfolding as_read_all
each_read [] = refl
each_read (r ∷ rs) = ap (λ (l : List Rect). as_read r ∷ l) (each_read rs)

-- the stream of up to 512 valid rectangles means their numbers, as they are read
pub stream-of : (rs : List Rect) → All Valid rs → length rs ≤ 512 → stream_of (stream_bytes rs) ≡ Numbers (numbers_of (as_read_all rs))
unfolding stream_of stream_bytes
stream-of rs v h = ap to_stream (written RECORDS Valid record_bytes as_read reads rs v h) ∙ ap (λ (l : List Rect). Numbers (numbers_of l)) (each_read rs)

-- what has been read stays as it is
read_again : (l : List Rect) → All Read l → as_read_all l ≡ l
unfolding as_read_all
read_again [] a = refl
read_again (r ∷ l) a = rw (a.0, read_again l a.1) refl

-- the text t is that of the common region of rs
pub record Answers (rs : List Rect) (t : List ℕ) : Type 0 where
  pub listed : List Rect
  pub is-common : CommonRegion rs listed
  pub is-text : t ≡ pieces_text (numbers_of listed)

pub common-answer : (rs : List Rect) → All Valid rs → length rs ≤ 512 → Answers rs (answer_text (stream_bytes rs))
unfolding answer_text text_of region_text pieces_of
common-answer rs v h =
    record {
      listed = region (as_read_all rs);
      is-common = listed-is rs v;
      is-text = ap text_of (stream-of rs v h)
          ∙ ap (λ (k : List Rect). pieces_text (numbers_of (region k))) (ap as_read_all (rects-numbers (as_read_all rs)) ∙ read_again (as_read_all rs) (read_all rs));
    }

-- after fewer than 512 valid rectangles the first record that is refused decides, whatever follows it
pub first-fault : (rs : List Rect) → All Valid rs → length rs < 512 → (t : List ℕ) → 0 < length t → (number_of t ≡ number accepted → ⊥) →
    answer_text (stream_bytes rs ++ t) ≡ fault_text (number_of t) (length rs)
unfolding answer_text text_of stream_of stream_bytes
first-fault rs v h t k e = ap (λ (x : Input Rect). text_of (to_stream x)) (then-fault RECORDS Valid record_bytes as_read reads rs v h t k e)

-- after 512 a whole record is one too many, whatever its numbers; anything else is no record
past : (rs : List Rect) → All Valid rs → length rs ≡ 512 → (t : List ℕ) → 0 < length t → answer_text (stream_bytes rs ++ t) ≡ fault_text (over_number t) (length rs)
unfolding answer_text text_of stream_of stream_bytes
past rs v h t k = ap (λ (x : Input Rect). text_of (to_stream x)) (then-over RECORDS Valid record_bytes as_read reads rs v h t k)

pub one-too-many : (rs : List Rect) → All Valid rs → length rs ≡ 512 → (t : List ℕ) → 0 < length t → whole_record t ≡ true →
    answer_text (stream_bytes rs ++ t) ≡ refused_text (number bad_list)
one-too-many rs v h t k w = past rs v h t k ∙ ap (λ (n : ℕ). fault_text n (length rs)) (sym (over-whole t w)) ∙ told-alone 5 (length rs) (unfold of_entry in refl)

pub no_record : (rs : List Rect) → All Valid rs → length rs ≡ 512 → (t : List ℕ) → 0 < length t → whole_record t ≡ false →
    answer_text (stream_bytes rs ++ t) ≡ refused_text (number bad_record)
no_record rs v h t k w = past rs v h t k ∙ ap (λ (n : ℕ). fault_text n (length rs)) (sym (over-other t w)) ∙ told-alone 7 (length rs) (unfold of_entry in refl)
