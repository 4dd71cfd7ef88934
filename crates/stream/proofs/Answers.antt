-- What a stream without a fault hands to `common_region` is accepted, and its pieces fit: so the text is that of the common region. Each law is by the
-- definition's own cases. Assumes nothing.
use mathlib.Core.Path.{◌≡◌, refl, sym, ap, ◌∙◌, subst}
use mathlib.Core.Bool.{true, false}
use mathlib.Core.List.{List}
use Prim.Native.Nat.{ℕ, zero, suc, ◌*◌, ◌%◌, ◌≤◌, ◌<◌}
use native.Mathlib.Omega.{arith}
use borrow.Author.Tests.{lt-ltb, le-leb, eq-eqb, ne_eqb}
use lib.Dec.{ltb}
use lib.ListN.{length, take, drop}
use lib.Ieee.{Float}
use Rattle.order.proofs.Ranks.{and-of}
use Rattle.std.specs.Prelude.{Result, Ok, Err, IsOk}
use Rattle.std.proofs.Common.{rules}
use Rattle.consts.specs.Refusal.{of_entry}
use Rattle.consts.proofs.Codes.{refuses}
use Rattle.entries.specs.declared.records.Fault.{Fault as RecordFault}
use Rattle.s2.specs.declared.rect.Rect.{Rect}
use Rattle.s2.specs.Places.{Valid}
use Rattle.s2.proofs.Readings.{valid-read}
use Rattle.entries.specs.Lists.{whole, All, whole_length}
use Rattle.entries.specs.Inputs as inputs
use Rattle.entries.specs.Inputs.{Input, input_of}
use Rattle.entries.proofs.Inputs as reading
use Rattle.entries.proofs.Lengths.{good}
use Rattle.lists.specs.Rects.{numbers_of}
use Rattle.lists.proofs.RectLists.{length-numbers, rects-numbers}
use Rattle.region.specs.declared.region.Pieces.{Pieces}
use Rattle.region.specs.Answers.{pieces_of, told_pieces, Promised}
use Rattle.region.proofs.Listings.{IsListed, listing as region-listing, listed_under}
use Rattle.text.specs.Answers as text
use Rattle.text.specs.Text.{refused_text, refused_at_text}
use Rattle.stream.specs.Inside.{Gathered}
use Rattle.stream.specs.Stream.{Stream, Numbers, Fault, RECORDS, to_stream, stream_of}
use Rattle.stream.specs.Answers.{region_text, fault_text, text_of, answer_text}
use Rattle.stream.specs.Inside.{IsGathered, Taken}
use Rattle.record.proofs.Records.{taken-valid}

-- ---- a stream without a fault: at most 512 rectangles, each valid
valid-items : (n : ℕ) (s : List ℕ) → ((i : ℕ) → i < n → reading.ReadAt RECORDS s i) → All Valid (reading.items_at RECORDS n s)
valid-items zero s h = tt
valid-items (suc n) s h = (valid-read (taken-valid s (h 0 (omega arith)).1), valid-items n (drop 34 s) (λ i p. h (suc i) (omega (arith, p))))

abbrev Sound : Stream → Type 0
Sound (Numbers l) = Taken l
Sound (Fault n k) = Unit

sound : (s : List ℕ) (x : Input Rect) → input_of RECORDS s ≡ x → Sound (to_stream x)
unfolding whole_length
sound s (inputs.Items rs) e =
    let a = reading.all-items RECORDS s rs e in
    let n = length-numbers rs in
    record {
      is_whole = and-of (eq-eqb (length (numbers_of rs) % 4) 0 (omega (arith, n))) (le-leb (length (numbers_of rs)) 2048 (omega (arith, n, a.few)));
      all_valid = subst (All Valid) (sym a.are ∙ sym (rects-numbers rs)) (valid-items (length rs) s a.read);
    }
sound s (inputs.Fault n k) e = tt

pub taken : (s : List ℕ) (l : List Float) → stream_of s ≡ Numbers l → Taken l
unfolding stream_of
taken s l e = subst Sound e (sound s (input_of RECORDS s) refl)

-- ---- what `common_region` leaves for it
pub listing : (l out : List Float) (r : Pieces) (o : List Float) → Taken l → length out ≡ 2048 → Promised l out r o → IsListed l r.count o
listing l out r o t e p = region-listing l out r o t.is_whole t.all_valid e p

-- it is accepted
pub accepted-list : (l out : List Float) (x : Result ℕ RecordFault) (o : List Float) → Taken l → length out ≡ 2048 → Promised l out (told_pieces x) o → IsOk x
accepted-list l out (Ok n) o t e p = search rules
accepted-list l out (Err f) o t e p = absurd (refuses f.refusal (listed_under l out (told_pieces (Err f)) o t.is_whole t.all_valid e p))

-- ---- and how it is written
module _ (l : List Float) (n : ℕ) (o : List Float) (i : IsListed l n o) where
  long : length (numbers_of (pieces_of l)) ≡ 4 * n
  long = omega (arith, length-numbers (pieces_of l), i.count)

  whole-pieces : whole 4 512 (take (4 * n) o) ≡ true
  whole-pieces = rw i.is (good 4 512 (length (numbers_of (pieces_of l))) (omega (arith, long)) (omega (arith, long, i.few)))

  pub wrote-listed : (room : ℕ) → text.wrote_pieces (take (4 * n) o) room ≡ text.wrote (region_text l) room
  unfolding text.wrote_pieces region_text
  wrote-listed room = rw (whole-pieces, i.is) refl

  pub left-listed : (out : List ℕ) → text.left_pieces (take (4 * n) o) out ≡ text.left (region_text l) out
  unfolding text.left_pieces region_text
  left-listed out = rw (whole-pieces, i.is) refl

-- ---- what was gathered, and its text
pub numbers-are : (s : List ℕ) (g : Gathered) (l : List Float) → IsGathered s g l → g.refusal ≡ 0 → stream_of s ≡ Numbers (take (4 * g.count) l)
numbers-are s g l i e = i.is ∙ simp (eq-eqb g.refusal 0 e)

pub fault-is : (s : List ℕ) (g : Gathered) (l : List Float) → IsGathered s g l → (g.refusal ≡ 0 → ⊥) → stream_of s ≡ Fault g.refusal g.count
fault-is s g l i h = i.is ∙ simp (ne_eqb g.refusal 0 h)

pub text-listed : (s : List ℕ) (l : List Float) → stream_of s ≡ Numbers l → region_text l ≡ answer_text s
unfolding answer_text text_of
text-listed s l e = sym (ap text_of e)

pub text-refused : (s : List ℕ) (n k : ℕ) → stream_of s ≡ Fault n k → fault_text n k ≡ answer_text s
unfolding answer_text text_of
text-refused s n k e = sym (ap text_of e)

-- a rectangle's number stands with its entry, and any other by itself
pub told_at : (n k : ℕ) → of_entry n ≡ true → fault_text n k ≡ refused_at_text n k
unfolding fault_text
told_at n k h = simp h

pub told-alone : (n k : ℕ) → of_entry n ≡ false → fault_text n k ≡ refused_text n
unfolding fault_text
told-alone n k h = simp h

-- and so it is written, where it is one of the records that are taken or the one after them
module _ (n k : ℕ) (h : k ≤ 512) (e : of_entry n ≡ true) where
  few : ltb k 1000 ≡ true
  few = lt-ltb k 1000 (omega arith)

  pub wrote-at : (room : ℕ) → text.wrote_refusal_at n k room ≡ text.wrote (fault_text n k) room
  unfolding text.wrote_refusal_at
  wrote-at room = rw (few, told_at n k e) refl

  pub left_at : (out : List ℕ) → text.left_refusal_at n k out ≡ text.left (fault_text n k) out
  unfolding text.left_refusal_at
  left_at out = rw (few, told_at n k e) refl

module _ (n k : ℕ) (e : of_entry n ≡ false) where
  pub wrote-alone : (room : ℕ) → text.wrote_refusal n room ≡ text.wrote (fault_text n k) room
  unfolding text.wrote_refusal
  wrote-alone room = rw (told-alone n k e) refl

  pub left_alone : (out : List ℕ) → text.left_refusal n out ≡ text.left (fault_text n k) out
  unfolding text.left_refusal
  left_alone out = rw (told-alone n k e) refl
