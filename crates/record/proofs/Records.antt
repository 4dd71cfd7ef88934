-- What one record means. A short one or a wrong mark is 7; a whole one is refused as every operation refuses its rectangle, or is that rectangle as it is
-- read: valid, and with no negative zero. Number and values leave one record only. By the definitions' own cases. Assumes nothing.
use mathlib.Core.Path.{◌≡◌, refl, sym, ap, ◌∙◌, subst}
use mathlib.Core.Bool.{Bool, true, false, cond}
use mathlib.Core.List.{List, [], ◌∷◌}
use Prim.Native.Nat.{ℕ, zero, suc, ◌≤◌, ◌<◌}
use native.Mathlib.Omega.{arith}
use borrow.Author.Tests.{leb-true, lt-leb, eq-eqb, ne_eqb, eqb-true}
use lib.ListN.{length, get_or}
use lib.Dec.{T, leb, eqb}
use lib.Ieee.{nan, binary64, fits, nan_bits, of_bits}
use lib.Ieee.Bits.{of_bits-fits}
use Rattle.std.specs.Prelude.{Ok, Err, IfOk}
use Rattle.std.specs.Int.{w64, from_le_bytes}
use Rattle.order.proofs.Ranks.{and_l, and_r, and-off}
use Rattle.bits.specs.Pattern.{of_pattern}
use Rattle.consts.specs.declared.refusal.Refusal.{Refusal}
use Rattle.consts.specs.Refusal.{number, accepted, bad_record, refusal_of, first_refusal}
use Rattle.consts.proofs.Codes.{refuses, same_code}
use Rattle.s2.specs.declared.rect.Rect.{Rect}
use Rattle.s2.specs.Places.{Valid}
use Rattle.s2.specs.Reading.{as_read, read_one}
use Rattle.s2.proofs.Readings.{valid-read}
use Rattle.entries.specs.Lists.{All}
use Rattle.lists.specs.Rects.{rects_of, numbers_of, as_read_all}
use Rattle.entries.specs.First.{first_number}
use Rattle.lists.proofs.Doubles.{all_valid}
use Rattle.lists.proofs.RectLists.{read_all}
use Rattle.record.specs.Records.{Record, is_mark, joined, word_at, double_at, whole_record, rect_of, number_of, values_of, record_number, record_values, IsRecord}

-- ---- a whole record
pub whole_long : (s : List ℕ) → whole_record s ≡ true → 34 ≤ length s
unfolding whole_record
whole_long s e = leb-true 34 (length s) (and_l _ _ e)

pub whole-mark : (s : List ℕ) → whole_record s ≡ true → (get_or s 0 0 ≡ 0x52) × (get_or s 1 0 ≡ 0x31)
unfolding whole_record is_mark
whole-mark s e =
    let m = and_r (leb 34 (length s)) _ e in
    (eqb-true (get_or s 0 0) 0x52 (and_l _ _ m), eqb-true (get_or s 1 0) 0x31 (and_r (eqb (get_or s 0 0) 0x52) _ m))

-- its eight bytes are one word, as std joins them
pub joined_is : (a b c d e f g h : ℕ) → from_le_bytes w64 (a ∷ b ∷ c ∷ d ∷ e ∷ f ∷ g ∷ h ∷ []) ≡ joined a b c d e f g h
joined_is a b c d e f g h = omega arith

-- ---- its number
pub short-refused : (s : List ℕ) → length s < 34 → number_of s ≡ number bad_record
unfolding number_of whole_record
short-refused s h = simp (lt-leb 34 (length s) h)

pub mark-refused : (s : List ℕ) → is_mark (get_or s 0 0) (get_or s 1 0) ≡ false → number_of s ≡ number bad_record
unfolding number_of whole_record
mark-refused s h = rw (and-off (leb 34 (length s)) (is_mark (get_or s 0 0) (get_or s 1 0)) h) refl

pub whole-number : (s : List ℕ) → whole_record s ≡ true → number_of s ≡ (read_one (rect_of s)).refusal
unfolding number_of
whole-number s h = simp h

-- and its values: the rectangle as it is read, or none
pub taken-values : (s : List ℕ) → number_of s ≡ number accepted → values_of s ≡ as_read (rect_of s) ∷ []
unfolding values_of
taken-values s h = simp (eq-eqb (number_of s) 0 h)

pub no-values : (s : List ℕ) → (number_of s ≡ number accepted → ⊥) → values_of s ≡ []
unfolding values_of
no-values s h = simp (ne_eqb (number_of s) 0 h)

-- a whole one is what its rectangle is read as
pub is_read : (s : List ℕ) (x : Record) {r : Rect} → whole_record s ≡ true → r ≡ rect_of s
    → refusal_of x ≡ (read_one r).refusal → IfOk x (λ v. v ≡ (read_one r).value) → IsRecord s x
unfolding number_of values_of record_number record_values read_one
is_read s x {r} w e n v = subst (λ (o : Rect). refusal_of x ≡ (read_one o).refusal → IfOk x (λ v. v ≡ (read_one o).value) → IsRecord s x) (sym e) (go x) n v
  where
    go : (x : Record) → refusal_of x ≡ (read_one (rect_of s)).refusal → IfOk x (λ v. v ≡ (read_one (rect_of s)).value) → IsRecord s x
    go (Ok o) n v = record { number_is = n ∙ sym (whole-number s w); values-are = ap (λ (o : Rect). o ∷ []) v ∙ sym (taken-values s (whole-number s w ∙ sym n)) }
    go (Err u) n v = record { number_is = n ∙ sym (whole-number s w); values-are = sym (no-values s (λ z. refuses u (n ∙ sym (whole-number s w) ∙ z))) }

-- ---- one that is taken is whole, and its rectangle valid
pub taken-whole : (s : List ℕ) → number_of s ≡ number accepted → (whole_record s ≡ true) × ((read_one (rect_of s)).refusal ≡ number accepted)
unfolding number_of
taken-whole s h = go (whole_record s) h
  where
    go : (w : Bool) → cond w (read_one (rect_of s)).refusal (number bad_record) ≡ number accepted → (w ≡ true) × ((read_one (rect_of s)).refusal ≡ number accepted)
    go true e = (refl, e)
    go false e = absurd (omega arith)

double-fits : (s : List ℕ) (at : ℕ) → T (fits binary64 (double_at s at))
unfolding double_at of_pattern fits
double-fits s at = go (nan_bits binary64 (word_at s at))
  where
    go : (b : Bool) → T (fits binary64 (cond b nan (of_bits binary64 (word_at s at))))
    go true = tt
    go false = of_bits-fits binary64 (word_at s at)

pub taken-valid : (s : List ℕ) → number_of s ≡ number accepted → Valid (rect_of s)
unfolding rect_of numbers_of rects_of first_number first_refusal
taken-valid s h = (all_valid (numbers_of (rect_of s ∷ [])) doubles (simp (taken-whole s h).1)).0
  where
    doubles : (i : ℕ) → T (fits binary64 (get_or (numbers_of (rect_of s ∷ [])) i nan))
    doubles zero = double-fits s 2
    doubles (suc zero) = double-fits s 10
    doubles (suc (suc zero)) = double-fits s 18
    doubles (suc (suc (suc zero))) = double-fits s 26
    doubles (suc (suc (suc (suc i)))) = unfold fits in tt

-- ---- what is handed out is valid and has no negative zero
pub record Plain (r : Rect) : Type 0 where
  pub is-valid : Valid r
  pub as-read : as_read r ≡ r

plain-values : (s : List ℕ) → All Plain (values_of s)
unfolding values_of as_read_all
plain-values s = go (eqb (number_of s) 0) (eqb-true (number_of s) 0)
  where
    go : (b : Bool) → (b ≡ true → number_of s ≡ 0) → All Plain (cond b (as_read (rect_of s) ∷ []) [])
    go true f = (record { is-valid = valid-read (taken-valid s (f refl)); as-read = (read_all (rect_of s ∷ [])).0 }, tt)
    go false f = tt

pub record-plain : (s : List ℕ) (x : Record) → IsRecord s x → All Plain (record_values x)
record-plain s x i = subst (All Plain) (sym i.values-are) (plain-values s)

-- ---- the case that is answered
pub is-taken : (s : List ℕ) (x : Record) (r : Rect) → IsRecord s x → x ≡ Ok r → (number_of s ≡ number accepted) × (values_of s ≡ r ∷ [])
unfolding record_number record_values
is-taken s x r i e = (sym i.number_is ∙ ap record_number e, sym i.values-are ∙ ap record_values e)

first_of : Rect → List Rect → Rect
first_of r [] = r
first_of r (o ∷ l) = o

pub taken_is : (s : List ℕ) (x : Record) (r : Rect) → IsRecord s x → x ≡ Ok r → as_read (rect_of s) ≡ r
unfolding first_of
taken_is s x r i e = let t = is-taken s x r i e in ap (first_of r) (sym (taken-values s t.0) ∙ t.1)

pub is-refused : (s : List ℕ) (x : Record) (w : Refusal) → IsRecord s x → x ≡ Err w → number_of s ≡ number accepted → ⊥
unfolding record_values
is-refused s x w i e h = clash (as_read (rect_of s)) (sym (taken-values s h) ∙ sym i.values-are ∙ ap record_values e)
  where
    clash : (r : Rect) → r ∷ [] ≡ [] → ⊥
    clash r e = let z : ◌≡◌ {A = ℕ} 1 0 = ap (length {A = Rect}) e in omega arith

-- two records that the contract of `read_record` allows coincide
pub one-record : (s : List ℕ) (x y : Record) → IsRecord s x → IsRecord s y → x ≡ y
unfolding record_number record_values
one-record s x y p q = same x y (p.number_is ∙ sym q.number_is) (p.values-are ∙ sym q.values-are)
  where
    same : (x y : Record) → record_number x ≡ record_number y → record_values x ≡ record_values y → x ≡ y
    same (Ok r) (Ok o) n v = cc
    same (Ok r) (Err w) n v = absurd (let z : ◌≡◌ {A = ℕ} 1 0 = ap (length {A = Rect}) v in omega arith)
    same (Err u) (Ok o) n v = absurd (let z : ◌≡◌ {A = ℕ} 0 1 = ap (length {A = Rect}) v in omega arith)
    same (Err u) (Err w) n v = ap Err (same_code u w n)
