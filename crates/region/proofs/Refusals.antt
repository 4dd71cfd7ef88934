-- When a list is refused, by which number and at which entry: each list and room falls under exactly one of four, and its number and entry are told. Assumes
-- nothing.
use mathlib.Core.Path.{◌≡◌, refl, sym, ap, ◌∙◌, subst}
use mathlib.Core.Bool.{Bool, true, false, ◌||◌, false≢true}
use mathlib.Core.List.{List, [], ◌∷◌}
use mathlib.Core.Logic.{◌⊎◌, inl, inr, ◌↔◌}
use Prim.Native.Nat.{ℕ, ◌*◌, ◌%◌, ◌≤◌, ◌<◌}
use native.Mathlib.Omega.{arith}
use borrow.Author.Tests.{eqb-true, eqb-false, ne_eqb, leb-true, leb-false}
use lib.ListN.{length, take, get_or}
use lib.Dec.{eqb, leb}
use lib.Ieee.{Float}
use Rattle.consts.specs.Refusal.{of_entry}
use Rattle.s2.specs.declared.rect.Rect.{Rect}
use Rattle.s2.specs.Zone.{EMPTY}
use Rattle.s2.specs.Refusals.{sound, RectReason}
use Rattle.s2.proofs.Refusals.{accepted-when, number-when, reason-number, never}
use Rattle.entries.specs.Lists.{All, whole}
use Rattle.entries.specs.First.{First, first_number, first_entry, first_of}
use Rattle.entries.proofs.FirstLaws.{Good, IsFirst, none_told, first-told, decided}
use Rattle.lists.specs.Rects.{rects_of}
use Rattle.lists.specs.Refused.{of_rect}
use Rattle.region.specs.Answers.{pieces_of, refusal_of, entry_of}
use Rattle.region.proofs.Cases.{odd, long, good, bad-list, bad-entry, no-room, room-enough, no-list, entry-of}

-- ---- the reasons
-- whole rectangles, at most 512
abbrev pub Whole : List Float → Type 0
Whole l = (length l % 4 ≡ 0) × (length l ≤ 2048)

abbrev pub NotWhole : List Float → Type 0
NotWhole l = (length l % 4 ≡ 0 → ⊥) ⊎ (2048 < length l)

-- no entry is refused
abbrev pub AllSound : List Rect → Type 0
AllSound rs = All (λ r. sound r ≡ true) rs

-- the entry k is refused for the reason f, and none before it is refused
pub record FirstIs (f : Rect → Bool) (rs : List Rect) (k : ℕ) : Type 0 where
  pub there : k < length rs
  pub own : (d : Rect) → f (get_or rs k d) ≡ true
  pub before : AllSound (take k rs)

-- ---- the same by numbers
sound-all : (rs : List Rect) → All (Good of_rect) rs → AllSound rs
sound-all [] a = tt
sound-all (r ∷ l) a = ((accepted-when r).0 a.0, sound-all l a.1)

good-all : (rs : List Rect) → AllSound rs → All (Good of_rect) rs
good-all [] a = tt
good-all (r ∷ l) a = ((accepted-when r).1 a.0, good-all l a.1)

module _ {n : ℕ} {f : Rect → Bool} (w : RectReason n f) where
  -- no other number is one of a rectangle's
  apart : (m : ℕ) → of_entry m ≡ false → m ≡ n → ⊥
  apart m h e = false≢true (sym h ∙ subst (λ (j : ℕ). of_entry j ≡ true) (sym e) (reason-number w))

  is-first : {rs : List Rect} {k : ℕ} → FirstIs f rs k → IsFirst of_rect rs n k
  is-first {rs} {k} i =
      record { there = i.there; own = λ d. (number-when w (get_or rs k d)).1 (i.own d); refuses = λ z. apart 0 (unfold of_entry in refl) (sym z); before = good-all (take k rs) i.before }

  first-is : {rs : List Rect} {k : ℕ} → IsFirst of_rect rs n k → FirstIs f rs k
  first-is {rs} {k} i = record { there = i.there; own = λ d. (number-when w (get_or rs k d)).0 (i.own d); before = sound-all (take k rs) i.before }

-- ---- a list and a room, with the number and the entry that are told
pub data Judged (l : List Float) (room : ℕ) : ℕ → ℕ → Type 0 where
  not-whole : NotWhole l → Judged l room 5 0
  refused-at : Whole l → (n k : ℕ) → IsFirst of_rect (rects_of l) n k → Judged l room n k
  too_short : Whole l → All (Good of_rect) (rects_of l) → room < 4 * length (pieces_of l) → Judged l room 6 0
  taken : Whole l → All (Good of_rect) (rects_of l) → 4 * length (pieces_of l) ≤ room → Judged l room 0 0

module _ (l : List Float) (room : ℕ) where
  abbrev Told : ℕ → ℕ → Type 0
  Told n k = (refusal_of l room ≡ n) × (entry_of l ≡ k)

  is_whole : Whole l → whole 4 512 l ≡ true
  is_whole w = good l w.0 w.1

  number_of : {n k : ℕ} → first_of of_rect (rects_of l) ≡ record { refusal = n; entry = k } → first_number of_rect (rects_of l) ≡ n
  number_of e = ap (λ (f : First). f.refusal) e

  told : (n k : ℕ) → Judged l room n k → Told n k
  told _ _ (not-whole (inl h)) = (bad-list l room (odd l h), no-list l (odd l h))
  told _ _ (not-whole (inr h)) = (bad-list l room (long l h), no-list l (long l h))
  told _ _ (refused-at w n k f) = let e = first-told of_rect (rects_of l) n k f in (bad-entry l room (is_whole w) n (sym (number_of e)) f.refuses, entry-of l (is_whole w) e)
  told _ _ (too_short w a h) = let e = none_told of_rect (rects_of l) a in (no-room l room (is_whole w) (number_of e) (length (pieces_of l)) refl h, entry-of l (is_whole w) e)
  told _ _ (taken w a h) = let e = none_told of_rect (rects_of l) a in (room-enough l room (is_whole w) (number_of e) (length (pieces_of l)) refl h, entry-of l (is_whole w) e)

  -- every list and room is one of the four
  pub judged : Judged l room (refusal_of l room) (entry_of l)
  judged = by_length (eqb (length l % 4) 0) (leb (length l) 2048) refl refl
    where
      as-told : (n k : ℕ) → Judged l room n k → Judged l room (refusal_of l room) (entry_of l)
      as-told n k j = let t = told n k j in rw (t.0, t.1) j

      by-room : Whole l → All (Good of_rect) (rects_of l) → (t : Bool) → leb (4 * length (pieces_of l)) room ≡ t → Judged l room (refusal_of l room) (entry_of l)
      by-room w a true e = as-told 0 0 (taken w a (leb-true (4 * length (pieces_of l)) room e))
      by-room w a false e = as-told 6 0 (too_short w a (leb-false (4 * length (pieces_of l)) room e))

      by_entries : Whole l → All (Good of_rect) (rects_of l) ⊎ IsFirst of_rect (rects_of l) (first_number of_rect (rects_of l)) (first_entry of_rect (rects_of l))
          → Judged l room (refusal_of l room) (entry_of l)
      by_entries w (inl a) = by-room w a (leb (4 * length (pieces_of l)) room) refl
      by_entries w (inr f) = as-told _ _ (refused-at w _ _ f)

      by_length : (s t : Bool) → eqb (length l % 4) 0 ≡ s → leb (length l) 2048 ≡ t → Judged l room (refusal_of l room) (entry_of l)
      by_length false t e d = as-told 5 0 (not-whole (inl (eqb-false (length l % 4) 0 e)))
      by_length true false e d = as-told 5 0 (not-whole (inr (leb-false (length l) 2048 d)))
      by_length true true e d = by_entries (eqb-true (length l % 4) 0 e, leb-true (length l) 2048 d) (decided of_rect (rects_of l))

  -- the number of an entry is one of a rectangle's
  own-entry : {n k : ℕ} → IsFirst of_rect (rects_of l) n k → (m : ℕ) → eqb m 0 || of_entry m ≡ false → n ≡ m → ⊥
  own-entry {n} {k} f m h e = never (get_or (rects_of l) k EMPTY) m h (f.own EMPTY ∙ e)

  -- ---- the laws: each number is given exactly for its reason
  pub exactly-5 : (refusal_of l room ≡ 5) ↔ NotWhole l
  exactly-5 = ((λ e. go _ _ judged e), (λ h. (told 5 0 (not-whole h)).0))
    where
      go : (n k : ℕ) → Judged l room n k → n ≡ 5 → NotWhole l
      go _ _ (not-whole h) e = h
      go _ _ (refused-at w n k f) e = absurd (own-entry f 5 (unfold of_entry in refl) e)
      go _ _ (too_short w a h) e = absurd (omega (arith, e))
      go _ _ (taken w a h) e = absurd (omega (arith, e))

  pub exactly-6 : (refusal_of l room ≡ 6) ↔ (Whole l × AllSound (rects_of l) × (room < 4 * length (pieces_of l)))
  exactly-6 = ((λ e. go _ _ judged e), (λ h. (told 6 0 (too_short h.0 (good-all (rects_of l) h.1) h.2)).0))
    where
      go : (n k : ℕ) → Judged l room n k → n ≡ 6 → Whole l × AllSound (rects_of l) × (room < 4 * length (pieces_of l))
      go _ _ (not-whole h) e = absurd (omega (arith, e))
      go _ _ (refused-at w n k f) e = absurd (own-entry f 6 (unfold of_entry in refl) e)
      go _ _ (too_short w a h) e = (w, sound-all (rects_of l) a, h)
      go _ _ (taken w a h) e = absurd (omega (arith, e))

  pub exactly-0 : (refusal_of l room ≡ 0) ↔ (Whole l × AllSound (rects_of l) × (4 * length (pieces_of l) ≤ room))
  exactly-0 = ((λ e. go _ _ judged e), (λ h. (told 0 0 (taken h.0 (good-all (rects_of l) h.1) h.2)).0))
    where
      go : (n k : ℕ) → Judged l room n k → n ≡ 0 → Whole l × AllSound (rects_of l) × (4 * length (pieces_of l) ≤ room)
      go _ _ (not-whole h) e = absurd (omega (arith, e))
      go _ _ (refused-at w n k f) e = absurd (f.refuses e)
      go _ _ (too_short w a h) e = absurd (omega (arith, e))
      go _ _ (taken w a h) e = (w, sound-all (rects_of l) a, h)

  -- and the entry: of a rectangle's number it is the first that is refused, and of any other it is 0
  module _ {m : ℕ} {f : Rect → Bool} (w : RectReason m f) where
    pub at_entry : refusal_of l room ≡ m → Whole l × FirstIs f (rects_of l) (entry_of l)
    at_entry e = go _ _ judged e
      where
        go : (n k : ℕ) → Judged l room n k → n ≡ m → Whole l × FirstIs f (rects_of l) k
        go _ _ (not-whole h) q = absurd (apart w 5 (unfold of_entry in refl) q)
        go _ _ (refused-at v n k i) q = (v, first-is w (subst (λ (j : ℕ). IsFirst of_rect (rects_of l) j k) q i))
        go _ _ (too_short v a h) q = absurd (apart w 6 (unfold of_entry in refl) q)
        go _ _ (taken v a h) q = absurd (apart w 0 (unfold of_entry in refl) q)

    pub exactly-entry : (refusal_of l room ≡ m) ↔ (Whole l × ((k : ℕ) × FirstIs f (rects_of l) k))
    exactly-entry = ((λ e. let i = at_entry e in (i.0, (entry_of l, i.1))), (λ h. (told m h.1.0 (refused-at h.0 m h.1.0 (is-first w h.1.1))).0))

  pub no-entry : of_entry (refusal_of l room) ≡ false → entry_of l ≡ 0
  no-entry h = go _ _ judged h
    where
      go : (n k : ℕ) → Judged l room n k → of_entry n ≡ false → k ≡ 0
      go _ _ (not-whole q) e = refl
      go _ _ (refused-at w n k f) e = absurd (own-entry f n (rw (ne_eqb n 0 f.refuses, e) refl) refl)
      go _ _ (too_short w a q) e = refl
      go _ _ (taken w a q) e = refl
