-- The answer and what is left in the output, by what was found in the list. Assumes nothing.
use mathlib.Core.Path.{◌≡◌, refl, sym, ap, ◌∙◌}
use mathlib.Core.Bool.{Bool, true, false}
use mathlib.Core.List.{List, [], ◌∷◌}
use Prim.Native.Nat.{ℕ, suc, ◌*◌, ◌%◌, ◌≤◌, ◌<◌}
use native.Mathlib.Omega.{arith}
use borrow.Author.Tests.{le-leb, lt-leb, leb-true, leb-false, ne_eqb}
use lib.ListN.{length, get_or}
use lib.Dec.{T, leb}
use lib.Ieee.{Float, nan, binary64, fits}
use Rattle.consts.specs.Refusal.{number, accepted, bad_list, no_room, first_refusal}
use Rattle.r1.specs.declared.interval.Interval.{Interval as Line}
use Rattle.s1.specs.declared.interval.Interval.{Interval}
use Rattle.lists.specs.Rects.{rects_of}
use Rattle.entries.specs.Lists.{whole}
use Rattle.entries.specs.First.{First, first_of}
use Rattle.entries.proofs.FirstLaws.{none_told, none-when}
use Rattle.lists.specs.Refused.{of_rect, first_refused}
use Rattle.entries.proofs.Lengths as lengths
use Rattle.lists.proofs.Doubles.{all_valid}
use Rattle.region.specs.declared.region.Pieces.{Pieces}
use Rattle.region.specs.Region.{across}
use Rattle.region.specs.Answers.{pieces_of, refusal_of, entry_of, answer, left, Promised}
use Rattle.region.specs.Inside.{Listed, IsWritten, IsListed}
use Rattle.region.proofs.Listed.{listed-is}

-- so many pieces under 0; none under the number n at the entry k
abbrev pub pieces : ℕ → Listed
pieces m = record { refusal = 0; count = m }

abbrev pub none : ℕ → ℕ → Pieces
none n k = record { refusal = n; count = 0; entry = k }

-- ---- whole rectangles, at most 512
module _ (l : List Float) where
  pub odd : (length l % 4 ≡ 0 → ⊥) → whole 4 512 l ≡ false
  odd h = lengths.odd 4 512 (length l) h

  pub long : 2048 < length l → whole 4 512 l ≡ false
  long k = lengths.long 4 512 (length l) k

  pub good : length l % 4 ≡ 0 → length l ≤ 2048 → whole 4 512 l ≡ true
  good h k = lengths.good 4 512 (length l) h k

-- ---- the refusal
module _ (l : List Float) (room : ℕ) where
  pub bad-list : whole 4 512 l ≡ false → refusal_of l room ≡ number bad_list
  unfolding refusal_of
  bad-list w = simp w

  module _ (w : whole 4 512 l ≡ true) where
    pub bad-entry : (n : ℕ) → n ≡ first_refused (rects_of l) → (n ≡ 0 → ⊥) → refusal_of l room ≡ n
    unfolding refusal_of first_refusal
    bad-entry n e h = simp (w, sym e, ne_eqb n 0 h)

    module _ (a : first_refused (rects_of l) ≡ 0) where
      pub no-room : (n : ℕ) → length (pieces_of l) ≡ n → room < 4 * n → refusal_of l room ≡ number no_room
      unfolding refusal_of first_refusal
      no-room n e h = simp (w, a, e, lt-leb _ _ h)

      pub room-enough : (n : ℕ) → length (pieces_of l) ≡ n → 4 * n ≤ room → refusal_of l room ≡ number accepted
      unfolding refusal_of first_refusal
      room-enough n e h = simp (w, a, e, le-leb _ _ h)

-- ---- the entry
module _ (l : List Float) where
  pub no-list : whole 4 512 l ≡ false → entry_of l ≡ 0
  unfolding entry_of
  no-list w = simp w

  module _ (w : whole 4 512 l ≡ true) where
    pub entry-of : {x : First} → first_of of_rect (rects_of l) ≡ x → entry_of l ≡ x.entry
    unfolding entry_of
    entry-of e = simp w (ap (λ (f : First). f.entry) e)

    pub none_of : first_refused (rects_of l) ≡ 0 → entry_of l ≡ 0
    none_of a = entry-of (none_told of_rect (rects_of l) ((none-when of_rect (rects_of l)).0 a))

-- ---- the promise
module _ (l out : List Float) where
  pub refused : (n k : ℕ) → refusal_of l (length out) ≡ n → (n ≡ 0 → ⊥) → entry_of l ≡ k → Promised l out (none n k) out
  unfolding answer left
  refused n k e h i =
      let z = ne_eqb n 0 h in
      record { answers = simp (e, z, i); leaves = simp (e, z); lists = λ t. absurd (h t) }

  -- where the pieces that are due were written, or did not fit
  pub listed : ((i : ℕ) → T (fits binary64 (get_or l i nan))) → whole 4 512 l ≡ true → first_refused (rects_of l) ≡ 0 → (r : Listed) (last : List Float) → IsWritten (pieces_of l) out r last
      → IsListed l out r last
  unfolding answer left
  listed d w a r last p = go (leb (4 * length (pieces_of l)) (length out)) refl
    where
      with-entry : Listed → Pieces
      with-entry x = record { refusal = x.refusal; count = x.count; entry = entry_of l }

      go : (t : Bool) → leb (4 * length (pieces_of l)) (length out) ≡ t → IsListed l out r last
      go true h =
          let k = leb-true (4 * length (pieces_of l)) (length out) h in
          let z : refusal_of l (length out) ≡ 0 = room-enough l (length out) w a (length (pieces_of l)) refl k in
          record { answers = ap with-entry (p.fit k).0 ∙ simp z; leaves = (p.fit k).1 ∙ simp z; lists = λ t. unfold pieces_of in (listed-is (rects_of l) (all_valid l d a)) }
      go false h =
          let k = leb-false (4 * length (pieces_of l)) (length out) h in
          let z : refusal_of l (length out) ≡ 6 = no-room l (length out) w a (length (pieces_of l)) refl k in
          record { answers = ap with-entry (p.none k).0 ∙ simp z; leaves = (p.none k).1 ∙ simp z; lists = λ t. absurd (six (sym (ap (λ (x : Listed). x.refusal) (p.none k).0) ∙ t)) }
        where
          six : ◌≡◌ {A = ℕ} 6 0 → ⊥
          six e = omega (arith, e)

-- ---- as many rectangles as pieces
pub length-across : (b : Line) (l : List Interval) → length (across b l) ≡ length l
unfolding across
length-across b [] = refl
length-across b (x ∷ l) = ap suc (length-across b l)
