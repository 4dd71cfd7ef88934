-- What document 01 promises of the common region, each promise one theorem about what a caller of `common_region` sees: from its contract, `Promised`, for
-- the list l and the output out that are lent, the answer r and the output left, out'. Assumes nothing.
use mathlib.Core.Path.{◌≡◌, refl, sym, ap, ◌∙◌, subst}
use mathlib.Core.Bool.{Bool, true, false, false≢true}
use mathlib.Core.List.{List, [], ◌∷◌}
use mathlib.Core.Logic.{◌⊎◌, ◌↔◌}
use Prim.Native.Nat.{ℕ, ◌*◌, ◌%◌, ◌≤◌, ◌<◌}
use native.Mathlib.Omega.{arith}
use borrow.Author.Tests.{eqb-true, eqb-false}
use lib.ListN.{length, take, drop}
use lib.Dec.{eqb}
use lib.Ieee.{Float}
use Rattle.consts.specs.Refusal.{of_entry}
use Rattle.consts.specs.Reading.{plain}
use Rattle.s2.specs.declared.place.Place.{Place}
use Rattle.s2.specs.declared.rect.Rect.{Rect}
use Rattle.s2.specs.Zone.{FULL}
use Rattle.s2.specs.Reading.{as_read}
use Rattle.s2.specs.Refusals.{RectReason}
use Rattle.s2.proofs.Refusals.{reason-number}
use Rattle.s2.specs.Places.{IsPlace, Valid}
use Rattle.entries.specs.Lists.{All, Mem}
use Rattle.lists.specs.Rects.{rects_of, numbers_of, as_read_all}
use Rattle.region.specs.declared.region.Pieces.{Pieces}
use Rattle.region.specs.CommonRegion.{in_every, CommonRegion}
use Rattle.region.specs.Region.{band}
use Rattle.region.specs.Answers.{pieces_of, refusal_of, Promised}
use Rattle.region.proofs.Cases.{good}
use Rattle.region.proofs.Listed.{listed-is}
use Rattle.region.proofs.Refusals.{Whole, AllSound, FirstIs, exactly-5, exactly-entry, exactly-6, exactly-0, at_entry, no-entry as none_told}
use Rattle.region.proofs.Laws as laws
use Rattle.region.proofs.Listings.{refusal_is, entry-is, counted, front, behind, no_pieces, one-full}

-- ---- demand 3
-- no place lies in every rectangle given
abbrev NoCommonPlace : List Rect → Type 0
NoCommonPlace given = (p : Place) → IsPlace p → in_every given p ≡ false

pub record Demand3 (l out : List Float) (r : Pieces) (out' : List Float) : Type 0 where
  -- the list is accepted, and the pieces counted
  pub accepts : r.refusal ≡ 0
  pub pieces : List Rect
  pub counted : r.count ≡ length pieces
  -- as numbers they are the first of the output; the rest of it is as it was
  pub written : take (4 * r.count) out' ≡ numbers_of pieces
  pub rest : drop (4 * r.count) out' ≡ drop (4 * r.count) out
  -- they are the common region of the rectangles given
  pub region : CommonRegion (rects_of l) pieces
  -- n rectangles, n at least 1, have at most n
  pub at_most : 1 ≤ length (rects_of l) → r.count ≤ length (rects_of l)
  -- there are none exactly when there is no common place
  pub none : (r.count ≡ 0) ↔ NoCommonPlace (rects_of l)

length-nil : {A : Type 0} (l : List A) → length l ≡ 0 → l ≡ []
length-nil [] e = refl
length-nil (x ∷ l) e = absurd (omega arith)

-- for up to 512 valid rectangles, and room for their common region
pub demand-3 : (l out : List Float) (r : Pieces) (out' : List Float) → Promised l out r out' → length l % 4 ≡ 0 → length l ≤ 2048 → All Valid (rects_of l)
    → ((ps : List Rect) → CommonRegion (rects_of l) ps → 4 * length ps ≤ length out) → Demand3 l out r out'
unfolding pieces_of
demand-3 l out r out' p w h v room =
    let c : CommonRegion (rects_of l) (pieces_of l) = listed-is (rects_of l) v in
    let a : r.refusal ≡ 0 = refusal_is p ∙ laws.accepts l (length out) (good l w h) v (room (pieces_of l) c) in
    let n = counted p a in
    let none = laws.none-listed (rects_of l) (pieces_of l) c in
    record {
      accepts = a;
      pieces = pieces_of l;
      counted = n;
      written = front p a;
      rest = behind p a;
      region = c;
      at_most = λ k. omega (arith, n, laws.at_most (rects_of l) v k);
      none = (λ e. none.0 (length-nil (pieces_of l) (sym n ∙ e)), λ e. n ∙ ap length (none.1 e));
    }

-- reordering or repeating entries, still up to 512, changes nothing
pub any_order : (l m out : List Float) (r s : Pieces) (outₗ outₘ : List Float) → Promised l out r outₗ → Promised m out s outₘ
    → length l % 4 ≡ 0 → length l ≤ 2048 → length m % 4 ≡ 0 → length m ≤ 2048 → All Valid (rects_of l) → All Valid (rects_of m)
    → ((x : Rect) → Mem x (rects_of l) → Mem x (rects_of m)) → ((x : Rect) → Mem x (rects_of m) → Mem x (rects_of l)) → (r ≡ s) × (outₗ ≡ outₘ)
any_order l m out r s outₗ outₘ p q lw lh mw mh v w f g = (
  p.answers ∙ laws.same_answer l m (good l lw lh) (good m mw mh) v w f g (length out) ∙ sym q.answers,
  p.leaves ∙ laws.same_left l m (good l lw lh) (good m mw mh) v w f g out ∙ sym q.leaves,
)

-- ---- "The common region"
-- pieces carry the common latitude band
pub carry-band : (l : List Float) → All (λ p. p.lat ≡ band (as_read_all (rects_of l))) (pieces_of l)
unfolding pieces_of
carry-band l = laws.carries-band (rects_of l)

-- an empty list gives the full rectangle, once
pub empty-list : (out : List Float) (r : Pieces) (out' : List Float) → Promised [] out r out' → 4 ≤ length out → (r.refusal ≡ 0) × (r.count ≡ 1) × (take 4 out' ≡ numbers_of (FULL ∷ []))
unfolding rects_of
empty-list out r out' p h =
    let n : length (pieces_of []) ≡ 1 = ap length one-full in
    let a : r.refusal ≡ 0 = refusal_is p ∙ laws.accepts [] (length out) (good [] refl (omega arith)) tt (omega (arith, n)) in
    let c : r.count ≡ 1 = counted p a ∙ n in
    (a, c, ap (λ (k : ℕ). take (4 * k) out') (sym c) ∙ front p a ∙ ap numbers_of one-full)

-- numbers after the last piece stay unchanged, whatever is answered
pub rest-unchanged : (l out : List Float) (r : Pieces) (out' : List Float) → Promised l out r out' → drop (4 * r.count) out' ≡ drop (4 * r.count) out
rest-unchanged l out r out' p = go (eqb r.refusal 0) refl
  where
    go : (t : Bool) → eqb r.refusal 0 ≡ t → drop (4 * r.count) out' ≡ drop (4 * r.count) out
    go true e = behind p (eqb-true r.refusal 0 e)
    go false e = ap (drop (4 * r.count)) (laws.unaltered l out p (eqb-false r.refusal 0 e))

-- ---- "Refusal numbers": each is given exactly when its row says, with no pieces, and alters no number of the output
pub record Given (n : ℕ) (when : Type 0) (out : List Float) (r : Pieces) (out' : List Float) : Type 0 where
  pub exactly-when : (r.refusal ≡ n) ↔ when
  pub none : r.refusal ≡ n → r.count ≡ 0
  pub output : r.refusal ≡ n → out' ≡ out

module _ (l out : List Float) (r : Pieces) (out' : List Float) (p : Promised l out r out') where
  -- a number that the list and the room have for a reason, the answer has for it
  answered : {n : ℕ} {why : Type 0} → (refusal_of l (length out) ≡ n) ↔ why → (r.refusal ≡ n) ↔ why
  answered e = (λ h. e.0 (sym (refusal_is p) ∙ h), λ h. refusal_is p ∙ e.1 h)

  refused-for : {n : ℕ} {why : Type 0} → (n ≡ 0 → ⊥) → (refusal_of l (length out) ≡ n) ↔ why → Given n why out r out'
  refused-for z e = record { exactly-when = answered e; none = λ h. no_pieces p (λ k. z (sym h ∙ k)); output = λ h. laws.unaltered l out p (λ k. z (sym h ∙ k)) }

  -- 5: the list's length is no multiple of 4, or over 2,048
  pub refused-5 : Given 5 ((length l % 4 ≡ 0 → ⊥) ⊎ (2048 < length l)) out r out'
  refused-5 = refused-for (eqb-false 5 0 refl) (exactly-5 l (length out))

  -- 1, 21, 22, 23: the list is whole, and its first entry that is refused is so for this reason
  pub refused-entry : {n : ℕ} {f : Rect → Bool} → RectReason n f → Given n (Whole l × ((k : ℕ) × FirstIs f (rects_of l) k)) out r out'
  refused-entry w = refused-for (λ z. not_entry (subst (λ (j : ℕ). of_entry j ≡ true) z (reason-number w))) (exactly-entry l (length out) w)
    where
      not_entry : of_entry 0 ≡ true → ⊥
      not_entry h = false≢true (unfold of_entry in h)

  -- "For lists, 1 and these also report the entry's number from zero": it is the first that is refused, all before it are good, and the number is its own
  pub the-entry : {n : ℕ} {f : Rect → Bool} → RectReason n f → r.refusal ≡ n → FirstIs f (rects_of l) r.entry
  the-entry {n} {f} w h = subst (FirstIs f (rects_of l)) (sym (entry-is p)) (at_entry l (length out) w (sym (refusal_is p) ∙ h)).1

  -- beside any other number, 0 too, it is 0
  pub no-entry : of_entry r.refusal ≡ false → r.entry ≡ 0
  no-entry h = entry-is p ∙ none_told l (length out) (ap of_entry (sym (refusal_is p)) ∙ h)

  -- 6: the list is whole and all its entries are accepted, and the output has fewer than 4 numbers a piece
  pub refused-6 : Given 6 (Whole l × AllSound (rects_of l) × (length out < 4 * length (pieces_of l))) out r out'
  refused-6 = refused-for (eqb-false 6 0 refl) (exactly-6 l (length out))

  -- 0: else it is accepted
  pub accepted-0 : (r.refusal ≡ 0) ↔ (Whole l × AllSound (rects_of l) × (4 * length (pieces_of l) ≤ length out))
  accepted-0 = answered (exactly-0 l (length out))

-- no refusal alters a lent number
pub no-refusal-alters : (l out : List Float) (r : Pieces) (out' : List Float) → Promised l out r out' → (r.refusal ≡ 0 → ⊥) → out' ≡ out
no-refusal-alters l out r out' p = laws.unaltered l out p

-- ---- "Strength of the contracts": two answers that the contract allows, and the outputs left, coincide
pub determined : (l out : List Float) (r s : Pieces) (o o' : List Float) → Promised l out r o → Promised l out s o' → (r ≡ s) × (o ≡ o')
determined l out r s o o' p q = laws.determined l out p q

-- ---- no negative zero is written
plain-numbers : (ps : List Rect) → All (λ r. as_read r ≡ r) ps → All (λ x. plain x ≡ x) (numbers_of ps)
unfolding numbers_of as_read
plain-numbers [] a = tt
plain-numbers (r ∷ ps) a = (
  ap (λ (z : Rect). z.lat.lo) a.0,
  (ap (λ (z : Rect). z.lat.hi) a.0, (ap (λ (z : Rect). z.lng.lo) a.0, (ap (λ (z : Rect). z.lng.hi) a.0, plain-numbers ps a.1))),
)

pub no-negative-zero : (l out : List Float) (r : Pieces) (out' : List Float) → Promised l out r out' → All (λ x. plain x ≡ x) (take (4 * r.count) out')
no-negative-zero l out r out' p = go (eqb r.refusal 0) refl
  where
    go : (t : Bool) → eqb r.refusal 0 ≡ t → All (λ x. plain x ≡ x) (take (4 * r.count) out')
    go true e =
        let a = eqb-true r.refusal 0 e in
        subst (λ (o : List Float). All (λ x. plain x ≡ x) o) (sym (front p a)) (plain-numbers (pieces_of l) (p.lists a).plain)
    go false e = subst (λ (n : ℕ). All (λ x. plain x ≡ x) (take (4 * n) out')) (sym (no_pieces p (eqb-false r.refusal 0 e))) tt
