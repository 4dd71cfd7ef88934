-- What follows for every list of valid rectangles: the list found is the one and only common region; nothing is listed exactly when there is no common
-- place; every piece carries the common latitude band; n rectangles, n at least 1, have at most n pieces; to reorder or to repeat rectangles changes
-- nothing, in the answer and in the output; and with room for the pieces they are accepted. And for every list: the promise determines the answer and each
-- number left in the output, and a refusal alters none. Assumes nothing.
use mathlib.Core.Path.{◌≡◌, refl, sym, ap, ◌∙◌, subst}
use mathlib.Core.Bool.{Bool, true, false, cond, false≢true}
use mathlib.Core.List.{List, [], ◌∷◌}
use mathlib.Core.Logic.{◌↔◌}
use Prim.Native.Nat.{ℕ, suc, ◌*◌, ◌≤◌}
use native.Mathlib.Omega.{arith}
use borrow.Author.Tests.{ne_eqb}
use lib.ListN.{length}
use lib.Ieee.{Float}
use Rattle.order.proofs.Ranks.{and_l, and_r, and-of}
use Rattle.consts.specs.Refusal.{number, accepted}
use Rattle.r1.specs.declared.interval.Interval.{Interval as Line}
use Rattle.r1.specs.Line as line
use Rattle.s1.specs.declared.interval.Interval.{Interval as Circle}
use Rattle.s2.specs.declared.place.Place.{Place}
use Rattle.s2.specs.declared.rect.Rect.{Rect}
use Rattle.s2.specs.Reading.{One}
use Rattle.s2.specs.Zone.{is_empty}
use Rattle.s2.specs.Places.{IsPlace, Valid, holds}
use Rattle.s2.proofs.Readings.{one_in}
use Rattle.s2.proofs.Places.{own, own-place, own_held}
use Rattle.entries.specs.Lists.{All, Mem, first, later, whole}
use Rattle.lists.specs.Rects.{rects_of, as_read_all}
use Rattle.entries.specs.First.{first_number}
use Rattle.lists.specs.Refused.{of_rect, first_refused}
use Rattle.entries.proofs.FirstLaws.{passed}
use Rattle.arcs.specs.Clipping.{common}
use Rattle.arcs.proofs.Tests.{both_ways}
use Rattle.arcs.proofs.Laws as arcs
use Rattle.region.specs.declared.region.Pieces.{Pieces}
use Rattle.region.specs.CommonRegion.{in_every, in_some, CommonRegion}
use Rattle.region.specs.Region.{band, lngs, across, region}
use Rattle.region.specs.Answers.{pieces_of, refusal_of, answer, left, Promised}
use Rattle.region.proofs.Listed.{same-region, listed-is, arcs-read}
use Rattle.region.proofs.Unique.{some_of, unique}
use Rattle.region.proofs.Cases.{length-across, room-enough, none_of}

-- ---- the list found is the common region, and nothing else is
pub listed-exactly : (rs listed : List Rect) → All Valid rs → CommonRegion rs listed ↔ (listed ≡ region (as_read_all rs))
listed-exactly rs listed v = (
  λ c. unique rs listed (region (as_read_all rs)) c (listed-is rs v),
  λ e. subst (λ (l : List Rect). CommonRegion rs l) (sym e) (listed-is rs v),
)

-- ---- nothing is listed exactly when there is no common place
pub none-listed : (rs listed : List Rect) → CommonRegion rs listed → (listed ≡ []) ↔ ((p : Place) → IsPlace p → in_every rs p ≡ false)
unfolding in_some
none-listed rs listed c = (λ e p q. sym (c.exact p q) ∙ ap (λ (l : List Rect). in_some l p) e, go listed c.exact c.valid c.non-empty)
  where
    go : (l : List Rect) → ((p : Place) → IsPlace p → in_some l p ≡ in_every rs p) → All Valid l → All (λ r. is_empty r ≡ false) l
        → ((p : Place) → IsPlace p → in_every rs p ≡ false) → l ≡ []
    go [] e v n h = refl
    go (r ∷ l) e v n h =
        let q = own-place v.0 n.0 in
        absurd (false≢true (sym (h (own r) q) ∙ sym (e (own r) q) ∙ some_of (own r) (first {l = l}) (own_held v.0 n.0)))

-- ---- every piece carries the common latitude band
carried : (b : Line) (l : List Circle) → All (λ r. r.lat ≡ b) (across b l)
unfolding across
carried b [] = tt
carried b (i ∷ l) = (refl, carried b l)

pub carries-band : (rs : List Rect) → All (λ r. r.lat ≡ band (as_read_all rs)) (region (as_read_all rs))
unfolding region
carries-band rs = go (line.is_empty (band (as_read_all rs)))
  where
    go : (t : Bool) → All (λ r. r.lat ≡ band (as_read_all rs)) (cond t [] (across (band (as_read_all rs)) (common (lngs (as_read_all rs)))))
    go true = tt
    go false = carried (band (as_read_all rs)) (common (lngs (as_read_all rs)))

-- ---- at most n
length-lngs : (rs : List Rect) → length (lngs rs) ≡ length rs
unfolding lngs
length-lngs [] = refl
length-lngs (r ∷ l) = ap suc (length-lngs l)

length-read : (rs : List Rect) → length (as_read_all rs) ≡ length rs
unfolding as_read_all
length-read [] = refl
length-read (r ∷ l) = ap suc (length-read l)

pub at_most : (rs : List Rect) → All Valid rs → 1 ≤ length rs → length (region (as_read_all rs)) ≤ length rs
unfolding region
at_most rs v h = go (line.is_empty (band (as_read_all rs)))
  where
    n : length (lngs (as_read_all rs)) ≡ length rs
    n = length-lngs (as_read_all rs) ∙ length-read rs

    go : (t : Bool) → length (cond t [] (across (band (as_read_all rs)) (common (lngs (as_read_all rs))))) ≤ length rs
    go true = omega arith
    go false =
        omega (arith, length-across (band (as_read_all rs)) (common (lngs (as_read_all rs))), n, arcs.at_most (lngs (as_read_all rs)) (arcs-read rs v) (omega (arith, n)))

-- ---- order and repetition
every-at : {r : Rect} {l : List Rect} (p : Place) → in_every l p ≡ true → Mem r l → holds r p ≡ true
unfolding in_every
every-at p h first = and_l _ _ h
every-at p h (later {y} {l} m) = every-at p (and_r (holds y p) _ h) m

every_of : (l : List Rect) (p : Place) → ((r : Rect) → Mem r l → holds r p ≡ true) → in_every l p ≡ true
unfolding in_every
every_of [] p f = refl
every_of (r ∷ l) p f = and-of (f r first) (every_of l p (λ o m. f o (later m)))

-- each entry of l is one of m
abbrev pub Within : List Rect → List Rect → Type 0
Within l m = (r : Rect) → Mem r l → Mem r m

every-same : (l m : List Rect) → Within l m → Within m l → (p : Place) → in_every l p ≡ in_every m p
every-same l m f h p =
    both_ways _ _ (λ t. every_of m p (λ r n. every-at p t (h r n))) (λ t. every_of l p (λ r n. every-at p t (f r n)))

pub same_entries : (l m : List Rect) → All Valid l → All Valid m → Within l m → Within m l → region (as_read_all l) ≡ region (as_read_all m)
same_entries l m v w f h =
    unique m (region (as_read_all l)) (region (as_read_all m)) (same-region l m (region (as_read_all l)) (λ p q. every-same l m f h p) (listed-is l v)) (listed-is m w)

-- no entry of a list of valid rectangles is refused
none-refused : (rs : List Rect) → All Valid rs → first_refused rs ≡ 0
unfolding first_number
none-refused [] v = refl
none-refused (r ∷ l) v = passed of_rect r l (ap (λ (x : One). x.refusal) (one_in r v.0)) ∙ none-refused l v.1

-- up to 512 valid rectangles, with room for the pieces, are accepted
pub accepts : (l : List Float) (room : ℕ) → whole 4 512 l ≡ true → All Valid (rects_of l) → 4 * length (pieces_of l) ≤ room → refusal_of l room ≡ number accepted
accepts l room w v h = room-enough l room w (none-refused (rects_of l) v) (length (pieces_of l)) refl h

-- lists of numbers that hold the same valid rectangles, in any order and however often, have the same answer and leave the same output
module _ (l m : List Float) (p : whole 4 512 l ≡ true) (q : whole 4 512 m ≡ true) (v : All Valid (rects_of l)) (w : All Valid (rects_of m))
    (f : Within (rects_of l) (rects_of m)) (h : Within (rects_of m) (rects_of l)) where
  same-pieces : pieces_of l ≡ pieces_of m
  unfolding pieces_of
  same-pieces = same_entries (rects_of l) (rects_of m) v w f h

  same-refusal : (room : ℕ) → refusal_of l room ≡ refusal_of m room
  unfolding refusal_of
  same-refusal room = rw (p, q, none-refused (rects_of l) v, none-refused (rects_of m) w, same-pieces) refl

  pub same_answer : (room : ℕ) → answer l room ≡ answer m room
  unfolding answer
  same_answer room = rw (same-refusal room, same-pieces, none_of l p (none-refused (rects_of l) v), none_of m q (none-refused (rects_of m) w)) refl

  pub same_left : (out : List Float) → left l out ≡ left m out
  unfolding left
  same_left out = rw (same-refusal (length out), same-pieces) refl

-- ---- two answers that the promise allows, and the outputs left, coincide
pub determined : (l out : List Float) {r r' : Pieces} {o o' : List Float} → Promised l out r o → Promised l out r' o' → (r ≡ r') × (o ≡ o')
determined l out p q = (p.answers ∙ sym q.answers, p.leaves ∙ sym q.leaves)

-- a refusal alters no number
pub unaltered : (l out : List Float) {r : Pieces} {o : List Float} → Promised l out r o → (r.refusal ≡ 0 → ⊥) → o ≡ out
unfolding answer left
unaltered l out p h =
    p.leaves ∙ simp (ne_eqb (refusal_of l (length out)) 0 (λ e. h (ap (λ (z : Pieces). z.refusal) p.answers ∙ e)))
