-- A turn of the loop that reads the list, on plain lists: the numbers of a rectangle, its refusal and its latitudes, and its arc, which is of either kind.
-- The loop's invariant goes forward over `drop`: what was read so far and what the rest comes to is the whole. Assumes nothing.
use mathlib.Core.Path.{◌≡◌, sym, ap, ◌∙◌}
use mathlib.Core.Bool.{Bool, true, false, cond}
use mathlib.Core.List.{List, [], ◌∷◌, ◌++◌, append_assoc, append-nil}
use Prim.Native.Nat.{ℕ, ◌+◌, ◌<◌}
use native.Mathlib.Numerals.{add-one}
use borrow.Author.Tests.{eq-eqb, ne_eqb}
use lib.ListN.{length, drop, take, set}
use lib.Seq.{take-suc-set}
use lib.Dec.{eqb}
use lib.Ieee.{Float, le}
use Rattle.consts.specs.Refusal.{first_refusal}
use Rattle.r1.specs.declared.interval.Interval.{Interval as Line}
use Rattle.r1.specs.Line as line
use Rattle.s1.specs.declared.interval.Interval.{Interval}
use Rattle.s2.specs.declared.rect.Rect.{Rect}
use Rattle.s2.specs.Reading.{read_one}
use Rattle.lists.specs.Rects.{rects_of, rect_at, as_read_all}
use Rattle.lists.proofs.RectLists.{four, none_left}
use Rattle.entries.specs.First.{first_number}
use Rattle.lists.specs.Refused.{first_refused}
use Rattle.arcs.specs.Kinds.{rises, narrowed, risen, crossing}
use Rattle.region.specs.Region.{band_from, lngs}

-- the rectangle that starts at i, and those from j on
next-rect : (l : List Float) (i j : ℕ) → i + 3 < length l → j ≡ i + 4 → rects_of (drop i l) ≡ rect_at l i ∷ rects_of (drop j l)
next-rect l i j h e = rw e (four l i h)

module _ (l : List Float) (i j : ℕ) (h : i + 3 < length l) (p : j ≡ i + 4) where
  abbrev rest : List Rect
  rest = rects_of (drop j l)

  pub band-turn : (b new : Line) → new ≡ line.intersection b (read_one (rect_at l i)).value.lat → band_from new (as_read_all (rects_of (drop j l))) ≡ band_from b (as_read_all (rects_of (drop i l)))
  unfolding band_from as_read_all read_one
  band-turn b new e =
      ap (λ (m : Line). band_from m (as_read_all rest)) e ∙ ap (λ (r : List Rect). band_from b (as_read_all r)) (sym (next-rect l i j h p))

  pub refused-here : (n : ℕ) → n ≡ (read_one (rect_at l i)).refusal → (n ≡ 0 → ⊥) → first_refused (rects_of (drop i l)) ≡ n
  unfolding first_number first_refusal
  refused-here n e k =
      ap (λ (r : List Rect). first_refused r) (next-rect l i j h p)
      ∙ ap (λ (m : ℕ). cond (eqb m 0) (first_refused rest) m) (sym e) ∙ ap (λ (t : Bool). cond t (first_refused rest) n) (ne_eqb n 0 k)

  pub accepted-here : (n : ℕ) → n ≡ (read_one (rect_at l i)).refusal → n ≡ 0 → first_refused (rects_of (drop i l)) ≡ first_refused (rects_of (drop j l))
  unfolding first_number first_refusal
  accepted-here n e k =
      ap (λ (r : List Rect). first_refused r) (next-rect l i j h p)
      ∙ ap (λ (m : ℕ). cond (eqb m 0) (first_refused rest) m) (sym e) ∙ ap (λ (t : Bool). cond t (first_refused rest) n) (eq-eqb n 0 k)

-- none are left
pub band-end : (l : List Float) (b : Line) → b ≡ band_from b (as_read_all (rects_of (drop (length l) l)))
unfolding band_from as_read_all
band-end l b = ap (λ (r : List Rect). band_from b (as_read_all r)) (sym (none_left l))

pub accepted-end : (l : List Float) → first_refused (rects_of (drop (length l) l)) ≡ 0
unfolding first_number
accepted-end l = ap (λ (r : List Rect). first_refused r) (none_left l)

-- ---- the arcs taken up
-- those of the numbers from i on
abbrev pub arcs_from : List Float → ℕ → List Interval
arcs_from l i = lngs (as_read_all (rects_of (drop i l)))

module _ (l : List Float) (i j : ℕ) (h : i + 3 < length l) (p : j ≡ i + 4) (a : Interval) (e : a ≡ (read_one (rect_at l i)).value.lng) where
  first-arc : arcs_from l i ≡ a ∷ arcs_from l j
  unfolding lngs as_read_all read_one
  first-arc = ap (λ (r : List Rect). lngs (as_read_all r)) (next-rect l i j h p) ∙ ap (λ (x : Interval). x ∷ arcs_from l j) (sym e)

  -- one that rises is met with those so far
  module _ (t : le a.lo a.hi ≡ true) where
    pub risen-turn : (x new : Interval) → new ≡ narrowed x a → risen new (arcs_from l j) ≡ risen x (arcs_from l i)
    unfolding rises risen
    risen-turn x new n =
        ap (λ (z : Interval). risen z (arcs_from l j)) (n ∙ ap (λ (b : Bool). cond b (narrowed x a) x) (sym t)) ∙ ap (risen x) (sym first-arc)

    pub taken-past : (so_far : List Interval) → so_far ++ crossing (arcs_from l j) ≡ so_far ++ crossing (arcs_from l i)
    unfolding rises crossing
    taken-past so_far =
        ap (λ (b : Bool). so_far ++ cond b (crossing (arcs_from l j)) (a ∷ crossing (arcs_from l j))) (sym t)
        ∙ ap (λ (z : List Interval). so_far ++ crossing z) (sym first-arc)

  -- one that crosses the seam is put after those so far
  module _ (f : le a.lo a.hi ≡ false) where
    pub risen-past : (x : Interval) → risen x (arcs_from l j) ≡ risen x (arcs_from l i)
    unfolding rises risen
    risen-past x = ap (λ (b : Bool). risen (cond b (narrowed x a) x) (arcs_from l j)) (sym f) ∙ ap (risen x) (sym first-arc)

    pub taken-turn : (d : List Interval) (k : ℕ) → k < length d → take (k + 1) (set d k a) ++ crossing (arcs_from l j) ≡ take k d ++ crossing (arcs_from l i)
    unfolding rises crossing
    taken-turn d k b =
        ap (λ (z : List Interval). z ++ crossing (arcs_from l j)) (ap (λ (n : ℕ). take n (set d k a)) (add-one k) ∙ take-suc-set d k a b)
        ∙ append_assoc (take k d) (a ∷ []) (crossing (arcs_from l j))
        ∙ ap (λ (b : Bool). take k d ++ cond b (crossing (arcs_from l j)) (a ∷ crossing (arcs_from l j))) (sym f)
        ∙ ap (λ (z : List Interval). take k d ++ crossing z) (sym first-arc)

-- none are left
pub risen-end : (l : List Float) (x : Interval) → x ≡ risen x (arcs_from l (length l))
unfolding lngs as_read_all risen
risen-end l x = ap (λ (r : List Rect). risen x (lngs (as_read_all r))) (sym (none_left l))

pub taken-end : (l : List Float) (so_far : List Interval) → so_far ≡ so_far ++ crossing (arcs_from l (length l))
unfolding lngs as_read_all crossing
taken-end l so_far = sym (ap (λ (r : List Rect). so_far ++ crossing (lngs (as_read_all r))) (none_left l) ∙ append-nil so_far)
