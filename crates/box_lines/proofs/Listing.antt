-- What `common_region` finds for the boxes of a list that holds them: the list in radians is accepted, so the pieces stand in the output as numbers, at most 512
-- of them, and their lines are the text that is due. Assumes nothing.
use mathlib.Core.Path.{◌≡◌, refl, sym, ap, ◌∙◌, subst}
use mathlib.Core.Bool.{true}
use mathlib.Core.List.{List, ◌∷◌}
use Prim.Native.Nat.{ℕ, suc, ◌-◌, ◌*◌, ◌≤◌}
use native.Mathlib.Omega.{arith}
use lib.ListN.{length, take, drop, length-drop}
use lib.Seq.{take_all}
use lib.IntN.{ℤ}
use lib.Ieee.{Float}
use Rattle.std.specs.Prelude.{Result, Ok, Err}
use Rattle.std.specs.Result.{result_unwrap_or}
use Rattle.s2.specs.declared.rect.Rect.{Rect}
use Rattle.s2.specs.Places.{Valid}
use Rattle.entries.specs.declared.records.Fault.{Fault}
use Rattle.entries.specs.Lists.{All, whole}
use Rattle.lists.specs.Rects.{rects_of}
use Rattle.lists.proofs.RectLists.{rects-numbers}
use Rattle.region.specs.Answers.{pieces_of, told_pieces, Promised}
use Rattle.region.proofs.Listings.{IsListed, listing as region-listing}
use Rattle.box_lines.specs.Answers.{GLOBE, wholes, in_radians, boxes_of, box_lines, common_boxes, answer_of, answer_text}
use Rattle.box_lines.specs.Inside.{Listed, IsFound, listed_text, Gathered}
use Rattle.box_lines.proofs.Radians.{length_radians}
use Rattle.box_lines.proofs.Taken.{taken, rects-of, valid-rects, length-wholes}

-- ---- the list that was gathered
module _ (ws : List ℤ) (h : Listed ws) where
  -- without the globe
  behind : drop 4 ws ≡ wholes h.boxes
  behind = ap (drop 4) h.holds.are ∙ unfold wholes in refl

  -- room for it
  pub listed_fits : length ws ≤ 2052
  listed_fits = omega (arith, ap length h.holds.are, length-wholes (GLOBE ∷ h.boxes), h.holds.few)

  -- in radians
  module _ (x : List Float) (e : x ≡ in_radians ws) where
    pub globe-first : 4 ≤ length x
    globe-first =
        let n : length ws ≡ 4 * suc (length h.boxes) = ap length h.holds.are ∙ length-wholes (GLOBE ∷ h.boxes) in
        omega (arith, n, ap length e, length_radians ws)

    part : take (length x - 4) (drop 4 x) ≡ in_radians (wholes h.boxes)
    part =
        take_all (length x - 4) (drop 4 x) (simp length-drop (omega arith)) ∙ ap (drop 4) (e ∙ ap in_radians h.holds.are) ∙ (unfold wholes in_radians in refl)

-- ---- what `common_region` leaves
told : (r : Result ℕ Fault) → (told_pieces r).count ≡ result_unwrap_or r 0
told (Ok n) = refl
told (Err f) = refl

-- all pieces, since boxes are accepted and there is room for 512
module _ (ws : List ℤ) (h : Listed ws) (x : List Float) (e : x ≡ in_radians ws) where
  pub found : (out : List Float) (r : Result ℕ Fault) (n : ℕ) (o : List Float) → length out ≡ 2048 → length o ≡ 2048 → n ≡ result_unwrap_or r 0
      → Promised (take (length x - 4) (drop 4 x)) out (told_pieces r) o → IsFound ws n o
  found out r n o k m u p =
      let g = h.holds.given in
      let l : List Float = take (length x - 4) (drop 4 x) in
      let a : l ≡ in_radians (wholes h.boxes) = part ws h x e in
      let i : IsListed (in_radians (drop 4 ws)) n o =
      subst (λ (n : ℕ). IsListed (in_radians (drop 4 ws)) n o) (told r ∙ sym u)
      (subst (λ (m : List Float). IsListed m (told_pieces r).count o) (a ∙ ap in_radians (sym (behind ws h)))
      (region-listing l out (told_pieces r) o (subst (λ (m : List Float). whole 4 512 m ≡ true) (sym a) (taken h.boxes g h.holds.few).is_whole)
      (subst (λ (m : List Float). All Valid (rects_of m)) (sym a) (subst (All Valid) (sym (rects-of h.boxes)) (valid-rects h.boxes g))) k p)) in
      record { is = ap rects_of i.is ∙ rects-numbers (pieces_of (in_radians (drop 4 ws))); few = omega (arith, i.few, m) }

pub listed_is : (ws : List ℤ) (n : ℕ) (o : List Float) → IsFound ws n o → box_lines (boxes_of ws (rects_of (take (4 * n) o))) ≡ listed_text ws
unfolding listed_text
listed_is ws n o f = ap (λ (l : List Rect). box_lines (boxes_of ws l)) f.is

-- the text of what was gathered
pub answered : (s : List ℕ) (ws : List ℤ) → Gathered s ws → listed_text ws ≡ answer_text s
unfolding listed_text common_boxes answer_text answer_of
answered s ws g =
    ap (λ (l : List ℤ). box_lines (boxes_of ws (pieces_of (in_radians l)))) (behind ws (record { boxes = g.boxes; holds = g.holds }))
    ∙ ap (λ (l : List ℤ). box_lines (boxes_of l (pieces_of (in_radians (wholes g.boxes))))) g.holds.are ∙ sym (ap answer_of g.read)
