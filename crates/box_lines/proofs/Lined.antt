-- How the lines of boxes are made: what the writer writes of a box, for which 51 bytes are enough, and a turn that adds the line of one piece more. Assumes
-- nothing.
use mathlib.Core.Path.{◌≡◌, refl, sym, ap, ◌∙◌}
use mathlib.Core.Bool.{Bool, true, false, cond, false≢true}
use mathlib.Core.List.{List, [], ◌∷◌, ◌++◌, append_assoc, append-nil}
use Prim.Native.Nat.{ℕ, ◌+◌, ◌*◌, ◌%◌, ◌≤◌, ◌<◌}
use native.Mathlib.Omega.{arith}
use borrow.Author.Tests.{le-leb}
use lib.Dec.{leb}
use lib.ListN.{length, take, drop, length-append, drop_of_length-le}
use lib.Seq.{take_at}
use lib.IntN.{ℤ}
use lib.Ieee.{Float}
use Rattle.std.specs.Prelude.{Result, Ok, Err, OnOk, IsOk}
use Rattle.std.specs.Result.{result_unwrap_or}
use Rattle.consts.specs.declared.refusal.Refusal.{Refusal}
use Rattle.s2.specs.declared.rect.Rect.{Rect}
use Rattle.entries.specs.Inputs.{in_turn}
use Rattle.lists.specs.Rects.{rects_of, rect_at}
use Rattle.text.specs.Answers.{Written, written_of, wrote, left}
use Rattle.bounds.specs.declared.bounds.Bounds.{Bounds}
use Rattle.bounds.specs.Bounds.{givable}
use Rattle.bbox_text.specs.Text.{text_of, wrote_box, left_box}
use Rattle.bbox_text.proofs.Room.{longest}
use Rattle.box_lines.specs.Answers.{box_of, boxes_of, box_text, box_line, box_lines}

-- ---- what the writer writes of a box
pub box-short : (b : Bounds) → length (box_text b) ≤ 51
unfolding box_text
box-short b = go (givable b) refl
  where
    go : (t : Bool) → givable b ≡ t → length (cond t (text_of b) []) ≤ 51
    go true e = longest b e
    go false e = omega arith

box-counted : (b : Bounds) → (wrote_box b 51).count ≡ length (box_text b)
unfolding wrote_box box_text wrote
box-counted b = go (givable b) refl
  where
    go : (t : Bool) → givable b ≡ t → (wrote_box b 51).count ≡ length (box_text b)
    go true e =
        let f : leb (length (text_of b)) 51 ≡ true = le-leb (length (text_of b)) 51 (longest b e) in
        simp (e, f)
    go false e = simp e

box-left : (b : Bounds) (out : List ℕ) → length out ≡ 51 → left_box b out ≡ box_text b ++ drop (length (box_text b)) out
unfolding left_box box_text left
box-left b out h = go (givable b) refl
  where
    go : (t : Bool) → givable b ≡ t → left_box b out ≡ box_text b ++ drop (length (box_text b)) out
    go true e =
        let f : leb (length (text_of b)) (length out) ≡ true = le-leb (length (text_of b)) (length out) (omega (arith, longest b e, h)) in
        simp (e, f)
    go false e = simp e

count_is : (r : Result ℕ Refusal) → result_unwrap_or r 0 ≡ (written_of r).count
count_is (Ok n) = refl
count_is (Err w) = refl

pub fitted : {T E P : Type 0} (r : Result T E) → OnOk r P → IsOk r → P
fitted (Ok x) p e = p
fitted (Err x) p e = absurd (false≢true e)

-- in 51 bytes
module _ (b : Bounds) (out : List ℕ) (h : length out ≡ 51) (r : Result ℕ Refusal) (o : List ℕ) (e : written_of r ≡ wrote_box b (length out)) (f : o ≡ left_box b out) where
  pub counted : result_unwrap_or r 0 ≡ length (box_text b)
  counted = count_is r ∙ ap (λ (w : Written). w.count) e ∙ ap (λ (n : ℕ). (wrote_box b n).count) h ∙ box-counted b

  pub text : take (result_unwrap_or r 0) o ≡ box_text b
  text = ap (take (result_unwrap_or r 0)) (f ∙ box-left b out h) ∙ take_at (box_text b) (drop (length (box_text b)) out) (result_unwrap_or r 0) (sym counted)

-- ---- all lines: those that are made, and those of the pieces that are left
pub record Made (ws : List ℤ) (pieces : List Float) (t : List ℕ) (left : List Float) : Type 0 where
  pub is : box_lines (boxes_of ws (rects_of pieces)) ≡ t ++ box_lines (boxes_of ws (rects_of left))
  pub few : length t + 13 * length left ≤ 26624
  pub fours : length left % 4 ≡ 0

pub none_made : (ws : List ℤ) (pieces : List Float) → length pieces % 4 ≡ 0 → length pieces ≤ 2048 → Made ws pieces [] pieces
none_made ws pieces h k = record { is = refl; few = omega (arith, k); fours = h }

four-first : (x l : List Float) → length x ≡ 4 → rects_of (x ++ l) ≡ rect_at x 0 ∷ rects_of l
unfolding rects_of
four-first [] l h = absurd (omega arith)
four-first (a ∷ []) l h = absurd (omega arith)
four-first (a ∷ (b ∷ [])) l h = absurd (omega arith)
four-first (a ∷ (b ∷ (c ∷ []))) l h = absurd (omega arith)
four-first (a ∷ (b ∷ (c ∷ (d ∷ [])))) l h = refl
four-first (a ∷ (b ∷ (c ∷ (d ∷ (e ∷ x))))) l h = absurd (omega arith)

module _ (ws : List ℤ) (pieces : List Float) (t : List ℕ) (left : List Float) (h : Made ws pieces t left) where
  module _ (x left' : List Float) (e : left ≡ x ++ left') (k : length x ≡ 4) where
    shorter : length left ≡ 4 + length left'
    shorter = ap length e ∙ length-append x left' ∙ ap (λ (n : ℕ). n + length left') k

    pub room : length t + 52 ≤ 26624
    room = omega (arith, h.few, shorter)

    pub one_more : (b : Bounds) (u : List ℕ) → b ≡ box_of ws (rect_at x 0) → u ≡ t ++ box_line b → length u ≤ length t + 52 → Made ws pieces u left'
    unfolding boxes_of box_lines in_turn
    one_more b u f g m =
        let rest : List ℕ = box_lines (boxes_of ws (rects_of left')) in
        record {
          is = h.is ∙ ap (λ (l : List Float). t ++ box_lines (boxes_of ws (rects_of l))) e
              ∙ ap (λ (l : List Rect). t ++ box_lines (boxes_of ws l)) (four-first x left' k)
              ∙ ap (λ (c : Bounds). t ++ (box_line c ++ rest)) (sym f) ∙ sym (append_assoc t (box_line b) rest) ∙ ap (λ (v : List ℕ). v ++ rest) (sym g);
          few = omega (arith, h.few, shorter, m);
          fours = omega (arith, h.fours, shorter);
        }

  pub all-made : length left < 4 → t ≡ box_lines (boxes_of ws (rects_of pieces))
  unfolding rects_of boxes_of box_lines in_turn
  all-made p =
      let none : length left ≡ 0 = omega (arith, p, h.fours) in
      sym (h.is ∙ ap (λ (l : List Float). t ++ box_lines (boxes_of ws (rects_of l))) (drop_of_length-le left {i = 0} (omega (arith, none))) ∙ append-nil t)
