-- Which rectangle is left in the lent box, by what growth answered: under 0 the grown one, else the box as it was. Assumes nothing.
use mathlib.Core.Path.{◌≡◌, refl, sym, ap, ◌∙◌}
use mathlib.Core.Bool.{Bool, true, false, cond, ◌||◌}
use mathlib.Core.List.{List}
use lib.Dec.{eqb}
use lib.Ieee.{Float}
use Rattle.std.specs.Prelude.{Ok, Err}
use Rattle.consts.specs.declared.refusal.Refusal.{Refusal}
use Rattle.consts.specs.Refusal.{code}
use Rattle.consts.proofs.Codes.{code_refuses}
use Rattle.s2.specs.declared.latlng.LatLng.{LatLng}
use Rattle.s2.specs.declared.rect.Rect.{Rect}
use Rattle.s2.specs.declared.rect.Answer.{Answer}
use Rattle.s2.specs.Answers.{add, empty_under, grown_of}
use Rattle.growth.specs.RunningBox.{kept}
use Rattle.growth.specs.Growth.{under, grow}
use Rattle.growth.proofs.RunningBox.{call-is}
use Rattle.scan.specs.Scan.{enlarge, enlarge_all}

-- a refusal of growth has its own number, and leaves the box
refused_number : (b : Rect) (w : Refusal) → (grown_of b (Err w)).refusal ≡ code w
refused_number b w = go (eqb (code w) 3 || eqb (code w) 5)
  where
    go : (t : Bool) → (cond t (under (code w) b) (empty_under (code w))).refusal ≡ code w
    go true = refl
    go false = refl

refused_box : (b : Rect) (w : Refusal) → kept b (grown_of b (Err w)) ≡ b
refused_box b w = simp (refused_number b w, code_refuses w)

-- ---- what the worker answers and leaves, by growth's result
pub point_in : (b : Rect) (p : LatLng) (v : Rect) → grown_of b (Ok v) ≡ add b p → enlarge b p ≡ under 0 v
unfolding enlarge
point_in b p v e = ap (under (add b p).refusal) (call-is b p) ∙ sym (ap (λ (a : Answer). under a.refusal (kept b a)) e)

pub point_out : (b : Rect) (p : LatLng) (w : Refusal) → grown_of b (Err w) ≡ add b p → enlarge b p ≡ under (code w) b
unfolding enlarge
point_out b p w e =
    ap (under (add b p).refusal) (call-is b p) ∙ sym (ap (λ (a : Answer). under a.refusal (kept b a)) e)
    ∙ λ i. under (refused_number b w i) (refused_box b w i)

pub list_in : (b : Rect) (l : List Float) (v : Rect) → grown_of b (Ok v) ≡ grow b l → enlarge_all b l ≡ under 0 v
unfolding enlarge_all
list_in b l v e = sym (ap (λ (a : Answer). under a.refusal (kept b a)) e)

pub list_out : (b : Rect) (l : List Float) (w : Refusal) → grown_of b (Err w) ≡ grow b l → enlarge_all b l ≡ under (code w) b
unfolding enlarge_all
list_out b l w e = sym (ap (λ (a : Answer). under a.refusal (kept b a)) e) ∙ λ i. under (refused_number b w i) (refused_box b w i)
