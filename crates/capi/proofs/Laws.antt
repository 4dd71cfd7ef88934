-- C's running box: the numbers of a rectangle of four numbers are the four. Assumes nothing.
use mathlib.Core.Path.{◌≡◌, refl, sym}
use mathlib.Core.Bool.{Bool, true, false, cond}
use mathlib.Core.List.{List, [], ◌∷◌}
use native.Mathlib.Omega.{arith}
use lib.ListN.{length}
use lib.Dec.{eqb}
use lib.Ieee.{Float}
use Rattle.s2.specs.declared.rect.Rect.{Rect}
use Rattle.s2.specs.declared.rect.Answer.{Answer}
use Rattle.lists.specs.Rects.{numbers_of}
use Rattle.growth.specs.RunningBox.{kept}
use Rattle.c_records.specs.Boxes.{box_of, box_left}

four : (l : List Float) → length l ≡ 4 → numbers_of (box_of l ∷ []) ≡ l
unfolding numbers_of
four [] h = absurd (omega (arith, h))
four (a ∷ []) h = absurd (omega (arith, h))
four (a ∷ (b ∷ [])) h = absurd (omega (arith, h))
four (a ∷ (b ∷ (c ∷ []))) h = absurd (omega (arith, h))
four (a ∷ (b ∷ (c ∷ (d ∷ [])))) h = refl
four (a ∷ (b ∷ (c ∷ (d ∷ (e ∷ l))))) h = absurd (omega (arith, h))

-- after growth answered a, the box has the numbers of the rectangle that the scan worker keeps
pub keeps : (l : List Float) (a : Answer) → length l ≡ 4 → box_left l a ≡ numbers_of (kept (box_of l) a ∷ [])
unfolding box_left
keeps l a h = by_number (eqb a.refusal 0)
  where
    by_number : (t : Bool) → cond t (numbers_of (a.value ∷ [])) l ≡ numbers_of (cond t a.value (box_of l) ∷ [])
    by_number true = refl
    by_number false = sym (four l h)

-- and they are a rectangle's again
pub back : (r : Rect) → box_of (numbers_of (r ∷ [])) ≡ r
unfolding numbers_of
back r = refl
