-- The running box of the scan worker, lent as four numbers: the rectangle that they are, and what is left of them after growth answered. Definitions only.
use Rattle.std.specs.Prelude.{◌≡◌, List, [], ◌∷◌, Float}
use Rattle.consts.specs.Refusal.{given}
use Rattle.s2.specs.declared.rect.Rect.{Rect}
use Rattle.s2.specs.declared.rect.Answer.{Answer}
use Rattle.lists.specs.Rects.{rect_at, numbers_of}
use Rattle.c_records.specs.declared.boxes.CRefusal.{CRefusal}

-- lat.lo, lat.hi, lng.lo, lng.hi, as in a list of rectangles
abbrev pub box_of : List Float → Rect
box_of l = rect_at l 0

-- the numbers that are left in the box: growth's rectangle under 0, and after a refusal what was there
unfoldable pub box_left : List Float → Answer → List Float
box_left l a = given a.refusal (numbers_of (a.value ∷ [])) l

-- what the worker answers and leaves of the box l, where growth answered a
pub record Stored (l : List Float) (a : Answer) (n : CRefusal) (l' : List Float) : Type 0 where
  -- growth's number
  pub answers : n.refusal ≡ a.refusal
  pub leaves : l' ≡ box_left l a
