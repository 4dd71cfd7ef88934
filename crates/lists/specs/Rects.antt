-- Lists of rectangles as lists of numbers, lat.lo, lat.hi, lng.lo, lng.hi each, and the way back. Definitions only; that either way undoes the other is in
-- proofs/RectLists.antt.
use Rattle.std.specs.Prelude.{cond, List, [], ◌∷◌, ℕ, ◌+◌, length, get_or, leb, Float}
use Rattle.std.proofs.lemmas.List.Edits.{sets}
use Rattle.std.specs.Float.{nan}
use Rattle.r1.specs.Line as line
use Rattle.s1.specs.Circle as circle
use Rattle.s2.specs.declared.rect.Rect.{Rect}
use Rattle.s2.specs.Zone.{box}
use Rattle.s2.specs.Reading.{as_read}

-- the rectangles in a list of numbers; fewer than four at the end are none
unfoldable pub rects_of : List Float → List Rect
rects_of [] = []
rects_of (a ∷ []) = []
rects_of (a ∷ (b ∷ [])) = []
rects_of (a ∷ (b ∷ (c ∷ []))) = []
rects_of (a ∷ (b ∷ (c ∷ (d ∷ l)))) = box (line.ends a b) (circle.ends c d) ∷ rects_of l

-- the one that starts at the number i; past the end there is no number
abbrev pub rect_at : List Float → ℕ → Rect
rect_at l i = box (line.ends (get_or l i nan) (get_or l (i + 1) nan)) (circle.ends (get_or l (i + 2) nan) (get_or l (i + 3) nan))

-- the same way back
unfoldable pub numbers_of : List Rect → List Float
numbers_of [] = []
numbers_of (r ∷ l) = r.lat.lo ∷ (r.lat.hi ∷ (r.lng.lo ∷ (r.lng.hi ∷ numbers_of l)))

-- the numbers of r from the number i on, where there is room for all four; else the list as it was
unfoldable pub put_rect : ℕ → Rect → List Float → List Float
put_rect i r l = cond (leb (i + 4) (length l)) (sets l i (numbers_of (r ∷ []))) l

-- each rectangle as it is read
unfoldable pub as_read_all : List Rect → List Rect
as_read_all [] = []
as_read_all (r ∷ l) = as_read r ∷ as_read_all l
