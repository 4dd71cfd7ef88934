-- The text that goes out for a text of bbox arrays: the common region of their boxes as bbox arrays, one a line, or a refusal. No degree is rounded on the
-- way out: an edge of a piece is an edge of a box that was read, and is written with that box's whole number. Definitions only; that the boxes that go out
-- are the common region is in proofs/Common.antt.
use Rattle.std.specs.Prelude.{◌≡◌, true, cond, List, [], ◌∷◌, ◌++◌, ℕ, ℤ, pos, neg_ℤ, Float}
use Rattle.std.specs.Float.Ieee.{eq}
use Rattle.consts.specs.Refusal.{number, bad_list, bad_text}
use Rattle.s2.specs.declared.rect.Rect.{Rect}
use Rattle.entries.specs.Inputs.{in_turn}
use Rattle.region.specs.Answers.{pieces_of}
use Rattle.text.specs.Text.{refused_text, refused_at_line_text}
use Rattle.bounds.specs.declared.bounds.Bounds.{Bounds}
use Rattle.bounds.specs.Bounds.{HALF, QUARTER, givable}
use Rattle.bbox_text.specs.Text.{text_of}
use Rattle.degrees.specs.Degrees.{radians, rect_of}
use Rattle.box_lines.specs.Lines.{Lines, NoLine, Boxes, Fault, TooMany, lines_of}

-- the whole globe
abbrev pub GLOBE : Bounds
GLOBE = record { west = neg_ℤ (pos HALF); south = neg_ℤ (pos QUARTER); east = pos HALF; north = pos QUARTER }

-- a box that reading can give
abbrev pub Given : Bounds → Type 0
Given b = givable b ≡ true

-- the rectangles of boxes
unfoldable pub rects : List Bounds → List Rect
rects [] = []
rects (b ∷ l) = rect_of b ∷ rects l

-- the whole numbers of boxes, in the order of a rectangle's numbers: south, north, west, east
unfoldable pub wholes : List Bounds → List ℤ
wholes [] = []
wholes (b ∷ l) = b.south ∷ (b.north ∷ (b.west ∷ (b.east ∷ wholes l)))

-- each in radians
unfoldable pub in_radians : List ℤ → List Float
in_radians [] = []
in_radians (w ∷ l) = radians w ∷ in_radians l

-- ---- the way back
-- the first of the whole numbers ws whose radians are x
unfoldable pub whole_of : List ℤ → Float → ℤ
whole_of [] x = pos 0
whole_of (w ∷ ws) x = cond (eq (radians w) x) w (whole_of ws x)

-- a piece, with the edges of its box among ws
unfoldable pub box_of : List ℤ → Rect → Bounds
box_of ws r = record { west = whole_of ws r.lng.lo; south = whole_of ws r.lat.lo; east = whole_of ws r.lng.hi; north = whole_of ws r.lat.hi }

unfoldable pub boxes_of : List ℤ → List Rect → List Bounds
boxes_of ws [] = []
boxes_of ws (r ∷ l) = box_of ws r ∷ boxes_of ws l

-- the common region of boxes: its edges are those of the boxes and of the globe
unfoldable pub common_boxes : List Bounds → List Bounds
common_boxes l = boxes_of (wholes (GLOBE ∷ l)) (pieces_of (in_radians (wholes l)))

-- ---- the text
-- a box as the writer writes it, and a newline
unfoldable pub box_text : Bounds → List ℕ
box_text b = cond (givable b) (text_of b) []

unfoldable pub box_line : Bounds → List ℕ
box_line b = box_text b ++ (10 ∷ [])

unfoldable pub box_lines : List Bounds → List ℕ
box_lines l = in_turn box_line l

unfoldable pub answer_of : Lines → List ℕ
answer_of NoLine = refused_text (number bad_text)
answer_of (Boxes l) = box_lines (common_boxes l)
answer_of (Fault n k) = refused_at_line_text n k
answer_of TooMany = refused_text (number bad_list)

unfoldable pub answer_text : List ℕ → List ℕ
answer_text s = answer_of (lines_of s)
