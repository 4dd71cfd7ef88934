-- What the program `boxes` promises of GeoJSON boxes, one a line, each as one theorem with all that it asks in its own signature: document 02 (T-01) for each line, and
-- document 01's demand 3 for the boxes that go out. Each is a law of the modules beside this one. Assumes nothing.
use mathlib.Core.Path.{◌≡◌, ap}
use mathlib.Core.List.{List, []}
use Prim.Native.Nat.{ℕ, ◌≤◌, ◌<◌}
use lib.ListN.{length}
use lib.IntN.{ℤ}
use lib.Ieee.{Float}
use Rattle.consts.specs.Refusal.{number, bad_text}
use Rattle.entries.specs.Lists.{All, Mem}
use Rattle.text.specs.Text.{refused_text, refused_at_line_text}
use Rattle.region.specs.CommonRegion.{CommonRegion}
use Rattle.region.specs.Answers.{pieces_of}
use Rattle.bounds.specs.declared.bounds.Bounds.{Bounds}
use Rattle.box_lines.specs.Lines.{NoLine, Boxes, Fault, TooMany, lines_of}
use Rattle.box_lines.specs.Answers.{Given, rects, wholes, in_radians, whole_of, common_boxes, box_lines, answer_of, answer_text}
use Rattle.box_lines.proofs.Back as back
use Rattle.box_lines.proofs.Back.{Small, Found}
use Rattle.box_lines.proofs.Common as common
use Rattle.box_lines.proofs.Common.{Within}
use Rattle.box_lines.proofs.Again as again
use Rattle.box_lines.proofs.Laws as laws
use Rattle.box_lines.proofs.Laws.{Lined, FirstFault, Over}

-- ---- what the lines come to
-- boxes: those of the lines, of every line, at least one and at most 512, and such as reading gives
pub boxes-of-lines : (s : List ℕ) (l : List Bounds) → lines_of s ≡ Boxes l → Lined s l
boxes-of-lines s l e = laws.lines-given s l e

-- no line at all is `refused 8`, and only the empty text has none: no answer but a refusal comes of an empty input
pub no_line : answer_text [] ≡ refused_text (number bad_text)
no_line = laws.no_line

pub only-empty-text : (s : List ℕ) → lines_of s ≡ NoLine → s ≡ []
only-empty-text s e = laws.no_text s e

-- "The first fault .. decides", and is told with its line: `refused 8 at line 2`
pub first-fault-decides : (s : List ℕ) (n k : ℕ) → lines_of s ≡ Fault n k → FirstFault s n k × (answer_text s ≡ refused_at_line_text n k)
unfolding answer_text answer_of
first-fault-decides s n k e = (laws.first-fault s n k e, ap answer_of e)

-- a 513th line is one too many where no line before it has a fault
pub one-too-many : (s : List ℕ) → lines_of s ≡ TooMany → Over s
one-too-many s e = laws.too_many s e

-- ---- demand 3, "the added common region lists valid rectangles": for lines of boxes the text is that of their common boxes, which are their common region
pub common-boxes-text : (s : List ℕ) (l : List Bounds) → lines_of s ≡ Boxes l → (answer_text s ≡ box_lines (common_boxes l)) × CommonRegion (rects l) (rects (common_boxes l))
common-boxes-text s l e = let a = laws.answer-boxes s l e in (a.0, a.1)

-- each is a box that reading can give, and no other list of such boxes is the common region
pub boxes-again : (l : List Bounds) → All Given l → All Given (common_boxes l)
boxes-again l g = common.all-given l g

pub only-these : (l : List Bounds) → All Given l → (m : List Bounds) → All Given m → CommonRegion (rects l) (rects m) → m ≡ common_boxes l
only-these l g m h c = common.only-these l g m h c

-- n boxes have at most n, whatever their order and however often each is there
pub at-most-as-many : (l : List Bounds) → All Given l → 0 < length l → length (common_boxes l) ≤ length l
at-most-as-many l g h = common.at_most l g h

pub any_order : (l m : List Bounds) → All Given l → All Given m → Within l m → Within m l → common_boxes l ≡ common_boxes m
any_order l m g h a b = common.any_order l m g h a b

-- ---- no degree is rounded on the way out: in radians the boxes are the pieces, number by number; an edge is found again as the whole number that came in
pub nothing-rounded : (l : List Bounds) → All Given l → rects (common_boxes l) ≡ pieces_of (in_radians (wholes l))
nothing-rounded l g = back.rects-back l g

pub edge-found : (ws : List ℤ) → All Small ws → (x : Float) → Mem x (in_radians ws) → Found ws x (whole_of ws x)
edge-found ws s x m = back.back ws s x m

-- ---- "Reading what was written gives the same box, proved": so do lines, up to 512
pub same-lines-again : (l : List Bounds) → All Given l → 0 < length l → length l ≤ 512 → lines_of (box_lines l) ≡ Boxes l
same-lines-again l g p h = again.again l g p h

pub answer-reads-back : (s : List ℕ) (l : List Bounds) → lines_of s ≡ Boxes l → 0 < length (common_boxes l) → lines_of (answer_text s) ≡ Boxes (common_boxes l)
answer-reads-back s l e p = (laws.answer-boxes s l e).2 p
