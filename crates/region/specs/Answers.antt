-- What `common_region` answers for every list, and every number that it leaves in the output: the refusals in document 01's order, then
-- the pieces as numbers. Definitions only.
use Rattle.std.specs.Prelude.{◌≡◌, cond, List, ◌++◌, ℕ, ◌*◌, length, drop, leb, Float, Result, Ok, Err}
use Rattle.consts.specs.Refusal.{number, accepted, bad_list, no_room, code, first_refusal, given}
use Rattle.entries.specs.declared.records.Fault.{Fault}
use Rattle.s2.specs.declared.rect.Rect.{Rect}
use Rattle.entries.specs.Lists.{whole}
use Rattle.entries.specs.First.{first_entry}
use Rattle.lists.specs.Rects.{rects_of, numbers_of, as_read_all}
use Rattle.lists.specs.Refused.{of_rect, first_refused}
use Rattle.region.specs.declared.region.Pieces.{Pieces}
use Rattle.region.specs.CommonRegion.{CommonRegion}
use Rattle.region.specs.Region.{region}

-- the pieces that are due
unfoldable pub pieces_of : List Float → List Rect
pieces_of l = region (as_read_all (rects_of l))

-- ---- refusals
-- 5, then the entries from the first, then 6 where the output has fewer than 4 numbers a piece
unfoldable pub refusal_of : List Float → ℕ → ℕ
refusal_of l room =
    cond (whole 4 512 l)
    (first_refusal (first_refused (rects_of l)) (cond (leb (4 * length (pieces_of l)) room) (number accepted) (number no_room)))
    (number bad_list)

-- ---- the entry that is refused, counted from zero; 0 where none is, or the list is not looked into
unfoldable pub entry_of : List Float → ℕ
entry_of l = cond (whole 4 512 l) (first_entry of_rect (rects_of l)) 0

-- what C is told of a result: how many pieces, or the fault
abbrev pub told_pieces : Result ℕ Fault → Pieces
told_pieces (Ok n) = record { refusal = number accepted; count = n; entry = 0 }
told_pieces (Err f) = record { refusal = code f.refusal; count = 0; entry = f.entry }

-- ---- the answer, and what is left in the output: a refusal counts no pieces and alters no number; numbers after the last piece stay
unfoldable pub answer : List Float → ℕ → Pieces
answer l room = record { refusal = refusal_of l room; count = given (refusal_of l room) (length (pieces_of l)) 0; entry = entry_of l }

unfoldable pub left : List Float → List Float → List Float
left l out = given (refusal_of l (length out)) (numbers_of (pieces_of l) ++ drop (4 * length (pieces_of l)) out) out

-- what `common_region` promises of the answer r and the output left for the list l and the output out
pub record Promised (l out : List Float) (r : Pieces) (out' : List Float) : Type 0 where
  pub answers : r ≡ answer l (length out)
  pub leaves : out' ≡ left l out
  -- and what is listed is the common region of the rectangles given
  pub lists : r.refusal ≡ number accepted → CommonRegion (rects_of l) (pieces_of l)
