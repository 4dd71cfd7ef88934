-- What the functions of src/ promise each other. Nothing here needs to be believed: no public contract and no promise cites it.
use Rattle.std.specs.Prelude.{◌≡◌, List, ◌∷◌, ℕ, ◌*◌, ◌≤◌, ◌<◌, length, take, drop, ℤ, Float}
use Rattle.consts.specs.Refusal.{code}
use Rattle.entries.specs.Lists.{All}
use Rattle.bounds.specs.declared.bounds.Bounds.{Bounds}
use Rattle.lists.specs.Rects.{rects_of}
use Rattle.region.specs.Answers.{pieces_of}
use Rattle.box_lines.specs.declared.gather.Unread.{Unread}
use Rattle.box_lines.specs.declared.gather.Unread.TheVariants as unread
use Rattle.box_lines.specs.Lines.{NoLine, Boxes, Fault, TooMany, lines_of}
use Rattle.box_lines.specs.Answers.{GLOBE, Given, wholes, in_radians, boxes_of, box_lines}

-- the list has the whole numbers of the globe and of these boxes
pub record Holds (boxes : List Bounds) (l : List ℤ) : Type 0 where
  pub given : All Given boxes
  pub few : length boxes ≤ 512
  pub are : l ≡ wholes (GLOBE ∷ boxes)

-- the list l has the boxes of the lines of s
pub record Gathered (s : List ℕ) (l : List ℤ) : Type 0 where
  pub boxes : List Bounds
  pub read : lines_of s ≡ Boxes boxes
  pub holds : Holds boxes l

-- why s has none: no line, or the first fault, or more lines than are taken
abbrev pub IsUnread : List ℕ → Unread → Type 0
IsUnread s unread.NoLine = lines_of s ≡ NoLine
IsUnread s (unread.Line r k) = (lines_of s ≡ Fault (code r) k) × (k < 1000)
IsUnread s unread.TooMany = lines_of s ≡ TooMany

-- a list that holds boxes
pub record Listed (l : List ℤ) : Type 0 where
  pub boxes : List Bounds
  pub holds : Holds boxes l

-- the n pieces of their common region are at the start of o
pub record IsFound (l : List ℤ) (n : ℕ) (o : List Float) : Type 0 where
  pub is : rects_of (take (4 * n) o) ≡ pieces_of (in_radians (drop 4 l))
  pub few : 4 * n ≤ length o

-- and their text
unfoldable pub listed_text : List ℤ → List ℕ
listed_text l = box_lines (boxes_of l (pieces_of (in_radians (drop 4 l))))
