-- A text of bbox arrays, one a line, and what it comes to: the boxes of its lines, or its first fault, or that it has no line at all. Definitions only; the
-- laws are in proofs/Laws.antt.
use Rattle.std.specs.Prelude.{cond, List, [], ◌∷◌, ℕ, ◌+◌, eqb}
use Rattle.consts.specs.Refusal.{number, bad_list}
use Rattle.entries.specs.Inputs as inputs
use Rattle.entries.specs.Inputs.{Form, Input, input_of}
use Rattle.bounds.specs.declared.bounds.Bounds.{Bounds}
use Rattle.bbox.specs.Reading.{read_of}

-- the first line, without the newline (10) that ends it, and what follows; the last line may lack its newline
unfoldable pub line_of : List ℕ → List ℕ
line_of [] = []
line_of (b ∷ s) = cond (eqb b 10) [] (b ∷ line_of s)

unfoldable pub after_line : List ℕ → List ℕ
after_line [] = []
after_line (b ∷ s) = cond (eqb b 10) s (after_line s)

pub data Lines : Type 0 where
  -- there is no line
  NoLine : Lines
  -- every line is a box, and there is at least one
  Boxes : List Bounds → Lines
  -- the first fault, by its number, and the line that it stands on, counted from 1
  Fault : ℕ → ℕ → Lines
  -- more lines than are taken
  TooMany : Lines

-- an input of lines, up to 512: each is a box, as it is read
abbrev pub LINES : Form ℕ Bounds
LINES = record { number = λ s. (read_of (line_of s)).refusal; item = λ s. (read_of (line_of s)).value; rest = after_line; limit = 512; over = λ s. number bad_list }

-- a fault on one of those lines is told with the line; past the last of them there are too many
abbrev pub to_lines : Input Bounds → Lines
to_lines (inputs.Items []) = NoLine
to_lines (inputs.Items (b ∷ l)) = Boxes (b ∷ l)
to_lines (inputs.Fault n k) = cond (eqb k 512) TooMany (Fault n (k + 1))

unfoldable pub lines_of : List ℕ → Lines
lines_of s = to_lines (input_of LINES s)
