-- How much room an answer takes. Definitions only.
use Rattle.std.specs.Prelude.{ℕ, ◌≡◌, ◌+◌, ◌≤◌}
use Rattle.arrayvec.specs.ArrayVec.{ArrayVec, array_vec_len}

-- No answer's line has more bytes.
abbrev pub longest : ℕ
longest = 35998

-- The room of a line, and of the line of no question after it: `print::ROOM`.
abbrev pub room : ℕ
room = 36000

-- How many bytes of answers may wait: `print::CAPACITY`.
abbrev pub capacity : ℕ
capacity = 65536

-- There is room for n bytes more.
abbrev pub HasRoom : ArrayVec ℕ → ℕ → Type 0
HasRoom out n = array_vec_len out + n ≤ capacity

-- At most n bytes were put.
abbrev pub GrewBy : ArrayVec ℕ → ArrayVec ℕ → ℕ → Type 0
GrewBy old new n = array_vec_len new ≤ array_vec_len old + n

-- n bytes were put, no more and no fewer.
abbrev pub LongerBy : ArrayVec ℕ → ArrayVec ℕ → ℕ → Type 0
LongerBy old new n = array_vec_len new ≡ array_vec_len old + n
