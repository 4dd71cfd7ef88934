-- Why a rectangle or a point of a list is refused, and the first number of a list of them. Definitions only; what they mean is in proofs/Promises.antt.
use Rattle.std.specs.Prelude.{List, ℕ}
use Rattle.s2.specs.declared.latlng.LatLng.{LatLng}
use Rattle.s2.specs.declared.rect.Rect.{Rect}
use Rattle.s2.specs.Reading.{read_one, read_point}
use Rattle.entries.specs.First.{first_number}

-- one entry, or 0
abbrev pub of_rect : Rect → ℕ
of_rect r = (read_one r).refusal

abbrev pub of_point : LatLng → ℕ
of_point p = (read_point p).refusal

-- the first of a list: rectangles, each by the first of its own numbers; points
abbrev pub first_refused : List Rect → ℕ
first_refused = first_number of_rect

abbrev pub first_bad : List LatLng → ℕ
first_bad = first_number of_point
