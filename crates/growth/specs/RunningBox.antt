-- The running box: a start, and calls one after the other. Each call is growth by a point, the public growth of the crate s2, and a refused call changes no
-- bit. Growth by a list (Growth.antt), the function `running` and the scan worker (the crate scan) are all this. Definitions only; what is promised of it is
-- in proofs/Promises.antt.
use Rattle.std.specs.Prelude.{◌≡◌, List, [], ◌∷◌, ◌⊎◌, Float}
use Rattle.consts.specs.Refusal.{given}
use Rattle.consts.specs.Reading.{plain}
use Rattle.s1.specs.Circle.{seam}
use Rattle.s2.specs.declared.latlng.LatLng.{LatLng}
use Rattle.s2.specs.declared.rect.Rect.{Rect}
use Rattle.s2.specs.declared.rect.Answer.{Answer}
use Rattle.s2.specs.Reading.{as_read}
use Rattle.s2.specs.Answers.{add}
use Rattle.entries.specs.Lists.{Mem}

-- the box b after growth answered a: under 0 what it answered, else b as it is
abbrev pub kept : Rect → Answer → Rect
kept b a = given a.refusal a.value b

-- after a call with the point p
unfoldable pub after : Rect → LatLng → Rect
after b p = kept b (add b p)

-- after all the calls, first to last
unfoldable pub running : Rect → List LatLng → Rect
running b [] = b
running b (p ∷ l) = running (after b p) l

-- the points of the accepted calls, in their order
unfoldable pub accepted_of : Rect → List LatLng → List LatLng
accepted_of b [] = []
accepted_of b (p ∷ l) = given (add b p).refusal (p ∷ accepted_of (after b p) l) (accepted_of (after b p) l)

-- ---- where the edges of a box come from
abbrev pub south_of : Rect → Float
south_of r = r.lat.lo

abbrev pub north_of : Rect → Float
north_of r = r.lat.hi

abbrev pub west_of : Rect → Float
west_of r = r.lng.lo

abbrev pub east_of : Rect → Float
east_of r = r.lng.hi

-- a point's coordinates, zeros read, and the longitude -PI as PI
abbrev pub latitude_of : LatLng → Float
latitude_of p = plain p.lat

abbrev pub longitude_of : LatLng → Float
longitude_of p = seam (plain p.lng)

-- an edge of b, zeros read, is that edge of the start, or that coordinate of one of the points
abbrev pub Comes : (Rect → Float) → (LatLng → Float) → Rect → Rect → List LatLng → Type 0
Comes edge coordinate start b ps = (edge (as_read b) ≡ edge (as_read start)) ⊎ ((p : LatLng) × Mem p ps × (edge (as_read b) ≡ coordinate p))

-- each of the four
pub record EdgesFrom (start b : Rect) (ps : List LatLng) : Type 0 where
  pub south : Comes south_of latitude_of start b ps
  pub north : Comes north_of latitude_of start b ps
  pub west : Comes west_of longitude_of start b ps
  pub east : Comes east_of longitude_of start b ps
