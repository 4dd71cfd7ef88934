-- Rectangles: what each operation of `src/s2/rect.rs` answers, in the crate's order, from the latitude's line interval and the longitude's circle
-- interval. The operands are read already: valid, with no negative zero. Definitions only; the laws over places are in proofs/Places.antt.
use Rattle.std.specs.Prelude.{Bool, not, ◌&&◌, ◌||◌, cond, ℕ, ◌%◌, eqb, Float}
use Rattle.std.specs.Float.Ieee as Ieee
use Rattle.std.specs.Float.{binary64}
use Rattle.std.specs.Float.Ieee.{of_bits}
use Rattle.consts.specs.Constants.{HALF}
use Rattle.consts.specs.Reading.{plain}
use Rattle.r1.specs.declared.interval.Interval.{Interval as Line}
use Rattle.r1.specs.Line as line
use Rattle.s1.specs.declared.interval.Interval.{Interval as Circle}
use Rattle.s1.specs.Circle as circle
use Rattle.s1.specs.Reading.{on_circle}
use Rattle.s2.specs.declared.latlng.LatLng.{LatLng}
use Rattle.s2.specs.declared.rect.Rect.{Rect}

-- PI / 2 and -PI / 2
abbrev pub NORTH : Float
NORTH = of_bits binary64 0x3FF921FB54442D18

abbrev pub SOUTH : Float
SOUTH = of_bits binary64 0xBFF921FB54442D18

abbrev pub LATITUDES : Line
LATITUDES = line.ends SOUTH NORTH

abbrev pub at : Float → Float → LatLng
at lat lng = record { lat = lat; lng = lng }

abbrev pub box : Line → Circle → Rect
box lat lng = record { lat = lat; lng = lng }

abbrev pub FULL : Rect
FULL = box LATITUDES circle.FULL

-- the standard empty
abbrev pub EMPTY : Rect
EMPTY = box line.EMPTY circle.EMPTY

-- ---- validity
-- a latitude lies from pole to pole
unfoldable pub latitude : Float → Bool
latitude x = Ieee.le SOUTH x && Ieee.le x NORTH

unfoldable pub is_lat_lng : LatLng → Bool
is_lat_lng p = latitude p.lat && on_circle p.lng

-- lat.lo lies from pole to pole, lat.hi not above the pole
abbrev pub valid_latitudes : Line → Bool
valid_latitudes i = latitude i.lo && Ieee.le i.hi NORTH

-- of two tests both hold, or neither does
abbrev pub alike : Bool → Bool → Bool
alike a b = cond a b (not b)

-- both parts are empty, or neither is
abbrev pub like_parts : Rect → Bool
like_parts r = alike (line.is_empty r.lat) (circle.is_empty r.lng)

unfoldable pub is_valid : Rect → Bool
is_valid r = valid_latitudes r.lat && circle.is_valid r.lng && like_parts r

-- ---- made from points
-- a single point, with the seam written PI
unfoldable pub from_lat_lng : LatLng → Rect
from_lat_lng p = box (line.ends p.lat p.lat) (circle.«new» p.lng p.lng)

unfoldable pub from_point_pair : LatLng → LatLng → Rect
from_point_pair p q = box (line.from_point_pair p.lat q.lat) (circle.from_point_pair p.lng q.lng)

-- ---- a rectangle alone
unfoldable pub is_empty : Rect → Bool
is_empty r = line.is_empty r.lat

unfoldable pub is_full : Rect → Bool
is_full r = line.eq r.lat LATITUDES && circle.is_full r.lng

unfoldable pub is_point : Rect → Bool
is_point r = Ieee.eq r.lat.lo r.lat.hi && Ieee.eq r.lng.lo r.lng.hi

-- the longitudes cross the seam, or the rectangle is empty
abbrev pub is_inverted : Rect → Bool
is_inverted r = circle.is_inverted r.lng

-- the number modulo 4 picks lower left, lower right, upper right, upper left
unfoldable pub vertex : Rect → ℕ → LatLng
vertex r n =
    let k = n % 4 in
    cond (eqb k 0) (at r.lat.lo r.lng.lo)
    (cond (eqb k 1) (at r.lat.lo r.lng.hi)
    (cond (eqb k 2) (at r.lat.hi r.lng.hi) (at r.lat.hi r.lng.lo)))

unfoldable pub center : Rect → LatLng
center r = at (line.center r.lat) (circle.center r.lng)

unfoldable pub size : Rect → LatLng
size r = at (line.len r.lat) (plain (circle.len r.lng))

-- every longitude where a pole is reached; an empty rectangle reaches none
unfoldable pub polar_closure : Rect → Rect
polar_closure r = cond (not (is_empty r) && (Ieee.eq r.lat.lo SOUTH || Ieee.eq r.lat.hi NORTH)) (box r.lat circle.FULL) r

-- ---- a rectangle and margins
-- each part widened, the latitude clamped to the poles; the standard empty where one of them is empty
unfoldable pub expanded : Rect → LatLng → Rect
expanded r m =
    let lat = line.expanded r.lat m.lat in
    let lng = circle.expanded r.lng m.lng in
    cond (line.is_empty lat || circle.is_empty lng) EMPTY (box (line.intersection lat LATITUDES) lng)

-- the point widened by half the size
unfoldable pub from_center_size : LatLng → LatLng → Rect
from_center_size p s = expanded (from_lat_lng p) (at (Ieee.mul binary64 s.lat HALF) (Ieee.mul binary64 s.lng HALF))

-- ---- a rectangle and a point
unfoldable pub contains_lat_lng : Rect → LatLng → Bool
contains_lat_lng r p = line.contains r.lat p.lat && circle.contains r.lng p.lng

unfoldable pub interior_contains_lat_lng : Rect → LatLng → Bool
interior_contains_lat_lng r p = line.interior_contains r.lat p.lat && circle.interior_contains r.lng p.lng

unfoldable pub add : Rect → LatLng → Rect
add r p = box (line.add r.lat p.lat) (circle.add r.lng p.lng)

-- ---- two rectangles, part by part
unfoldable pub contains : Rect → Rect → Bool
contains r o = line.contains_interval r.lat o.lat && circle.contains_interval r.lng o.lng

unfoldable pub interior_contains : Rect → Rect → Bool
interior_contains r o = line.interior_contains_interval r.lat o.lat && circle.interior_contains_interval r.lng o.lng

unfoldable pub intersects : Rect → Rect → Bool
intersects r o = line.intersects r.lat o.lat && circle.intersects r.lng o.lng

unfoldable pub interior_intersects : Rect → Rect → Bool
interior_intersects r o = line.interior_intersects r.lat o.lat && circle.interior_intersects r.lng o.lng

unfoldable pub union : Rect → Rect → Rect
union r o = box (line.union r.lat o.lat) (circle.union r.lng o.lng)

-- the standard empty where one of the parts is empty
unfoldable pub intersection : Rect → Rect → Rect
intersection r o =
    let lat = line.intersection r.lat o.lat in
    let lng = circle.intersection r.lng o.lng in
    cond (line.is_empty lat || circle.is_empty lng) EMPTY (box lat lng)

unfoldable pub approx_eq_by : Rect → Rect → LatLng → Bool
approx_eq_by r o e = line.approx_eq_by r.lat o.lat e.lat && circle.approx_eq_by r.lng o.lng e.lng

unfoldable pub eq : Rect → Rect → Bool
eq r o = line.eq r.lat o.lat && circle.eq r.lng o.lng
