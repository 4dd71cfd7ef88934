-- How the operands of a rectangle's operations are read: in document 01's order, the rectangles from left to right, each with its zeros read, under 1
-- where a number is out of reach and under 21, 22 or 23 where it is not valid; then points (3), then margins, sizes or errors (4).
-- Definitions only; the laws are in proofs/Readings.antt.
use Rattle.std.specs.Prelude.{Bool, ◌&&◌, cond, ℕ}
use Rattle.consts.specs.Refusal.{number, accepted, out_of_reach, bad_point, bad_margin, first_fault, first_refusal}
use Rattle.consts.specs.Reading.{in_reach, plain, NoMinus, read_number}
use Rattle.r1.specs.Reading as latitudes
use Rattle.s1.specs.Circle as circle
use Rattle.s1.specs.Reading as longitudes
use Rattle.s2.specs.declared.latlng.LatLng.{LatLng}
use Rattle.s2.specs.declared.rect.Rect.{Rect}
use Rattle.s2.specs.Zone.{valid_latitudes, like_parts, is_lat_lng}

-- a rectangle as it is read: each number with negative zero as zero
unfoldable pub as_read : Rect → Rect
as_read r = record { lat = latitudes.plain_ends r.lat; lng = longitudes.plain_ends r.lng }

-- and a point, or margins
abbrev pub plain_point : LatLng → LatLng
plain_point p = record { lat = plain p.lat; lng = plain p.lng }

-- no number is negative zero: of a rectangle, and of a point
abbrev pub NoMinusRect : Rect → Type 0
NoMinusRect r = latitudes.NoMinusEnds r.lat × longitudes.NoMinusEnds r.lng

abbrev pub NoMinusPoint : LatLng → Type 0
NoMinusPoint p = NoMinus p.lat × NoMinus p.lng

-- all four numbers are in reach
unfoldable pub rect_in_reach : Rect → Bool
rect_in_reach r = in_reach r.lat.lo && in_reach r.lat.hi && in_reach r.lng.lo && in_reach r.lng.hi

-- why a rectangle whose numbers are in reach is not valid, or 0
unfoldable pub fault_of : Rect → ℕ
fault_of r = first_fault (valid_latitudes r.lat) (circle.is_valid r.lng) (like_parts r)

-- a rectangle as it is read, and the refusal number that it is read under
pub record One : Type 0 where
  pub refusal : ℕ
  pub value : Rect

-- two rectangles
pub record Two : Type 0 where
  pub refusal : ℕ
  pub left : Rect
  pub right : Rect

-- a point, or two margins
pub record Pair : Type 0 where
  pub refusal : ℕ
  pub value : LatLng

-- a rectangle and a point, or two margins
pub record With : Type 0 where
  pub refusal : ℕ
  pub value : Rect
  pub beside : LatLng

unfoldable pub read_one : Rect → One
read_one r = record { refusal = cond (rect_in_reach r) (fault_of r) (number out_of_reach); value = as_read r }

unfoldable pub read_two : Rect → Rect → Two
read_two r o = record { refusal = first_refusal (read_one r).refusal (read_one o).refusal; left = (read_one r).value; right = (read_one o).value }

unfoldable pub read_point : LatLng → Pair
read_point p = record { refusal = cond (is_lat_lng p) (number accepted) (number bad_point); value = plain_point p }

unfoldable pub read_margins : LatLng → Pair
read_margins m =
    let x = read_number m.lat (number bad_margin) in
    let y = read_number m.lng (number bad_margin) in
    record { refusal = first_refusal x.refusal y.refusal; value = record { lat = x.value; lng = y.value } }

unfoldable pub read_with_point : Rect → LatLng → With
read_with_point r p = record { refusal = first_refusal (read_one r).refusal (read_point p).refusal; value = (read_one r).value; beside = (read_point p).value }

unfoldable pub read_with_margins : Rect → LatLng → With
read_with_margins r m =
    record { refusal = first_refusal (read_one r).refusal (read_margins m).refusal; value = (read_one r).value; beside = (read_margins m).value }
