-- Rectangles over places, in document 01's words: a place is a latitude double in [-PI/2, PI/2] and a longitude place, and at a pole each longitude is a
-- place by itself. A rectangle holds the places whose latitude its line interval holds and whose longitude place its circle interval holds.
-- Definitions only; the laws are in proofs/Places.antt.
use Rattle.std.specs.Prelude.{◌≡◌, Bool, true, false, ◌&&◌, ◌||◌, ◌⊎◌, Float}
use Rattle.std.specs.Float.{binary64}
use Rattle.std.specs.Float.Ieee.{fits, eq}
use Rattle.consts.specs.Reading.{in_reach, plain}
use Rattle.r1.specs.Places.{holds as lat_holds, InReach as LatReach}
use Rattle.s1.specs.Circle.{seam}
use Rattle.s1.specs.Places.{Place as LngPlace, Valid as LngValid, holds as lng_holds}
use Rattle.s2.specs.declared.latlng.LatLng.{LatLng}
use Rattle.s2.specs.declared.place.Place.{Place}
use Rattle.s2.specs.declared.rect.Rect.{Rect}
use Rattle.s2.specs.Reading.{as_read}
use Rattle.s2.specs.Zone.{NORTH, SOUTH, latitude, is_valid, is_lat_lng}

-- a record is a place: its latitude is a double from pole to pole, its longitude place one of the circle's
pub record IsPlace (p : Place) : Type 0 where
  pub is-double : fits binary64 p.lat ≡ true
  pub is-latitude : latitude p.lat ≡ true
  pub lng-place : LngPlace p.lng p.gap

abbrev pub place_at : Float → Float → Bool → Place
place_at x at gap = record { lat = x; lng = at; gap = gap }

-- the place of a point: -PI is the place PI
abbrev pub place_of : LatLng → Place
place_of p = place_at p.lat (seam p.lng) false

-- the place lies at a pole
abbrev pub at_pole : Place → Bool
at_pole p = eq p.lat SOUTH || eq p.lat NORTH

-- the rectangle holds the place
abbrev pub holds : Rect → Place → Bool
holds r p = lat_holds r.lat p.lat && lng_holds r.lng p.lng p.gap

-- ---- within the limits
-- the numbers that a program hands in are doubles
pub record Doubles (r : Rect) : Type 0 where
  pub lat-lo : fits binary64 r.lat.lo ≡ true
  pub lat-hi : fits binary64 r.lat.hi ≡ true
  pub lng-lo : fits binary64 r.lng.lo ≡ true
  pub lng-hi : fits binary64 r.lng.hi ≡ true

pub record DoublePoint (p : LatLng) : Type 0 where
  pub lat-double : fits binary64 p.lat ≡ true
  pub lng-double : fits binary64 p.lng ≡ true

-- a valid rectangle of doubles in reach
pub record Valid (r : Rect) : Type 0 where
  pub lat-reach : LatReach r.lat
  pub lng-valid : LngValid r.lng
  pub is-valid : is_valid r ≡ true

-- a valid point of doubles
pub record ValidPoint (p : LatLng) : Type 0 where
  pub lat-double : fits binary64 p.lat ≡ true
  pub lng-double : fits binary64 p.lng ≡ true
  pub is-valid : is_lat_lng p ≡ true

-- margins, sizes or errors of doubles in reach
pub record Margins (m : LatLng) : Type 0 where
  pub lat-double : fits binary64 m.lat ≡ true
  pub lng-double : fits binary64 m.lng ≡ true
  pub lat-in-reach : in_reach m.lat ≡ true
  pub lng-in-reach : in_reach m.lng ≡ true

-- ---- over places
-- r holds each place that o holds
abbrev pub Inside : Rect → Rect → Type 0
Inside r o = (p : Place) → IsPlace p → holds o p ≡ true → holds r p ≡ true

-- some place is held by both
abbrev pub Meets : Rect → Rect → Type 0
Meets r o = (p : Place) × IsPlace p × (holds r p ≡ true) × (holds o p ≡ true)

-- no place is held, or every place is
abbrev pub Nothing : Rect → Type 0
Nothing r = (p : Place) → IsPlace p → holds r p ≡ true → ⊥

abbrev pub Everything : Rect → Type 0
Everything r = (p : Place) → IsPlace p → holds r p ≡ true

-- one place is held and no other: it is a double's and no gap. (Zeros of either sign are one number.)
pub record Single (r : Rect) : Type 0 where
  pub place : Place
  pub is-place : IsPlace place
  pub no_gap : place.gap ≡ false
  pub held : holds r place ≡ true
  pub only : (p : Place) → IsPlace p → holds r p ≡ true → (eq p.lat place.lat ≡ true) × (eq p.lng place.lng ≡ true) × (p.gap ≡ false)

-- what growth by a point makes of a start: each edge is that edge of the start or a coordinate of the point
pub record Edges (start grown : Rect) (p : LatLng) : Type 0 where
  pub south : (grown.lat.lo ≡ (as_read start).lat.lo) ⊎ (grown.lat.lo ≡ plain p.lat)
  pub north : (grown.lat.hi ≡ (as_read start).lat.hi) ⊎ (grown.lat.hi ≡ plain p.lat)
  pub west : (grown.lng.lo ≡ (as_read start).lng.lo) ⊎ (grown.lng.lo ≡ seam (plain p.lng))
  pub east : (grown.lng.hi ≡ (as_read start).lng.hi) ⊎ (grown.lng.hi ≡ seam (plain p.lng))
