-- Lists of points as lists of numbers, latitude then longitude each, and the way back. Definitions only; that either way undoes the other is in
-- proofs/PointLists.antt.
use Rattle.std.specs.Prelude.{List, [], ◌∷◌, ℕ, ◌+◌, get_or, Float}
use Rattle.std.specs.Float.{nan}
use Rattle.s2.specs.declared.latlng.LatLng.{LatLng}
use Rattle.s2.specs.Zone.{at}

-- the points in a list of numbers; one number at the end is none
unfoldable pub points_of : List Float → List LatLng
points_of [] = []
points_of (a ∷ []) = []
points_of (a ∷ (b ∷ l)) = at a b ∷ points_of l

-- the one that starts at the number i; past the end there is no number
abbrev pub point_at : List Float → ℕ → LatLng
point_at l i = at (get_or l i nan) (get_or l (i + 1) nan)

-- the same way back
unfoldable pub lat_lngs_of : List LatLng → List Float
lat_lngs_of [] = []
lat_lngs_of (p ∷ l) = p.lat ∷ (p.lng ∷ lat_lngs_of l)
