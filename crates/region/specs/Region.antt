-- How the common region of rectangles that have been read is found: the common pieces of their longitudes, each with the common latitude band.
-- Definitions only; that this is the common region is proved in proofs/Listed.antt.
use Rattle.std.specs.Prelude.{cond, List, [], ◌∷◌}
use Rattle.arcs.specs.Clipping.{common}
use Rattle.r1.specs.declared.interval.Interval.{Interval as Line}
use Rattle.r1.specs.Line as line
use Rattle.s1.specs.declared.interval.Interval.{Interval as Circle}
use Rattle.s2.specs.declared.rect.Rect.{Rect}
use Rattle.s2.specs.Zone.{box, LATITUDES}

-- what the latitudes have in common with the band b
unfoldable pub band_from : Line → List Rect → Line
band_from b [] = b
band_from b (r ∷ l) = band_from (line.intersection b r.lat) l

-- the common latitude band
abbrev pub band : List Rect → Line
band rs = band_from LATITUDES rs

unfoldable pub lngs : List Rect → List Circle
lngs [] = []
lngs (r ∷ l) = r.lng ∷ lngs l

-- a rectangle for each longitude piece
unfoldable pub across : Line → List Circle → List Rect
across b [] = []
across b (i ∷ l) = box b i ∷ across b l

unfoldable pub region : List Rect → List Rect
region rs = cond (line.is_empty (band rs)) [] (across (band rs) (common (lngs rs)))
