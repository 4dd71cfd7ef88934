-- A box: west, south, east, north in whole ten-millionths of a degree. Which four numbers are within the limits, where -180 is read as 180, and which
-- boxes reading can give. Definitions only; the laws are in proofs/Boxes.antt.
use Rattle.std.specs.Prelude.{Bool, ◌&&◌, ◌||◌, not, cond, ℕ, ℤ, pos, neg_ℤ}
use Rattle.std.specs.Int.Signed.{le_z}
use Rattle.bounds.specs.declared.bounds.Bounds.{Bounds}

-- 180 and 90 degrees
abbrev pub HALF : ℕ
HALF = 1800000000

abbrev pub QUARTER : ℕ
QUARTER = 900000000

-- a number of size at most the limit
unfoldable pub within : ℕ → ℤ → Bool
within limit z = le_z (neg_ℤ (pos limit)) z && le_z z (pos limit)

-- every number is within its limit, and the south is not above the north
unfoldable pub in_limits : Bounds → Bool
in_limits b = within HALF b.west && within QUARTER b.south && within HALF b.east && within QUARTER b.north && le_z b.south b.north

-- ---- the seam, for numbers within the limits
-- it is -180, it is 180
unfoldable pub is_westmost : ℤ → Bool
is_westmost z = le_z z (neg_ℤ (pos HALF))

unfoldable pub is_eastmost : ℤ → Bool
is_eastmost z = le_z (pos HALF) z

-- from -180 to 180
unfoldable pub whole_circle : Bounds → Bool
whole_circle b = is_westmost b.west && is_eastmost b.east

-- -180 is read as 180
unfoldable pub seam_read : ℤ → ℤ
seam_read z = cond (is_westmost z) (pos HALF) z

-- only -180 with 180 is the whole circle, and every other -180 is read as 180
unfoldable pub placed : Bounds → Bounds
placed b = cond (whole_circle b) b (record { west = seam_read b.west; south = b.south; east = seam_read b.east; north = b.north })

-- the boxes that reading can give: -180 stands only in the whole circle
unfoldable pub settled : Bounds → Bool
settled b = whole_circle b || (not (is_westmost b.west) && not (is_westmost b.east))

unfoldable pub givable : Bounds → Bool
givable b = in_limits b && settled b
