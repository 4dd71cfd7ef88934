-- Devices of the code: contracts of private functions cite them, and nothing here needs to be believed to read what the operations answer.
use Rattle.std.specs.Prelude.{Bool, ◌&&◌}
use Rattle.std.specs.Float.Ieee.{lt, le}
use Rattle.consts.specs.Constants.{PI, NEG-PI}
use Rattle.s2.specs.declared.rect.Rect.{Rect}
use Rattle.s2.specs.Zone.{NORTH, SOUTH}

-- the latitudes rise from pole to pole, and no end of the longitudes is -PI: enough to be valid and in reach (proofs/Readings.antt, `usual-valid`)
unfoldable pub usual : Rect → Bool
usual r =
    le SOUTH r.lat.lo && le r.lat.lo r.lat.hi && le r.lat.hi NORTH
    && lt NEG-PI r.lng.lo && le r.lng.lo PI && lt NEG-PI r.lng.hi && le r.lng.hi PI
