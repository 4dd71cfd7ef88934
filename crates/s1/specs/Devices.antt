-- Devices of the code, which no answer depends on: nothing here needs to be believed. The contract of a private function cites it, and
-- proofs/Readings.antt has what it is good for.
use Rattle.std.specs.Prelude.{Bool, ◌&&◌}
use Rattle.std.specs.Float.Ieee.{lt, le}
use Rattle.consts.specs.Constants.{PI, NEG-PI}
use Rattle.s1.specs.declared.interval.Interval.{Interval}

-- both ends are of size at most PI, and neither is -PI: enough to be valid (`usual-valid`)
unfoldable pub usual : Interval → Bool
usual i = lt NEG-PI i.lo && le i.lo PI && lt NEG-PI i.hi && le i.hi PI
