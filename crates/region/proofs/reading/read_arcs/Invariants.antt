-- `region::reading::read_arcs`: what was read so far is accepted; the arcs so far with those of the rest are all, of either kind, and so is the band met with
-- the rest's. Assumes nothing.
use mathlib.Core.Path.{◌≡◌}
use mathlib.Core.List.{◌++◌}
use Prim.Native.Nat.{◌*◌, ◌≤◌}
use lib.ListN.{drop, take}
use Rattle.s1.specs.Circle.{FULL}
use Rattle.s2.specs.Zone.{LATITUDES}
use Rattle.lists.specs.Rects.{rects_of, as_read_all}
use Rattle.lists.specs.Refused.{first_refused}
use Rattle.arcs.specs.Kinds.{risen, crossing}
use Rattle.region.specs.Region.{band_from, lngs}
use Rattle.region.proofs.Turns.{arcs_from}
use Rattle.region.proofs.reading.read_arcs.Given as goal

abbrev pub invariant-loop-i : goal.invariant-loop-i
invariant-loop-i l = (risen l.lng (arcs_from l.list (4 * l.i)) ≡ risen FULL (lngs (as_read_all (rects_of l.list))))
    × (take l.count l.arcs ++ crossing (arcs_from l.list (4 * l.i)) ≡ crossing (lngs (as_read_all (rects_of l.list))))
    × (band_from l.lat (as_read_all (rects_of (drop (4 * l.i) l.list))) ≡ band_from LATITUDES (as_read_all (rects_of l.list)))
    × (first_refused (rects_of l.list) ≡ first_refused (rects_of (drop (4 * l.i) l.list)))
    × (l.count ≤ l.i)
