-- What holds of the common pieces of arcs that have been read: the list that clipping finds is the one and only such list; n arcs, n at least 1, have at most
-- n; the order of the arcs changes nothing; and nothing is lost where they are handed over as two kinds. Assumes nothing.
use mathlib.Core.Path.{◌≡◌, sym, subst}
use mathlib.Core.List.{List}
use mathlib.Core.Logic.{◌↔◌}
use Prim.Native.Nat.{◌≤◌}
use lib.ListN.{length}
use Rattle.s1.specs.declared.interval.Interval.{Interval}
use Rattle.s1.specs.Circle.{FULL}
use Rattle.arcs.specs.CommonArcs.{AreRead, CommonArcs}
use Rattle.arcs.specs.Clipping.{common}
use Rattle.arcs.specs.Kinds.{risen, crossing, met}
use Rattle.arcs.proofs.Clipping.{common-is, common-few}
use Rattle.arcs.proofs.Unique.{unique}
use Rattle.arcs.proofs.Rising as rising

-- the list found is the common pieces, and no other list is
pub found-exactly : (arcs found : List Interval) → AreRead arcs → CommonArcs arcs found ↔ (found ≡ common arcs)
found-exactly arcs found a = (
  λ c. unique arcs found (common arcs) c (common-is arcs a.valid a.plain),
  λ e. subst (λ (l : List Interval). CommonArcs arcs l) (sym e) (common-is arcs a.valid a.plain),
)

-- at most n
pub at_most : (arcs : List Interval) → AreRead arcs → 1 ≤ length arcs → length (common arcs) ≤ length arcs
at_most arcs a = common-few arcs a.valid

-- the two kinds have in common what all have
pub two-kinds : (arcs : List Interval) → AreRead arcs → met (risen FULL arcs) (crossing arcs) ≡ common arcs
two-kinds = rising.met-kinds
