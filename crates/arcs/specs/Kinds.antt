-- Arcs of two kinds, as they are handed over. An arc that does not cross the seam rises: its western end is not above its eastern one. What such arcs have
-- in common is found by their ends alone. Those that cross the seam are kept as they are. Definitions only; that nothing is lost is proved in
-- proofs/Laws.antt.
use Rattle.std.specs.Prelude.{Bool, cond, List, [], ◌∷◌}
use Rattle.std.specs.Float.Ieee.{le}
use Rattle.order.specs.Choice.{min, max}
use Rattle.s1.specs.declared.interval.Interval.{Interval}
use Rattle.s1.specs.Circle.{ends}
use Rattle.arcs.specs.Clipping.{common}

unfoldable pub rises : Interval → Bool
rises i = le i.lo i.hi

-- what two arcs that rise have in common; nothing where it does not rise
unfoldable pub narrowed : Interval → Interval → Interval
narrowed x a = ends (max x.lo a.lo) (min x.hi a.hi)

-- what x and the arcs that rise have in common
unfoldable pub risen : Interval → List Interval → Interval
risen x [] = x
risen x (a ∷ l) = risen (cond (rises a) (narrowed x a) x) l

-- the arcs that do not
unfoldable pub crossing : List Interval → List Interval
crossing [] = []
crossing (a ∷ l) = cond (rises a) (crossing l) (a ∷ crossing l)

-- the common pieces of x, where it rises, and the arcs of l
unfoldable pub met : Interval → List Interval → List Interval
met x l = cond (rises x) (common (x ∷ l)) []
