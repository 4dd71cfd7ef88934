-- `arcs::clip::cut_all`: the loop keeps that the pieces written so far, with the cut of those still to come, are the cut of all; and
-- likewise the end. A turn is in proofs/Turns.antt. Assumes nothing.
use mathlib.Core.Path.{◌≡◌}
use mathlib.Core.List.{◌++◌}
use Prim.Native.Nat.{◌≤◌}
use lib.ListN.{drop, take}
use Rattle.std.proofs.Common.{None}
use Rattle.arcs.specs.Clipping.{cut}
use Rattle.arcs.specs.Inside.{end_found}
use Rattle.arcs.proofs.clip.cut_all.Given as goal

abbrev pub invariant-loop-k : goal.invariant-loop-k
invariant-loop-k l = (take l.n l.found ++ cut l.a (drop l.k l.found) ≡ cut l.a l.initial.found)
    × (end_found l.a.lo l.end (drop l.k l.found) ≡ end_found l.a.lo None l.initial.found)
    × (l.n ≤ l.k)
