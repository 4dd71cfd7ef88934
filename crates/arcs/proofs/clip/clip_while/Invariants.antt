-- `arcs::clip::clip_while`: the pieces so far, clipped by the arcs that are left, are those of all arcs. Assumes nothing.
use mathlib.Core.Path.{◌≡◌}
use Prim.Native.Nat.{◌+◌, ◌≤◌}
use lib.ListN.{drop, take}
use Rattle.arcs.specs.Clipping.{steps}
use Rattle.arcs.proofs.clip.clip_while.Given as goal

abbrev pub invariant-loop-a : goal.invariant-loop-a
invariant-loop-a l = (steps (take l.n l.pieces) (drop l.a-index l.arcs) ≡ steps (take l.m l.initial.pieces) l.arcs) × (l.n ≤ l.m + l.a-index)
