-- `arcs::clip::put`: the loop keeps that the pieces before the place at hand, with what is still to be put among the rest, are the pieces
-- with the new one in its place. A turn is in proofs/Insertion.antt. Assumes nothing.
use mathlib.Core.Path.{◌≡◌}
use mathlib.Core.List.{◌++◌}
use lib.ListN.{drop, take}
use Rattle.arcs.specs.Clipping.{insert}
use Rattle.arcs.proofs.Insertion.{walk}
use Rattle.arcs.proofs.clip.put.Given as goal

abbrev pub invariant-loop-i : goal.invariant-loop-i
invariant-loop-i l = take l.i l.pieces ++ walk l.moved l.c (drop l.i (take l.n l.pieces)) ≡ insert l.initial.c (take l.n l.initial.pieces)
