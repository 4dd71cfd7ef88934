-- `arcs::sweep::spared`: settled pieces, clipped by the arcs that are left, are those clipped by all. A turn is in proofs/Lasts.antt. Assumes nothing.
use Rattle.arcs.specs.Inside.{Skipped}
use Rattle.arcs.proofs.sweep.spared.Given as goal

abbrev pub invariant-loop-k : goal.invariant-loop-k
invariant-loop-k l = Skipped l.arcs l.last l.k
