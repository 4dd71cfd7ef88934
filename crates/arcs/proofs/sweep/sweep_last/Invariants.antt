-- `arcs::sweep::sweep_last`: the loop keeps that the front and the piece after it still have to be clipped by the arcs that are left. A turn is in
-- proofs/Lasts.antt. Assumes nothing.
use Rattle.arcs.specs.Inside.{IsSwept}
use Rattle.arcs.proofs.sweep.sweep_last.Given as goal

abbrev pub invariant-loop-k : goal.invariant-loop-k
invariant-loop-k l = IsSwept l.arcs l.initial.x (record { k = l.k; f = l.f; b = l.b; x = l.x }) l.pieces
