-- `bbox::number::turns`: the run is what so many turns have made of the first. Assumes nothing.
use mathlib.Core.Path.{◌≡◌}
use Rattle.bbox.specs.Reading.{turns_of}
use Rattle.bbox.proofs.number.turns.Given as goal

abbrev pub invariant-loop : goal.invariant-loop
invariant-loop l = l.run ≡ turns_of l.counter l.pad l.s l.initial.run
