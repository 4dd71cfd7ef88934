-- `stream::gather::gather`: the list holds the numbers of the records read so far, and the rest of the stream is still to be read (`Held`). Assumes nothing.
use mathlib.Core.Path.{◌≡◌}
use lib.ListN.{length}
use Rattle.stream.proofs.Streams.{Held}
use Rattle.stream.proofs.gather.gather.Given as goal

abbrev pub invariant-loop-entry : goal.invariant-loop-entry
invariant-loop-entry l = Held l.s l.list l.entry × (length l.list ≡ 2048)
