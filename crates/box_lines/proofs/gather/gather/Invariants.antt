-- `box_lines::gather::gather`: the boxes of the lines read so far are held, and the rest of the text is still to be read (`Held`), of which `left` counts the
-- bytes. The lines so far and those that may still be taken are as many as could be taken at first. Assumes nothing.
use mathlib.Core.Path.{◌≡◌}
use Prim.Native.Nat.{◌+◌}
use lib.ListN.{length}
use Rattle.std.specs.Slice.Iter.{split_inclusive_rest}
use Rattle.std.specs.Iterator.Adapters.{enumerate_source, enumerate_count, take_source, take_count}
use Rattle.box_lines.proofs.Held.{Held}
use Rattle.box_lines.proofs.gather.gather.Given as goal

abbrev pub invariant-loop-k : goal.invariant-loop-k
invariant-loop-k l =
    Held l.s l.list.items (split_inclusive_rest (take_source (enumerate_source l.k-iterator))) (enumerate_count l.k-iterator)
    × (enumerate_count l.k-iterator + take_count (enumerate_source l.k-iterator) ≡ take_count (enumerate_source l.initial.k-iterator))
    × (l.left ≡ length (split_inclusive_rest (take_source (enumerate_source l.k-iterator))))
