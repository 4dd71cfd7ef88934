-- `box_lines::answer::put_lines`: the lines of the pieces so far are made (`Made`). Assumes nothing.
use mathlib.Core.Path.{◌≡◌}
use Rattle.std.specs.Slice.Iter.{chunks_exact_rest, chunks_exact_size}
use Rattle.box_lines.proofs.Lined.{Made}
use Rattle.box_lines.proofs.answer.put_lines.Given as goal

abbrev pub invariant-loop-piece : goal.invariant-loop-piece
invariant-loop-piece l =
    Made l.edges.wholes.now l.pieces l.t.items (chunks_exact_rest l.piece-iterator) × (chunks_exact_size l.piece-iterator ≡ 4)
