-- `text::text::put_lines`: the lines of the pieces so far stand at the start. Assumes nothing.
use mathlib.Core.Path.{◌≡◌}
use Prim.Native.Nat.{◌*◌}
use lib.ListN.{take}
use Rattle.text.specs.Text.{lines_text}
use Rattle.text.specs.Inside.{onto}
use Rattle.text.proofs.text.put_lines.Given as goal

abbrev pub invariant-loop-i : goal.invariant-loop-i
invariant-loop-i l = l.out ≡ onto (lines_text (take (4 * l.i) l.list)) l.initial.out
