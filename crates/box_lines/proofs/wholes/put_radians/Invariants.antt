-- `box_lines::wholes::put_radians`: the radians of the whole numbers so far are there. Assumes nothing.
use mathlib.Core.Path.{◌≡◌}
use lib.ListN.{take}
use Rattle.box_lines.specs.Answers.{in_radians}
use Rattle.box_lines.proofs.wholes.put_radians.Given as goal

abbrev pub invariant-loop-w : goal.invariant-loop-w
invariant-loop-w l = l.x.items ≡ in_radians (take l.w-index l.list)
