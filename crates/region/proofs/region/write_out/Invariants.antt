-- `region::region::write_out`: the loop keeps that the output is the numbers of the pieces so far, and behind them what came in. A turn is in
-- proofs/Written.antt. Assumes nothing.
use mathlib.Core.Path.{◌≡◌}
use mathlib.Core.List.{◌++◌}
use Prim.Native.Nat.{◌*◌}
use lib.ListN.{drop, take}
use Rattle.region.specs.Region.{across}
use Rattle.lists.specs.Rects.{numbers_of}
use Rattle.region.proofs.region.write_out.Given as goal

abbrev pub invariant-loop-k : goal.invariant-loop-k
invariant-loop-k l = l.out ≡ numbers_of (across l.b (take l.k l.pieces)) ++ drop (4 * l.k) l.initial.out
