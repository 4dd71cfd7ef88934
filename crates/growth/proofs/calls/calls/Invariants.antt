-- `growth::calls::calls`: the loop keeps that the calls so far with those that are left come to the whole (specs/Devices.antt, `SoFar`). The turns are in
-- proofs/Turns.antt; points that are held already are passed over by `beyond`. Assumes nothing.
use mathlib.Core.Path.{◌≡◌}
use Prim.Native.Nat.{◌*◌, ◌-◌, ◌/◌}
use lib.ListN.{length}
use Rattle.growth.specs.Devices.{SoFar}
use Rattle.growth.proofs.calls.calls.Given as goal

abbrev pub invariant-loop-k : goal.invariant-loop-k
invariant-loop-k l = SoFar l.points l.initial.q l.q l.refused (2 * l.left.start) × (l.left.end ≡ length l.points / 2)

abbrev pub decreases-loop-k : goal.decreases-loop-k
decreases-loop-k l = l.left.end - l.left.start
