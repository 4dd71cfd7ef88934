-- `growth::calls::beyond`: the loop keeps that the points passed over change nothing and none of them is refused. One more is passed over by
-- proofs/Held.antt, `held-turn`. Assumes nothing.
use Rattle.growth.specs.Devices.{Passed}
use Rattle.growth.proofs.calls.beyond.Given as goal

abbrev pub invariant-loop-k : goal.invariant-loop-k
invariant-loop-k l = Passed l.points l.initial.left l.q l.left
