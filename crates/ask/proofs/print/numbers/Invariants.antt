-- `ask::print::numbers`: each number takes 17 bytes. Assumes nothing.
use Rattle.std.proofs.Common.{◌*◌}
use Rattle.ask.specs.Room.{LongerBy}
use Rattle.ask.proofs.print.numbers.Given as goal

abbrev pub invariant-loop-v : goal.invariant-loop-v
invariant-loop-v l = LongerBy l.fn.out l.out (17 * l.v-index)
