-- `ask::parse::decimal`: no number that is read has more than 18 digits. Assumes nothing.
use Rattle.std.proofs.Common.{◌<◌}
use Rattle.ask.proofs.parse.decimal.Given as goal

abbrev pub invariant-loop-b : goal.invariant-loop-b
invariant-loop-b l = l.n < 1000000000000000000
