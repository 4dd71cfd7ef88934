-- `bbox::number::turns`: the value is within its bound after each turn (`turns_within`). Assumes nothing.
use native.Mathlib.Omega.{arith}
use Rattle.bbox.proofs.Positions.{turns_within}
use Rattle.bbox.proofs.number.turns.Goals as goal

pub turn-run-requires : goal.turn-run-requires
turn-run-requires c =
    let a = c.args in
    omega (arith, turns_within c.loop.counter a.n a.pad a.s.now a.start c.loop.run c.loop.invariant (omega arith), c.requires)

pub returns-clause-value_bound : goal.returns-clause-value_bound
returns-clause-value_bound c =
    let a = c.args in
    turns_within c.loop.counter a.n a.pad a.s.now a.start c.loop.run c.loop.invariant (omega arith)
