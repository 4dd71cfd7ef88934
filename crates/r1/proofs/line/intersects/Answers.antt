-- `r1::line::intersects`: at each return the answer is the definition's, under the tests that led there. Assumes nothing.
use mathlib.Core.Path.{◌≡◌}
use mathlib.Core.Bool.{true, false}
use Rattle.r1.specs.Line.{intersects}
use lib.Ieee.{le}
use Rattle.r1.proofs.line.intersects.Goals as goal

pub returns-then-i-oi : goal.returns-then-i-oi
unfolding intersects
returns-then-i-oi c =
    let a = c.args in
    let h : le a.i.lo a.oi.lo ≡ true = c.if-i-oi.true in
    simp h

pub returns-else-i-oi : goal.returns-else-i-oi
unfolding intersects
returns-else-i-oi c =
    let a = c.args in
    let h : le a.i.lo a.oi.lo ≡ false = c.if-i-oi.false in
    simp h
