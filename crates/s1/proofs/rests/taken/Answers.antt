-- `s1::rests::taken`: t goes once, or not at all. Assumes nothing.
use Rattle.s1.proofs.RestLaws.{left-small, left-off}
use Rattle.s1.proofs.rests.taken.Goals as goal

pub returns-then-r-t : goal.returns-then-r-t
returns-then-r-t c = left-small c.requires.divides c.if-r-t.true

pub returns-else-r-t : goal.returns-else-r-t
returns-else-r-t c = left-off c.requires.divides c.requires.less c.if-r-t.false
