-- `growth::growth::grow`: each return is what proofs/Made.antt has of the start and of the calls. Assumes nothing.
use mathlib.Core.Path.{refl, sym}
use Rattle.growth.proofs.Made.{growing, grow-bad, grow-good}
use Rattle.growth.proofs.growth.grow.Goals as goal

pub calls-after-requires : goal.calls-after-requires
calls-after-requires c = growing c.in_ok-start.ensures refl

pub returns-then-after-ne0 : goal.returns-then-after-ne0
returns-then-after-ne0 c = sym (grow-bad c.in_ok-start.ensures refl c.calls-after.ensures c.if-after-ne0.true)

pub returns : goal.returns
returns c = sym (grow-good c.in_ok-start.ensures refl c.calls-after.ensures c.if-after-ne0.false)
