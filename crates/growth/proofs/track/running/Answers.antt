-- `growth::track::running`: each return is what proofs/Made.antt has of the start and of the calls. Assumes nothing.
use mathlib.Core.Path.{refl, sym}
use borrow.Author.Tests.{eq-eqb, ne_eqb}
use Rattle.growth.proofs.Made.{growing, few, ran-made}
use Rattle.growth.proofs.track.running.Goals as goal

pub calls-after-requires : goal.calls-after-requires
calls-after-requires c = growing c.in_ok-first.ensures refl

pub overflow_sub-accepted : goal.overflow_sub-accepted
overflow_sub-accepted c = few c.in_ok-first.ensures refl c.calls-after.ensures

pub returns-then-accepted-eq0 : goal.returns-then-accepted-eq0
returns-then-accepted-eq0 c = sym (ran-made c.in_ok-first.ensures refl c.calls-after.ensures c.args.start (simp (eq-eqb _ 0 c.if-accepted-eq0.true)))

pub returns-else-accepted-eq0 : goal.returns-else-accepted-eq0
returns-else-accepted-eq0 c = sym (ran-made c.in_ok-first.ensures refl c.calls-after.ensures _ (simp (ne_eqb _ 0 c.if-accepted-eq0.false)))
