-- `scan::worker::enlarge`: what growth gives is stored (proofs/Boxes.antt). Assumes nothing.
use mathlib.Core.Path.{sym, ap}
use Rattle.s2.specs.declared.rect.Answer.{Answer}
use Rattle.s2.specs.Zone.{at}
use Rattle.scan.proofs.Boxes.{point_in}
use Rattle.scan.proofs.worker.enlarge.Goals as goal

pub returns : goal.returns
returns c =
    let e = point_in c.args.b.now (at c.args.lat c.args.lng) c.in_ok-b.field-0 c.in_ok-b.ensures in
    (sym (ap (λ (a : Answer). a.refusal) e), sym (ap (λ (a : Answer). a.value) e))
