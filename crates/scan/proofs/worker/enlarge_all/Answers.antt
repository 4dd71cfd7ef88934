-- `scan::worker::enlarge_all`: what growth gives is stored (proofs/Boxes.antt). Assumes nothing.
use mathlib.Core.Path.{sym, ap}
use Rattle.s2.specs.declared.rect.Answer.{Answer}
use Rattle.scan.proofs.Boxes.{list_in}
use Rattle.scan.proofs.worker.enlarge_all.Goals as goal

pub returns : goal.returns
returns c =
    let e = list_in c.args.b.now c.args.points.now c.in_ok-b.field-0 c.in_ok-b.ensures in
    (sym (ap (λ (a : Answer). a.refusal) e), sym (ap (λ (a : Answer). a.value) e))
