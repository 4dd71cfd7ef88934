-- `region::finding::find`: the arcs are read as two kinds and met; what they have in common is what all have (proofs/Findings.antt). Assumes nothing.
use mathlib.Core.Path.{sym, ◌∙◌}
use native.Mathlib.Omega.{arith}
use lib.ListN.{take}
use lib.Seq.{length-take-le}
use Rattle.arcs.proofs.Turns.{room-is}
use Rattle.region.proofs.Findings.{none_found, some-found, both_read}
use Rattle.region.proofs.finding.find.Goals as goal

pub returns-then-is_empty-clause-found : goal.returns-then-is_empty-clause-found
returns-then-is_empty-clause-found c =
    let l = c.args.list.now in
    let a = c.in_ok-a.ensures in
    record { is = none_found l c.in_ok-a.a _ a.found (sym a.refusal) (sym c.is_empty.ensures ∙ c.if-is_empty.true); few = omega arith }

pub returns-clause-found : goal.returns-clause-found
returns-clause-found c =
    let w = c.args in
    let p = c.requires in
    let a = c.in_ok-a.a in
    let arcs = c.read_arcs.new.arcs in
    let d = c.in_ok-a.ensures.found in
    let r = sym c.in_ok-a.ensures.refusal in
    let m = c.meet-count.ensures in
    let n = length-take-le a.count arcs (omega (arith, d.few, p.arcs-room, c.read_arcs.auto.arcs)) in
    let yes = room-is (take a.count arcs) w.pieces.now (omega (arith, n, d.few, p.most)) (omega (arith, n, d.few, p.pieces-room)) in
    let e = sym c.is_empty.ensures ∙ c.if-is_empty.false in
    record {
      is = some-found w.list.now a arcs d r c.type_inv.list e _ (m.found yes (λ u. both_read w.list.now a arcs d r c.type_inv.list));
      few = omega (arith, m.few yes, n, d.few);
    }
