-- `cases::CasesIterator::next`: what `first` says of its case, and that what is left is shorter. Assumes nothing.
use Rattle.std.proofs.Common.{rules, ◌<◌, ◌+◌, ◌∙◌, refl, length, ap, sym, arith}
use Rattle.std.proofs.lemmas.List.{length-drop}
use Rattle.cases.specs.Cases.{case_of}
use Rattle.cases.proofs.CasesIterator.next.Goals as goal

pub returns-in_err-case-clause-steps : goal.returns-in_err-case-clause-steps
unfolding case_of
returns-in_err-case-clause-steps c = rw c.from_residual.ensures (sym (c.in_err-case.ensures.value), refl)

pub returns-clause-steps : goal.returns-clause-steps
unfolding case_of
returns-clause-steps c =
    let e = c.in_ok-case.ensures.value in
    (sym (ap (λ p. p.bytes) e) ∙ ap (λ p. p.line + 1) e, ap (λ p. p.sort) e, c.in_ok-case.ensures.lent)

pub returns-clause-goes : goal.returns-clause-goes
unfolding case_of
returns-clause-goes c =
    let s = c.args.self.now.0.now in
    let e = ap (λ p. p.end) c.in_ok-case.ensures.value in
    let shorter : length c.in_ok-case.rest.now < length s =
    rw c.in_ok-case.ensures.lent.2 (simp length-drop (omega (arith, e, c.in_ok-case.ensures.lies))) in
    search rules
