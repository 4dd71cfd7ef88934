-- `cases::first`: at each return the case is the definition's, under the test that led there; where its parts lie follows. Assumes nothing.
use Rattle.std.proofs.Common.{◌≡◌, ◌<◌, List, ℕ, length, refl, sym, subst, arith, Option, None, Bor}
use Rattle.cases.specs.declared.Case.{Case}
use Rattle.cases.specs.Cases.{end_of, first_case, case_of, Lies}
use Rattle.cases.proofs.Laws.{lies, cut_short, handed-out, cut-out}
use Rattle.cases.proofs.first.Goals as goal

none : (s : List ℕ) → length s < end_of s → case_of s None ≡ first_case s
unfolding case_of
none s h = sym (cut_short s h)

placed : (s : List ℕ) (r : Option (Case × Bor (List ℕ))) → case_of s r ≡ first_case s → Lies (case_of s r) (length s)
placed s r e = subst (λ x. Lies x (length s)) (sym e) (lies s)

pub returns-then-s-le-LABEL-clause-value : goal.returns-then-s-le-LABEL-clause-value
unfolding end_of
returns-then-s-le-LABEL-clause-value c = none c.args.s.now (omega arith)

pub returns-then-s-le-LABEL-clause-lies : goal.returns-then-s-le-LABEL-clause-lies
returns-then-s-le-LABEL-clause-lies c = placed _ _ (returns-then-s-le-LABEL-clause-value c)

pub returns-then-s-end-clause-value : goal.returns-then-s-end-clause-value
unfolding end_of
returns-then-s-end-clause-value c = none c.args.s.now (omega (arith, c.six_at.ensures.value, c.two_at-line.ensures.value))

pub returns-then-s-end-clause-lies : goal.returns-then-s-end-clause-lies
returns-then-s-end-clause-lies c = placed _ _ (returns-then-s-end-clause-value c)

pub returns-clause-value : goal.returns-clause-value
returns-clause-value c =
    handed-out c.args.s.now _ _ _ _ c.two_at-line.ensures.value c.six_at.ensures.value (omega arith) refl refl refl

pub returns-clause-lies : goal.returns-clause-lies
returns-clause-lies c = placed _ _ (returns-clause-value c)

pub returns-clause-lent : goal.returns-clause-lent
returns-clause-lent c = cut-out c.args.s.now _ _ c.two_at-line.ensures.value c.six_at.ensures.value (omega arith)
