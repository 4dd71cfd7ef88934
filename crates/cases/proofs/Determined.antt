-- No two results stand for one case: two that meet the contract of `first` for the same bytes are both none, or have the same sort, label, bytes and rest.
-- So are two of `next`, and what is left after them. By the definitions' own cases. Assumes nothing.
use mathlib.Core.Path.{◌≡◌, refl, sym, ap, ◌∙◌}
use mathlib.Core.List.{List}
use Prim.Native.Nat.{ℕ, ◌+◌}
use native.Mathlib.Omega.{arith}
use lib.ListN.{length}
use denote.Ref.{Bor}
use Rattle.std.specs.Prelude.{Option, None, Some, IfSome, IsSomeAnd, MatchOption}
use Rattle.cases.specs.declared.Case.{Case}
use Rattle.cases.specs.Cases.{Places, no_case, first_case, case_of, IsCut, StepsCase}

-- a case that is there is not none: its bytes start behind its line
not_none : (n : ℕ) (p : Places) → p ≡ no_case n → p.bytes ≡ p.line + 1 → ⊥
unfolding no_case
not_none n p e b = omega (arith, ap (λ (q : Places). q.bytes) e, ap (λ (q : Places). q.line) e, b)

-- two cases with the same sort, label and bytes
abbrev pub SameCase : Case → Case → Type 0
SameCase c d = (c.sort ≡ d.sort) × (c.label.now ≡ d.label.now) × (c.bytes.now ≡ d.bytes.now)

pub first_once : (s : List ℕ) (x y : Option (Case × Bor (List ℕ)))
    → case_of s x ≡ first_case s → IfSome x (λ r. IsCut s (first_case s) r.0.label.now r.0.bytes.now r.1.now)
    → case_of s y ≡ first_case s → IfSome y (λ r. IsCut s (first_case s) r.0.label.now r.0.bytes.now r.1.now)
    → MatchOption x (y ≡ None) (λ p. IsSomeAnd y (λ q. SameCase p.0 q.0 × (p.1.now ≡ q.1.now)))
unfolding case_of
first_once s None None e l f m = refl
first_once s None (Some q) e l f m = absurd (not_none (length s) (first_case s) (sym e) (sym (ap (λ (p : Places). p.bytes) f) ∙ ap (λ (p : Places). p.line + 1) f))
first_once s (Some p) None e l f m = absurd (not_none (length s) (first_case s) (sym f) (sym (ap (λ (p : Places). p.bytes) e) ∙ ap (λ (p : Places). p.line + 1) e))
first_once s (Some p) (Some q) e l f m =
    ((ap (λ (p : Places). p.sort) e ∙ sym (ap (λ (p : Places). p.sort) f), l.0 ∙ sym m.0, l.1 ∙ sym m.1), l.2 ∙ sym m.2)

pub next_once : (s t u : List ℕ) (x y : Option Case) → StepsCase s x t → StepsCase s y u
    → (t ≡ u) × MatchOption x (y ≡ None) (λ c. IsSomeAnd y (λ d. SameCase c d))
next_once s t u None None a b = (a.1 ∙ sym b.1, refl)
next_once s t u None (Some d) a b = absurd (not_none (length s) (first_case s) a.0 b.0)
next_once s t u (Some c) None a b = absurd (not_none (length s) (first_case s) b.0 a.0)
next_once s t u (Some c) (Some d) a b = (a.2.2 ∙ sym b.2.2, (a.1 ∙ sym b.1, a.2.0 ∙ sym b.2.0, a.2.1 ∙ sym b.2.1))
