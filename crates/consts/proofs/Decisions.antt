-- A test's answer decides what its truth value is shown to be equivalent to. Assumes nothing.
use mathlib.Core.Path.{◌≡◌, sym, ap, ◌∙◌}
use mathlib.Core.Bool.{Bool, true}
use Rattle.consts.specs.declared.answer.YesNo.{YesNo}
use Rattle.consts.specs.Answer.{yes_no, Decides}

pub decides : {a : YesNo} {b : Bool} {P : Type 0} → a ≡ yes_no b → (b ≡ true → P) → (P → b ≡ true) → Decides a P
decides e f g = record { accept = ap (λ (y : YesNo). y.refusal) e; exactly = (λ h. f (sym (ap (λ (y : YesNo). y.value) e) ∙ h), λ p. ap (λ (y : YesNo). y.value) e ∙ g p) }
