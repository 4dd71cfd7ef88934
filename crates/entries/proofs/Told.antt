-- No two first faults, nor a fault and none, are told alike. Assumes nothing.
use mathlib.Core.Path.{◌≡◌, refl, sym, ap, ◌∙◌}
use Rattle.std.specs.Prelude.{Option, None, Some}
use Rattle.consts.specs.Refusal.{code}
use Rattle.consts.proofs.Codes.{refuses, same_code}
use Rattle.entries.specs.declared.records.Fault.{Fault}
use Rattle.entries.specs.First.{First, told}

pub told_once : (x y : Option Fault) → told x ≡ told y → x ≡ y
told_once None None e = refl
told_once None (Some g) e = absurd (refuses g.refusal (sym (ap (λ (a : First). a.refusal) e)))
told_once (Some f) None e = absurd (refuses f.refusal (ap (λ (a : First). a.refusal) e))
told_once (Some f) (Some g) e =
    ap Some (λ i. record { refusal = same_code f.refusal g.refusal (ap (λ (a : First). a.refusal) e) i; entry = ap (λ (a : First). a.entry) e i })
