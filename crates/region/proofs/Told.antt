-- No two results of `common_region` are told C alike. Assumes nothing.
use mathlib.Core.Path.{◌≡◌, refl, sym, ap, ◌∙◌}
use Prim.Native.Nat.{ℕ}
use Rattle.std.specs.Prelude.{Result, Ok, Err}
use Rattle.consts.proofs.Codes.{refuses, same_code}
use Rattle.entries.specs.declared.records.Fault.{Fault}
use Rattle.region.specs.declared.region.Pieces.{Pieces}
use Rattle.region.specs.Answers.{told_pieces}

pub told_once : (x y : Result ℕ Fault) → told_pieces x ≡ told_pieces y → x ≡ y
told_once (Ok m) (Ok n) e = ap Ok (ap (λ (a : Pieces). a.count) e)
told_once (Ok m) (Err g) e = absurd (refuses g.refusal (sym (ap (λ (a : Pieces). a.refusal) e)))
told_once (Err f) (Ok n) e = absurd (refuses f.refusal (ap (λ (a : Pieces). a.refusal) e))
told_once (Err f) (Err g) e =
    ap Err (λ i. record { refusal = same_code f.refusal g.refusal (ap (λ (a : Pieces). a.refusal) e) i; entry = ap (λ (a : Pieces). a.entry) e i })
