-- No two results of a writer stand for one answer (the crate consts, proofs/Determined.antt). Assumes nothing.
use mathlib.Core.Path.{◌≡◌, refl}
use Prim.Native.Nat.{ℕ}
use Rattle.std.specs.Prelude.{Result, Ok, Err}
use Rattle.consts.specs.declared.refusal.Refusal.{Refusal}
use Rattle.consts.specs.Refusal.{refusal_of}
use Rattle.consts.proofs.Determined.{same_result}
use Rattle.text.specs.Answers.{Written, written_of}

pub written_once : (x y : Result ℕ Refusal) → written_of x ≡ written_of y → x ≡ y
written_once = same_result written_of (λ (a : Written). a.refusal) (λ (a : Written). a.count) number (λ v. refl)
  where
    number : (x : Result ℕ Refusal) → (written_of x).refusal ≡ refusal_of x
    number (Ok v) = refl
    number (Err r) = refl
