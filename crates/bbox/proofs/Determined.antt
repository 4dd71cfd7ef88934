-- No two results of this crate's operations stand for one answer (the crate consts, proofs/Determined.antt). Assumes nothing.
use mathlib.Core.Path.{◌≡◌, refl}
use Rattle.std.specs.Prelude.{Result, Ok, Err}
use Rattle.consts.specs.declared.refusal.Refusal.{Refusal}
use Rattle.consts.specs.Refusal.{refusal_of}
use Rattle.consts.proofs.Determined.{same_result}
use Rattle.bounds.specs.declared.bounds.Bounds.{Bounds}
use Rattle.bbox.specs.declared.reader.Answer.{Answer}
use Rattle.bbox.specs.Reading.{answer_of}

pub answer_once : (x y : Result Bounds Refusal) → answer_of x ≡ answer_of y → x ≡ y
answer_once = same_result answer_of (λ (a : Answer). a.refusal) (λ (a : Answer). a.value) number (λ v. refl)
  where
    number : (x : Result Bounds Refusal) → (answer_of x).refusal ≡ refusal_of x
    number (Ok v) = refl
    number (Err r) = refl
