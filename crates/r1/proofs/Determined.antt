-- No two results of this crate's operations stand for one answer (the crate consts, proofs/Determined.antt). Assumes nothing.
use mathlib.Core.Path.{◌≡◌, refl}
use mathlib.Core.Bool.{Bool, true, false, cond}
use lib.Dec.{eqb}
use Rattle.std.specs.Prelude.{Result, Ok, Err}
use Rattle.consts.specs.declared.refusal.Refusal.{Refusal}
use Rattle.consts.specs.Refusal.{code, refusal_of}
use Rattle.consts.proofs.Determined.{same_result}
use Rattle.r1.specs.declared.interval.Interval.{Interval}
use Rattle.r1.specs.declared.interval.Answer.{Answer}
use Rattle.r1.specs.declared.interval.Distance.{Distance}
use Rattle.r1.specs.Answers.{Hausdorff, interval_of, grown_of, empty_under, distance_answer_of}

pub interval_once : (x y : Result Interval Refusal) → interval_of x ≡ interval_of y → x ≡ y
interval_once = same_result interval_of (λ (a : Answer). a.refusal) (λ (a : Answer). a.value) number (λ v. refl)
  where
    number : (x : Result Interval Refusal) → (interval_of x).refusal ≡ refusal_of x
    number (Ok v) = refl
    number (Err r) = refl

pub grown_once : (i : Interval) (x y : Result Interval Refusal) → grown_of i x ≡ grown_of i y → x ≡ y
grown_once i = same_result (grown_of i) (λ (a : Answer). a.refusal) (λ (a : Answer). a.value) number (λ v. refl)
  where
    number : (x : Result Interval Refusal) → (grown_of i x).refusal ≡ refusal_of x
    number (Ok v) = refl
    number (Err r) = go (eqb (code r) 3)
      where
        go : (t : Bool) → (cond t (record { refusal = code r; value = i }) (empty_under (code r))).refusal ≡ code r
        go true = refl
        go false = refl

pub distance_once : (x y : Result Distance Refusal) → distance_answer_of x ≡ distance_answer_of y → x ≡ y
distance_once = same_result distance_answer_of (λ (a : Hausdorff). a.refusal) (λ (a : Hausdorff). a.value) number (λ v. refl)
  where
    number : (x : Result Distance Refusal) → (distance_answer_of x).refusal ≡ refusal_of x
    number (Ok v) = refl
    number (Err r) = refl
