-- No two results of a run stand for one answer. Those of `grow` are the rectangle's (the crate s2, proofs/Determined.antt). Assumes nothing.
use mathlib.Core.Path.{◌≡◌, refl, ap, ◌∙◌}
use mathlib.Core.Bool.{Bool, true, false, cond, ◌||◌}
use lib.Dec.{eqb}
use Rattle.std.specs.Prelude.{Result, Ok, Err}
use Rattle.consts.specs.declared.refusal.Refusal.{Refusal}
use Rattle.consts.specs.Refusal.{code, refusal_of}
use Rattle.consts.proofs.Determined.{same_result}
use Rattle.s2.specs.declared.rect.Rect.{Rect}
use Rattle.s2.specs.Answers.{empty_under}
use Rattle.growth.specs.declared.track.Run.{Run}
use Rattle.growth.specs.declared.track.RunningAnswer.{RunningAnswer}
use Rattle.growth.specs.Growth.{under, ran_of}

pub ran_once : (r : Rect) (x y : Result Run Refusal) → ran_of r x ≡ ran_of r y → x ≡ y
ran_once r = same_result (ran_of r) (λ (a : RunningAnswer). a.refusal) (λ (a : RunningAnswer). record { accepted = a.accepted; value = a.value }) number (λ v. refl)
  where
    number : (x : Result Run Refusal) → (ran_of r x).refusal ≡ refusal_of x
    number (Ok v) = refl
    number (Err w) = go (eqb (code w) 3 || eqb (code w) 5)
      where
        go : (t : Bool) → (cond t (under (code w) r) (empty_under (code w))).refusal ≡ code w
        go true = refl
        go false = refl
