-- No two results of this crate's operations stand for one answer (the crate consts, proofs/Determined.antt). Assumes nothing.
use mathlib.Core.Path.{◌≡◌, refl}
use mathlib.Core.Bool.{Bool, true, false, cond, ◌||◌}
use lib.Dec.{eqb}
use Rattle.std.specs.Prelude.{Result, Ok, Err}
use Rattle.consts.specs.declared.refusal.Refusal.{Refusal}
use Rattle.consts.specs.Refusal.{code, refusal_of}
use Rattle.consts.proofs.Determined.{same_result}
use Rattle.s2.specs.declared.latlng.LatLng.{LatLng}
use Rattle.s2.specs.declared.rect.Rect.{Rect}
use Rattle.s2.specs.declared.rect.Answer.{Answer}
use Rattle.s2.specs.declared.rect.PointAnswer.{PointAnswer}
use Rattle.s2.specs.Answers.{rectangle_of, grown_of, point_of, empty_under}

pub rectangle_once : (x y : Result Rect Refusal) → rectangle_of x ≡ rectangle_of y → x ≡ y
rectangle_once = same_result rectangle_of (λ (a : Answer). a.refusal) (λ (a : Answer). a.value) number (λ v. refl)
  where
    number : (x : Result Rect Refusal) → (rectangle_of x).refusal ≡ refusal_of x
    number (Ok v) = refl
    number (Err r) = refl

pub grown_once : (q : Rect) (x y : Result Rect Refusal) → grown_of q x ≡ grown_of q y → x ≡ y
grown_once q = same_result (grown_of q) (λ (a : Answer). a.refusal) (λ (a : Answer). a.value) number (λ v. refl)
  where
    number : (x : Result Rect Refusal) → (grown_of q x).refusal ≡ refusal_of x
    number (Ok v) = refl
    number (Err r) = go (eqb (code r) 3 || eqb (code r) 5)
      where
        go : (t : Bool) → (cond t (record { refusal = code r; value = q }) (empty_under (code r))).refusal ≡ code r
        go true = refl
        go false = refl

pub point_once : (x y : Result LatLng Refusal) → point_of x ≡ point_of y → x ≡ y
point_once = same_result point_of (λ (a : PointAnswer). a.refusal) (λ (a : PointAnswer). a.value) number (λ v. refl)
  where
    number : (x : Result LatLng Refusal) → (point_of x).refusal ≡ refusal_of x
    number (Ok v) = refl
    number (Err r) = refl
