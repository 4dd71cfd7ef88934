-- A sum of two doubles of unlike signs, in units: it is the double made of the difference of their sizes, with the sign of the larger, and +0 where there
-- is no difference. And the sum of a double and +0 is that double, negative zero as zero: it is made of its own size, so rounding changes nothing.
-- Assumes nothing.
use mathlib.Core.Path.{◌≡◌, refl, sym, ap, ◌∙◌}
use mathlib.Core.Bool.{Bool, true, false, cond, not, ◌&&◌, and-true, and-false}
use Prim.Native.Nat.{ℕ, ◌-◌, ◌≤◌, ◌<◌}
use native.Mathlib.Nat.{add-zero, sub-zero}
use native.Mathlib.Omega.{arith}
use lib.Dec.{T, ltb}
use lib.IntN.{ℤ, pos, ◌-ℤ◌}
use lib.Ieee.{Float, nan, inf, fin, binary64, fits, round, sum, add, eq, of_bits}
use borrow.Author.Tests.{lt-ltb, le-ltb}
use Rattle.order.specs.Key.{mag}
use Rattle.order.proofs.Units.{add-units}
use Rattle.consts.proofs.Differences.{by_order, minus-more, minus-less, no_signed}
use Rattle.consts.proofs.Doubles.{ok, UNIT, units, double-signed, plain-made}
use Rattle.consts.specs.Answer.{ZERO}
use Rattle.consts.specs.Reading.{plain}
use Rattle.consts.specs.Remainder.{signed, double}

sum-unlike : (s : Bool) (a b c : ℕ) → sum binary64 s a (not s) b c ≡ cond (ltb a b) (round binary64 (not s) (b - a) c) (round binary64 (s && ltb b a) (a - b) c)
unfolding sum
sum-unlike true a b c = refl
sum-unlike false a b c = refl

module _ (s : Bool) (x y : ℕ) where
  abbrev result : Float
  result = sum binary64 s x (not s) y UNIT

  sum_less : x < y → result ≡ double (signed s x -ℤ signed s y)
  sum_less h = rw (sum-unlike, lt-ltb x y h) (sym (ap double (minus-less s x y (omega arith)) ∙ double-signed (not s) (y - x) (omega arith)))

  sum_more : y < x → result ≡ double (signed s x -ℤ signed s y)
  sum_more h =
      let l : y ≤ x = omega arith in
      rw (sum-unlike, le-ltb x y l, lt-ltb y x h, and-true) (sym (ap double (minus-more s x y l) ∙ double-signed s (x - y) (omega arith)))

  sum_same : x ≡ y → result ≡ double (signed s x -ℤ signed s y)
  sum_same h =
      let l : y ≤ x = omega arith in
      let l' : x ≤ y = omega arith in
      let none : x - y ≡ 0 = omega arith in
      rw (sum-unlike, le-ltb x y l, le-ltb y x l', and-false)
      (ap (λ (z : ℕ). round binary64 false z UNIT) none ∙ sym (ap double (minus-more s x y l ∙ no_signed s (x - y) none) ∙ (unfold double in refl)))

  sum-made : result ≡ double (signed s x -ℤ signed s y)
  sum-made = by_order x y sum_less (λ h. by_order y x sum_more (λ k. sum_same (omega arith)))

pub add-made : (s : Bool) (m n : ℕ) (e d : ℤ) → T (fits binary64 (fin s m e)) → T (fits binary64 (fin (not s) n d))
    → add binary64 (fin s m e) (fin (not s) n d) ≡ double (signed s (units m e) -ℤ signed s (units n d))
add-made s m n e d f g = add-units binary64 s (not s) m n e d f g ∙ sum-made s (units m e) (units n d)

-- ---- a double and +0
-- +0 has no units
no-units : units 0 (pos 0) ≡ 0
unfolding mag
no-units = refl

sum-zero : (s : Bool) (x : ℕ) → sum binary64 s x false 0 UNIT ≡ double (signed s x)
unfolding sum double
sum-zero true x = sum-made true x 0 ∙ ap double (minus-more true x 0 (omega arith)) ∙ ap (λ (z : ℕ). double (signed true z)) (sub-zero x)
sum-zero false x = ap (λ (z : ℕ). round binary64 false z UNIT) (add-zero x)

plus-zero-made : (s : Bool) (m : ℕ) (e : ℤ) → T (fits binary64 (fin s m e)) → add binary64 (fin s m e) (fin false 0 (pos 0)) ≡ double (signed s (units m e))
plus-zero-made s m e f =
    add-units binary64 s false m 0 e (pos 0) f (unfold fits in tt) ∙ ap (λ (n : ℕ). sum binary64 s (units m e) false n UNIT) no-units ∙ sum-zero s (units m e)

pub plus-zero : (x : Float) → fits binary64 x ≡ true → add binary64 x ZERO ≡ plain x
unfolding of_bits
plus-zero nan f = unfold add plain eq in refl
plus-zero (inf s) f = unfold add plain eq in refl
plus-zero (fin s m e) f = let g = ok (fits binary64 (fin s m e)) f in plus-zero-made s m e g ∙ sym (plain-made s m e g)
