-- What document 01 promises of this layer, in its order and words. Each theorem has all that it needs in its own statement, and cites the law that
-- proves it. Assumes nothing.
use mathlib.Core.Path.{◌≡◌, refl, ◌∙◌}
use mathlib.Core.Bool.{Bool, true, false, cond}
use mathlib.Core.Logic.{◌↔◌, ◌⊎◌}
use Prim.Native.Nat.{◌+◌}
use native.Mathlib.Omega.{arith}
use lib.IntN.{nat_abs}
use lib.Ieee.{Float, binary64, fits, is_nan, lt, le, eq, neg, of_bits}
use Rattle.order.specs.Key.{Num}
use Rattle.order.specs.Choice.{abs}
use Rattle.consts.specs.declared.answer.Number.{Number}
use Rattle.consts.specs.Constants.{PI, NEG-PI, FOUR-PI, NEG-FOUR-PI}
use Rattle.consts.specs.Refusal.{number, accepted, bad_margin}
use Rattle.consts.specs.Answer.{ZERO, number_answer, zero_under, told, ZeroExactly}
use Rattle.consts.specs.Reading.{MOST, LEAST, in_reach, plain, NoMinus}
use Rattle.consts.specs.Remainder.{value, turn, within_four_pi, remainder_of, remainder, IsRem}
use Rattle.consts.proofs.Readings.{plain-le, le-plain, plain-lt, lt-plain, plain-eq, eq-plain, plain-num}
use Rattle.consts.proofs.Sizes.{size-within, size-beyond}
use Rattle.consts.proofs.Remainders.{remainder_is, is-remainder, remainder-plain, half, two-halves}
use Rattle.consts.proofs.Turns as turns
use Rattle.consts.proofs.Refusals.{chosen, given-chosen}
use Rattle.consts.proofs.Determined as determined

-- ---- numbers and records
-- "A number is in reach if it is no NaN and of size at most 2^500."
most : (Num MOST ≡ true) × (neg MOST ≡ LEAST)
unfolding fits is_nan neg of_bits
most = (refl, refl)

pub in-reach : (x : Float) → fits binary64 x ≡ true → (in_reach x ≡ true) ↔ ((is_nan x ≡ false) × (le (abs x) MOST ≡ true))
unfolding in_reach
in-reach x f = size-within x MOST LEAST f most.0 most.1

-- "Negative zero coming in is read as zero": a zero of either sign is read as zero, every other number as it is, and no comparison changes
pub zero-is-read : ((x : Float) → eq x ZERO ≡ true → plain x ≡ ZERO) × ((x : Float) → eq x ZERO ≡ false → plain x ≡ x)
unfolding plain
zero-is-read = (λ x h. simp h, λ x h. simp h)

pub compares-as-it-did : (x y : Float) → Num x ≡ true → Num y ≡ true
    → (le (plain x) (plain y) ≡ le x y) × (lt (plain x) (plain y) ≡ lt x y) × (eq (plain x) (plain y) ≡ eq x y)
compares-as-it-did x y n m =
    let k = plain-num y m in
    (plain-le x (plain y) n k ∙ le-plain x y n m, plain-lt x (plain y) n k ∙ lt-plain x y n m, plain-eq x (plain y) n k ∙ eq-plain x y n m)

-- "and no negative zero is written": by the remainder, accepted or refused
pub no-negative-zero : (x : Float) → fits binary64 x ≡ true → NoMinus (remainder x).value
unfolding remainder
no-negative-zero x f = go (within_four_pi x) refl
  where
    go : (t : Bool) → within_four_pi x ≡ t → NoMinus (told (cond t (number accepted) (number bad_margin)) (remainder_of x)).value
    go true h = remainder-plain x f h
    go false h = unfold plain eq of_bits in refl

-- ---- refusal numbers
-- 4: "a remainder argument is NaN or of size over 4 PI", with zero
four-pi : (Num FOUR-PI ≡ true) × (neg FOUR-PI ≡ NEG-FOUR-PI)
unfolding fits is_nan neg of_bits
four-pi = (refl, refl)

pub remainder-refused : (x : Float) → fits binary64 x ≡ true → ZeroExactly (remainder x) bad_margin ((is_nan x ≡ true) ⊎ (lt FOUR-PI (abs x) ≡ true))
unfolding remainder within_four_pi
remainder-refused x f =
    chosen (λ (y : Number). y.refusal) (within_four_pi x) (remainder x) (number_answer (remainder_of x)) (zero_under (number bad_margin))
    (given-chosen (number_answer (remainder_of x)) zero_under (within_four_pi x) _ (number bad_margin) refl refl) refl (λ h. omega arith)
    (size-beyond x FOUR-PI NEG-FOUR-PI f four-pi.0 four-pi.1)

-- ---- modules in port order
-- "IEEE 754 decides here: with T the double 2·PI, x minus n times T, n the whole number nearest x/T, a tie to even n; the result is exact."
pub twice-pi : turn ≡ nat_abs (value PI) + nat_abs (value PI)
unfolding half
twice-pi = two-halves

-- the answer has these properties, and no other double has them
pub remainder-ieee : (x : Float) → fits binary64 x ≡ true → within_four_pi x ≡ true
    → IsRem x (remainder x).value × ((r : Float) → fits binary64 r ≡ true → IsRem x r → r ≡ (remainder x).value)
unfolding remainder
remainder-ieee x f w = simp w (remainder_is x f w, λ r g h. is-remainder x r f g h)

-- ---- document 02, T-03
accepted-within : (x : Float) → (remainder x).refusal ≡ number accepted → within_four_pi x ≡ true
unfolding remainder
accepted-within x = go (within_four_pi x)
  where
    go : (t : Bool) → (told (cond t (number accepted) (number bad_margin)) (remainder_of x)).refusal ≡ number accepted → t ≡ true
    go true h = refl
    go false h = absurd (omega (arith, h))

-- "why the result stays in [-PI, PI]": the answer to every argument that is accepted does
pub stays-in-range : (x : Float) → fits binary64 x ≡ true → (remainder x).refusal ≡ number accepted
    → (le NEG-PI (remainder x).value ≡ true) × (le (remainder x).value PI ≡ true)
unfolding remainder
stays-in-range x f h = let w = accepted-within x h in simp w (turns.stays-in-range x f w)

-- ---- strength of the contracts
-- "Show that two answers allowed by it coincide": of every contract of the form "the answer is this function of the arguments"
pub two-answers-coincide : {A : Type 0} (spec a b : A) → a ≡ spec → b ≡ spec → a ≡ b
two-answers-coincide = determined.determined
