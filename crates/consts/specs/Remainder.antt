-- IEEE 754's remainder by T, the double 2 PI: x minus n times T, n the whole number nearest x / T, a tie to even n; the result is exact.
-- A finite double is a whole number of units, a unit being 2 ^ -1074, the smallest double above zero, so all this is said over whole numbers.
-- Definitions only; the laws are in proofs/Remainders.antt, worked examples in proofs/Examples.antt.
use Rattle.std.specs.Prelude.{◌≡◌, Bool, true, false, cond, ◌&&◌, ℕ, suc, ◌+◌, ◌*◌, ◌/◌, ◌%◌, ◌^◌, ◌≤◌, ltb, ℤ, pos, negsuc, neg_ℤ, nat_abs, ◌+ℤ◌, ◌-ℤ◌, ◌*ℤ◌, Float}
use Rattle.std.specs.Float.{nan, inf, fin, binary64}
use Rattle.std.specs.Float.Ieee.{low, round, le}
use Rattle.std.specs.Float.Ieee.Scale.{finite}
use Rattle.order.specs.Key.{mag}
use Rattle.consts.specs.declared.answer.Number.{Number}
use Rattle.consts.specs.Constants.{TURN, FOUR-PI, NEG-FOUR-PI}
use Rattle.consts.specs.Answer.{ZERO, told}
use Rattle.consts.specs.Reading.{NoMinus}
use Rattle.consts.specs.Refusal.{number, accepted, bad_margin}

-- ---- doubles as whole numbers of units
-- n, or minus n where the sign is true
abbrev pub signed : Bool → ℕ → ℤ
signed true n = neg_ℤ (pos n)
signed false n = pos n

-- the value of a finite double, in units
unfoldable pub value : Float → ℤ
unfolding mag
value nan = pos 0
value (inf s) = pos 0
value (fin s m e) = signed s (mag (low binary64) m e)

-- the double of that value, where there is one; of zero it is +0
unfoldable pub double : ℤ → Float
unfolding round
double (pos n) = round binary64 false n (2 ^ low binary64)
double (negsuc n) = round binary64 true (suc n) (2 ^ low binary64)

-- T in units
unfoldable pub turn : ℕ
unfolding value
turn = nat_abs (value TURN)

-- ---- the remainder
-- of q and q + 1 the one nearer to q + r / t, the even one if they are equally near
unfoldable pub nearer : ℕ → ℕ → ℕ → ℕ
nearer q r t = cond (ltb (r * 2) t) q (cond (ltb t (r * 2)) (suc q) (q + q % 2))

-- the whole number nearest k / t
unfoldable pub nearest : ℕ → ℕ → ℕ
unfolding nearer
nearest k t = nearer (k / t) (k % t) t

-- the same for a k of either sign
unfoldable pub nearest_to : ℤ → ℕ → ℤ
unfolding nearest
nearest_to (pos k) t = pos (nearest k t)
nearest_to (negsuc k) t = neg_ℤ (pos (nearest (suc k) t))

-- x minus n times T
unfoldable pub remainder_of : Float → Float
unfolding value double turn nearest_to
remainder_of x = double (value x -ℤ nearest_to (value x) turn *ℤ pos turn)

-- The same by its properties: x is n times T and r, exactly; r is at most half of T in size, so no whole number is nearer x / T than n;
-- where r is half of T, so that another number is as near, n is even. And r is no negative zero.
pub record IsRem (x r : Float) : Type 0 where
  pub n : ℤ
  pub exact : value x ≡ n *ℤ pos turn +ℤ value r
  pub near : nat_abs (value r) * 2 ≤ turn
  pub tie : nat_abs (value r) * 2 ≡ turn → nat_abs n % 2 ≡ 0
  pub finite-x : finite x ≡ true
  pub finite-r : finite r ≡ true
  pub no-minus-zero : NoMinus r

-- ---- the answer
-- no NaN, and of size at most 4 PI
unfoldable pub within_four_pi : Float → Bool
within_four_pi x = le NEG-FOUR-PI x && le x FOUR-PI

abbrev pub remainder_refusal : Float → ℕ
remainder_refusal x = cond (within_four_pi x) (number accepted) (number bad_margin)

unfoldable pub remainder : Float → Number
remainder x = told (remainder_refusal x) (remainder_of x)

-- The same by its properties.
pub record IsAnswer (x : Float) (a : Number) : Type 0 where
  pub refused : a.refusal ≡ remainder_refusal x
  pub taken : within_four_pi x ≡ true → IsRem x a.value
  pub refused-value : within_four_pi x ≡ false → a.value ≡ ZERO
