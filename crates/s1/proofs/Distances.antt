-- The distance going east from a to b, for places from -PI to PI, is from 0 to 2 PI. Where b is below a it is (b + PI) - (a - PI), whose two parts may each
-- be rounded up in size: together they are at most half a unit in the last place of 2 PI over it, and a tie goes to 2 PI, which is even.
-- Assumes nothing.
use mathlib.Core.Path.{◌≡◌, refl, sym, ◌∙◌, subst}
use mathlib.Core.Bool.{Bool, true, false, cond, false≢true}
use Prim.Native.Nat.{ℕ, ◌+◌, ◌-◌, ◌*◌, ◌^◌, ◌≤◌, ◌<◌}
use native.Mathlib.Nat.{add_comm, add-mul, mul-le-mul_right, lt_of_le_of_lt}
use native.Mathlib.Omega.{arith}
use lib.Pow.{pow_pos, pow_mono}
use lib.Dec.{lit<, lit≤}
use lib.Ieee.Bits.{is_true}
use lib.Ieee.Fits.{round-fits}
use lib.Ieee.Order.{round_mono}
use lib.Ieee.{Float, binary64, low, of_bits, fits, round, add, sub, neg, lt, le, eq}
use Rattle.order.specs.Key.{big, mag, K, Real}
use Rattle.order.proofs.Keys.{neg-key}
use Rattle.order.proofs.Grids.{Rounded, rounded}
use Rattle.order.proofs.Facts.{lt-le, not-le}
use Rattle.order.proofs.Monotone.{real-between, keys-of-le, le-of-keys, of-real, sub-from-zero, neg-real, real-num}
use Rattle.order.proofs.Rounding.{sum-minus, sum-most}
use Rattle.order.proofs.Bounds.{Between, add-between, sub-between, from, up_to, fixed}
use Rattle.consts.proofs.Differences.{by_order}
use Rattle.consts.proofs.Doubles.{UNIT, as-multiple}
use Rattle.consts.proofs.Remainders.{half, two-halves, pi-key, neg-pi-key}
use Rattle.s1.proofs.Margins.{difference}
use Rattle.consts.specs.Constants.{PI, NEG-PI, TURN, NEG-TURN, FOUR-PI}
use Rattle.consts.specs.Answer.{ZERO}
use Rattle.consts.specs.Remainder.{turn, value}
use Rattle.s1.specs.Circle.{positive_distance}

-- ---- numbers u and v, which are t together, rounded to x and y: what is gained is at most h
-- where both grids, g and k, are at most h
few : (x y u v t h g k : ℕ) → 2 * x ≤ 2 * u + g → 2 * y ≤ 2 * v + k → g ≤ h → k ≤ h → u + v ≡ t → x + y ≤ t + h
few x y u v t h g k p q a b s = omega arith

-- where g is at most 2 h, and all are multiples of k
even : (i j m n u v t h g k : ℕ) → 0 < k → t ≡ m * k → h ≡ n * k → 2 * (i * k) ≤ 2 * u + g → 2 * (j * k) ≤ 2 * v + k → g ≤ 2 * h → u + v ≡ t → i * k + j * k ≤ t + h
even i j m n u v t h g k K a b p q l s =
    by_order (m + n) (i + j)
    (λ o. let w = mul-le-mul_right k o in absurd (omega (arith, w, add-mul (m + n) 1 k, add-mul m n k, add-mul i j k)))
    (λ o. omega (arith, mul-le-mul_right k o, add-mul m n k, add-mul i j k))

turn_is : turn ≡ 884279719003555 * 2 ^ 1027
unfolding turn value mag of_bits
turn_is = refl

turn-under : turn < 2 ^ 1077
unfolding turn value mag of_bits
turn-under = lit< tt

half-under : half < 2 ^ 1076
unfolding half value mag of_bits
half-under = lit< tt

-- half a unit in the last place of 2 PI
abbrev GAIN : ℕ
GAIN = 2 ^ 1023

-- a number up to 2 PI has a grid of at most 2 GAIN, and one up to PI a grid of at most GAIN
module _ {u v : ℕ} (s : u + v ≡ turn) (l : v ≤ half) (ru : Rounded binary64 u) (rv : Rounded binary64 v) where
  coarse : ru.k ≤ 1024
  coarse = ru.fine 1024 (lt_of_le_of_lt (omega arith) turn-under)

  finer : rv.k ≤ 1023
  finer = rv.fine 1023 (lt_of_le_of_lt l half-under)

  over : 1023 < ru.k → ru.q * 2 ^ ru.k + rv.q * 2 ^ rv.k ≤ turn + GAIN
  over h =
      let e : ru.q * 2 ^ ru.k ≡ ru.q * 2 ^ (ru.k - rv.k) * 2 ^ rv.k = as-multiple ru.q ru.k rv.k (omega (arith, finer)) in
      subst (λ (z : ℕ). z + rv.q * 2 ^ rv.k ≤ turn + GAIN) (sym e)
      (even (ru.q * 2 ^ (ru.k - rv.k)) rv.q (884279719003555 * 2 ^ (1027 - rv.k)) (1 * 2 ^ (1023 - rv.k)) u v turn GAIN (2 ^ ru.k) (2 ^ rv.k) (pow_pos rv.k)
      (turn_is ∙ as-multiple 884279719003555 1027 rv.k (omega (arith, finer)))
      (as-multiple 1 1023 rv.k finer)
      (subst (λ (z : ℕ). 2 * z ≤ 2 * u + 2 ^ ru.k) e ru.close) rv.close (pow_mono coarse) s)

  gained : ru.q * 2 ^ ru.k + rv.q * 2 ^ rv.k ≤ turn + GAIN
  gained =
      by_order 1023 ru.k over
      (λ h. few (ru.q * 2 ^ ru.k) (rv.q * 2 ^ rv.k) u v turn GAIN (2 ^ ru.k) (2 ^ rv.k) ru.close rv.close (pow_mono h) (pow_mono finer) s)

-- ---- the parts of the distance
-- u units, rounded
abbrev made : ℕ → Float
made u = round binary64 false u UNIT

made-le : (i j : ℕ) → i ≤ j → le (made i) (made j) ≡ true
made-le i j h = is_true (le (made i) (made j)) (round_mono binary64 i UNIT j UNIT (pow_pos (low binary64)) (pow_pos (low binary64)) (mul-le-mul_right UNIT h))

ends-real : (Real (made 0) ≡ true) × (Real (made turn) ≡ true)
unfolding turn value mag round fits of_bits
ends-real = (refl, refl)

up-to-turn : (u : ℕ) → u ≤ turn → Rounded binary64 u
up-to-turn u l =
    rounded binary64 u
    (real-between (made 0) (made u) (made turn) ends-real.0 ends-real.1 (is_true (fits binary64 (made u)) (round-fits binary64 false u UNIT)) (made-le 0 u (omega arith)) (made-le u turn l))

-- a + PI and PI - a in units, and rounded
module _ {a : Float} (p : Between NEG-PI PI a) where
  abbrev u : ℕ
  u = K a + half - big binary64

  abbrev v : ℕ
  v = big binary64 + half - K a

  half-big : half ≤ big binary64
  unfolding half value mag of_bits big
  half-big = lit≤ tt

  above_low : big binary64 - half ≤ K a
  above_low = subst (λ (k : ℕ). k ≤ K a) neg-pi-key (keys-of-le NEG-PI a p.real-low p.real p.low)

  below-high : K a ≤ big binary64 + half
  below-high = subst (λ (k : ℕ). K a ≤ k) pi-key (keys-of-le a PI p.real p.real-high p.high)

  u+v : u + v ≡ turn
  u+v = omega (arith, half-big, above_low, below-high, two-halves)

  ru : Rounded binary64 u
  ru = up-to-turn u (omega (arith, u+v))

  rv : Rounded binary64 v
  rv = up-to-turn v (omega (arith, u+v))

  both : ru.q * 2 ^ ru.k + rv.q * 2 ^ rv.k ≤ turn + GAIN
  both =
      by_order v u (λ h. gained u+v (omega (arith, u+v, two-halves)) ru rv)
      (λ h. subst (λ (z : ℕ). z ≤ turn + GAIN) (add_comm (rv.q * 2 ^ rv.k) (ru.q * 2 ^ ru.k)) (gained (add_comm v u ∙ u+v) (omega (arith, u+v, two-halves)) rv ru))

total : (m n b x y t : ℕ) → m ≤ b + x → n ≤ b + y → x + y ≤ t → m + n ≤ 2 * b + t
total m n b x y t h k l = omega arith

-- the distance from a to a b that is not above it
module _ {a b : Float} (p : Between NEG-PI PI a) (q : Between NEG-PI PI b) (h : le b a ≡ true) where
  abbrev s : Float
  s = add binary64 b PI

  abbrev t : Float
  t = sub binary64 a PI

  s-between : Between ZERO TURN s
  unfolding fits of_bits le lt eq add
  s-between = add-between ZERO TURN q (fixed PI refl) refl

  t-between : Between NEG-TURN ZERO t
  unfolding fits of_bits le lt eq sub
  t-between = sub-between NEG-TURN ZERO p (fixed PI refl) refl

  s-key : K s ≤ big binary64 + (ru p).q * 2 ^ (ru p).k
  s-key =
      subst (λ (k : ℕ). K s ≤ k) (ru p).is
      (sum-most binary64 (of-real b q.real) (of-real PI p.real-high) (u p) (omega (arith, pi-key, keys-of-le b a q.real p.real h, half-big p, above_low p)))

  t-key : K (neg t) ≤ big binary64 + (rv p).q * 2 ^ (rv p).k
  unfolding sub
  t-key =
      omega (
        arith,
        neg-key binary64 t (real-num t t-between.real),
        (rv p).is,
        pi-key,
        neg-key binary64 PI (real-num PI p.real-high),
        sum-minus binary64 (of-real a p.real) (of-real (neg PI) (neg-real PI p.real-high)) (v p) (omega (arith, pi-key, neg-key binary64 PI (real-num PI p.real-high), half-big p, below-high p)),
      )

  round-turn : K (made (turn + GAIN)) ≡ K TURN
  unfolding turn value mag round of_bits
  round-turn = refl

  most : K (sub binary64 s t) ≤ K TURN
  unfolding sub
  most =
      subst (λ (k : ℕ). K (sub binary64 s t) ≤ k) round-turn
      (sum-most binary64 (of-real s s-between.real) (of-real (neg t) (neg-real t t-between.real)) (turn + GAIN)
      (total (K s) (K (neg t)) (big binary64) ((ru p).q * 2 ^ (ru p).k) ((rv p).q * 2 ^ (rv p).k) (turn + GAIN) s-key t-key (both p)))

  about : Between ZERO TURN (sub binary64 s t)
  unfolding fits of_bits le lt eq sub
  about =
      let d : Between ZERO FOUR-PI (sub binary64 s t) = sub-between ZERO FOUR-PI s-between t-between refl in
      up_to TURN refl d (le-of-keys (sub binary64 s t) TURN (real-num (sub binary64 s t) d.real) (real-num TURN s-between.real-high) most)

-- where b - a is negative, b is not above a
turned : {a b : Float} → Between NEG-PI PI a → Between NEG-PI PI b → le ZERO (sub binary64 b a) ≡ false → le b a ≡ true
turned {a} {b} p q h = go (le b a) refl
  where
    go : (t : Bool) → le b a ≡ t → le b a ≡ true
    go true e = e
    go false e =
        let l = lt-le a b (not-le b a (real-num b q.real) (real-num a p.real) e) in
        absurd (false≢true (sym h ∙ sub-from-zero b a q.real p.real l))

pub distance-between : {a b : Float} → Between NEG-PI PI a → Between NEG-PI PI b → Between ZERO TURN (positive_distance a b)
unfolding positive_distance fits of_bits
distance-between {a} {b} p q = go (le ZERO (sub binary64 b a)) refl
  where
    go : (t : Bool) → le ZERO (sub binary64 b a) ≡ t → Between ZERO TURN (cond t (sub binary64 b a) (sub binary64 (add binary64 b PI) (sub binary64 a PI)))
    go true h = from ZERO refl (difference q p) h
    go false h = about p q (turned p q h)
