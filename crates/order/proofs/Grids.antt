-- How far rounding moves a number that is not negative: a number of units is rounded to a multiple of a power of two, its grid, and moves up by no more
-- than half of that. Assumes nothing.
use mathlib.Core.Path.{◌≡◌, sym, ap, ◌∙◌, subst}
use mathlib.Core.Bool.{true, false, not, true≢false}
use Prim.Native.Nat.{ℕ, ◌+◌, ◌-◌, ◌*◌, ◌/◌, ◌%◌, ◌^◌, ◌≤◌, ◌<◌, compare, Ordering}
use native.Mathlib.Nat.{mul_comm, mul_assoc, add-mul, mul-div_cancel, eq_of_mul-eq-mul_right, le_of_mul-le-mul_right, mul-le-mul_right, div-add-mod'}
use native.Mathlib.Omega.{arith}
use lib.Pow.{pow_pos}
use lib.Dec.{T, is_le, compare_is_eq, nleb→lt, eqb→eq}
use lib.Ieee.{Float, nan, inf, fin, Format, prec, low, down, size, nearest, fits, round}
use lib.Ieee.Digits.{size-le}
use lib.Ieee.Exact.{HasValue}
use lib.Ieee.Fits.{down_pos, round-fits, and_r}
use lib.Ieee.Nearest.{closest}
use lib.Ieee.Order.{drop, kept}
use lib.Ieee.Scale.{finite, round_val, round_under}
use Rattle.order.specs.Key.{mag, big, key, real}
use Rattle.order.proofs.Keys.{scaled, low-enough}

-- a fraction n / u to the nearest whole number
nearest-close : (q r u : ℕ) (o : Ordering) → (T (compare_is_eq o) → r * 2 ≡ u) → (T (not (is_le o)) → u < r * 2) → 2 * (nearest q o * u) ≤ 2 * (q * u + r) + u
nearest-close q r u Ordering.lt e g = omega arith
nearest-close q r u Ordering.eq e g = omega (arith, e tt, add-mul q (q % 2) u, at_most (q % 2) u (omega arith))
  where
    at_most : (a b : ℕ) → a ≤ 1 → a * b ≤ 1 * b
    at_most a b h = mul-le-mul_right b h
nearest-close q r u Ordering.gt e g = omega (arith, g tt, add-mul q 1 u)

closest-close : (n u : ℕ) → 2 * (closest n u * u) ≤ 2 * n + u
closest-close n u =
    subst (λ (z : ℕ). 2 * (closest n u * u) ≤ 2 * z + u) (div-add-mod' n u)
    (nearest-close (n / u) (n % u) u (compare (n % u * 2) u) (eqb→eq (n % u * 2) u) (nleb→lt (n % u * 2) u))

per-unit : (c z u g : ℕ) → 0 < u → 2 * (c * (u * g)) ≤ 2 * (z * u) + u * g → 2 * (c * g) ≤ 2 * z + g
per-unit c z u g U h =
    le_of_mul-le-mul_right {m = 2 * (c * g)} {n = 2 * z + g} {k = u}
    (subst (λ (w : ℕ). w ≤ (2 * z + g) * u) (simp (mul_assoc, mul_comm))
    (subst (λ (w : ℕ). 2 * (c * (u * g)) ≤ w) (sym (add-mul (2 * z) g u ∙ (λ i. mul_assoc 2 z u i + mul_comm g u i))) h))
    U

spare : (z p j : ℕ) → z ≤ p + j → z - p ≤ j
spare z p j h = omega arith

-- the key of what has a value of n units
value-key : (f : Format) (x : Float) (n : ℕ) → T (fits f x) → HasValue x false n (2 ^ low f) → key f x ≡ big f + n
unfolding key
value-key f nan n t v = absurd v
value-key f (inf s) n t v = absurd v
value-key f (fin true m e) n t v = absurd (true≢false v.0)
value-key f (fin false m e) n t v =
    ap (λ (z : ℕ). big f + z) (eq_of_mul-eq-mul_right (down e) (down_pos e) (mag (low f) m e) n (scaled (low f) m e (low-enough f false m e t) ∙ v.1))

-- z units, rounded: q * 2 ^ k units
pub record Rounded (f : Format) (z : ℕ) : Type 0 where
  pub q : ℕ
  pub k : ℕ
  pub is : key f (round f false z (2 ^ low f)) ≡ big f + q * 2 ^ k
  pub close : 2 * (q * 2 ^ k) ≤ 2 * z + 2 ^ k
  pub fine : (j : ℕ) → z < 2 ^ (prec f + j) → k ≤ j

pub rounded : (f : Format) (z : ℕ) → real f (round f false z (2 ^ low f)) ≡ true → Rounded f z
rounded f z h =
    let u = 2 ^ low f in
    let k = drop (prec f) (z * u) u in
    let q = kept (prec f) (z * u) u in
    let x = round f false z u in
    record {
      q = q;
      k = k;
      is = value-key f x (q * 2 ^ k) (round-fits f false z u) (round_val f z u (round_under f z u (and_r (fits f x) (finite x) (subst T (sym h) tt))));
      close = per-unit q z u (2 ^ k) (pow_pos (low f)) (closest-close (z * u) (u * 2 ^ k));
      fine = λ j l. spare (size (z * u / u)) (prec f) j (size-le (z * u / u) (prec f + j) (subst (λ (w : ℕ). w < 2 ^ (prec f + j)) (sym (mul-div_cancel z (pow_pos (low f)))) l));
    }
