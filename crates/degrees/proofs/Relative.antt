-- How far one rounding moves a number of the normal range, as a part of the number: at most one part in 2 ^ 53. A number is rounded to a multiple of its
-- grid and moves by no more than half of that, and 2 ^ 52 of the grid are at most the number. Assumes nothing.
use Rattle.std.proofs.Common.{◌≡◌, ℕ, ◌+◌, ◌-◌, ◌*◌, ◌/◌, ◌%◌, ◌^◌, ◌<◌, ◌≤◌, not, T, ◌∙◌}
use Rattle.std.proofs.Common.{sym, ap, subst, le_trans, le_of_eq, mul-le-mul_right, mod-lt, mul_assoc, mul_comm, add-mul, mul-pos, div-add-mod'}
use Rattle.std.proofs.Common.{le-div_iff_mul-le, mul_right_comm, le_of_mul-le-mul_right, arith, eqb→eq, leb→le, pow_pos, pow-add}
use Prim.Native.Nat.{compare, Ordering}
use lib.Dec.{is_le, compare_is_eq, nleb→lt}
use lib.Ieee.{binary64, low, size, nearest}
use lib.Ieee.Digits.{size_reaches}
use lib.Ieee.Nearest.{closest}
use lib.Ieee.Order.{drop, kept}
use lib.Ieee.Scale.{grid, normal_of_fraction}

-- 2 ^ 53, and one less and more
abbrev pub SPLIT : ℕ
SPLIT = 9007199254740992

abbrev pub FEWER : ℕ
FEWER = 9007199254740991

abbrev pub MORE : ℕ
MORE = 9007199254740993

-- y is x but for one part in 2 ^ 53 of it
pub record Near (x y : ℕ) : Type 0 where
  pub least : x * FEWER ≤ y * SPLIT
  pub most : y * SPLIT ≤ x * MORE

-- ---- to the nearest whole number of u
-- by at most half of u
record Half (n y u : ℕ) : Type 0 where
  up : 2 * y ≤ 2 * n + u
  down : 2 * n ≤ 2 * y + u

nearest-half : (q r u : ℕ) (o : Ordering) → r < u → (T (is_le o) → r * 2 ≤ u) → (T (compare_is_eq o) → r * 2 ≡ u) → (T (not (is_le o)) → u < r * 2)
    → Half (q * u + r) (nearest q o * u) u
nearest-half q r u Ordering.lt h l e g = record { up = omega arith; down = omega (arith, l tt) }
nearest-half q r u Ordering.eq h l e g =
    let s : (q + q % 2) * u ≡ q * u + q % 2 * u = add-mul q (q % 2) u in
    let t : q % 2 * u ≤ 1 * u = mul-le-mul_right u (omega arith) in
    record { up = omega (arith, e tt); down = omega (arith, e tt) }
nearest-half q r u Ordering.gt h l e g =
    let s : (q + 1) * u ≡ q * u + 1 * u = add-mul q 1 u in
    record { up = omega (arith, g tt); down = omega arith }

closest-half : (n u : ℕ) → 0 < u → Half n (closest n u * u) u
closest-half n u U =
    subst (λ (z : ℕ). Half z (closest n u * u) u) (div-add-mod' n u)
    (nearest-half (n / u) (n % u) u (compare (n % u * 2) u) (mod-lt n U) (leb→le (n % u * 2) u) (eqb→eq (n % u * 2) u) (nleb→lt (n % u * 2) u))

half-near : (n y u : ℕ) → u * 4503599627370496 ≤ n → Half n y u → Near n y
half-near n y u h k = record { least = omega (arith, k.up, k.down); most = omega (arith, k.up, k.down) }

-- ---- the grid of a number that is 2 ^ 52 units or more
last-digit : (z : ℕ) → 53 ≤ z → z - 1 < z
last-digit z h = omega arith

digits : (z : ℕ) → 53 ≤ z → z - 1 ≡ 52 + (z - 53)
digits z h = omega arith

grid-fine : (n c : ℕ) → 0 < c → 53 ≤ size (n / c) → c * 2 ^ drop 53 n c * 4503599627370496 ≤ n
grid-fine n c C h =
    let z = size (n / c) in
    let k = drop 53 n c in
    let a : 2 ^ (52 + k) ≤ n / c = subst (λ (i : ℕ). 2 ^ i ≤ n / c) (digits z h) (size_reaches (n / c) (z - 1) (last-digit z h)) in
    let e : c * 2 ^ k * 2 ^ 52 ≡ 2 ^ (52 + k) * c =
    mul_assoc c (2 ^ k) (2 ^ 52) ∙ mul_comm c (2 ^ k * 2 ^ 52) ∙ ap (λ (i : ℕ). i * c) (mul_comm (2 ^ k) (2 ^ 52) ∙ sym (pow-add 2 52 k)) in
    le_trans (le_of_eq e) ((le-div_iff_mul-le C).0 a)

-- a / c rounded, in units
pub grid-near : (a c : ℕ) → 0 < c → 2 ^ 52 * c ≤ a * 2 ^ low binary64 → Near (a * 2 ^ low binary64) (grid binary64 a c * c)
grid-near a c C h =
    let n = a * 2 ^ low binary64 in
    let k = drop 53 n c in
    let q = kept 53 n c in
    let e : q * (c * 2 ^ k) ≡ q * 2 ^ k * c = ap (λ (z : ℕ). q * z) (mul_comm c (2 ^ k)) ∙ sym (mul_assoc q (2 ^ k) c) in
    subst (Near n) e
    (half-near n (q * (c * 2 ^ k)) (c * 2 ^ k) (grid-fine n c C (normal_of_fraction binary64 a c C h)) (closest-half n (c * 2 ^ k) (mul-pos C (pow_pos k))))

-- ---- in other units
pub near-units : (x y u : ℕ) → 0 < u → Near (x * u) (y * u) → Near x y
near-units x y u U h =
    record {
      least = le_of_mul-le-mul_right (le_trans (le_of_eq (mul_right_comm x FEWER u)) (le_trans h.least (le_of_eq (mul_right_comm y u SPLIT)))) U;
      most = le_of_mul-le-mul_right (le_trans (le_of_eq (mul_right_comm y SPLIT u)) (le_trans h.most (le_of_eq (mul_right_comm x u MORE)))) U;
    }
