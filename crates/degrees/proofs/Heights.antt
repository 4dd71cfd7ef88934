-- The radians of n ten-millionths of a degree, up to 180 degrees, in units of the smallest double: `height n`, and it rises strictly. The exact value is n
-- times a constant, each of the two roundings moves it by at most one part in 2 ^ 53 (Relative), and n + 1 differs from n by far more than that.
-- The laws on products are over any numbers, so that 2 ^ 1074 is multiplied out only where both sides are closed. Assumes nothing.
use Rattle.std.proofs.Common.{◌≡◌, ℕ, zero, suc, ◌*◌, ◌^◌, ◌<◌, ◌≤◌, ◌∙◌}
use Rattle.std.proofs.Common.{sym, ap, subst, zero-le, le_trans, le_of_eq, lt_of_lt_of_le, lt_of_le_of_lt, mul-le-mul_right, zero-lt-suc, mul_assoc, mul_comm}
use Rattle.std.proofs.Common.{lt_of_mul-lt-mul_right, mul-le-mul_left, mul-lt-mul_of_pos_right, mul_right_comm, le_of_mul-le-mul_right, mul_left_comm, arith}
use Rattle.std.proofs.Common.{lit<, lit≤, pow_pos}
use native.Mathlib.Nat.{mul-mul-mul_comm}
use lib.Ieee.{binary64, low, size}
use lib.Ieee.Scale.{grid, overflow}
use Rattle.bounds.specs.Bounds.{HALF}
use Rattle.degrees.proofs.Relative.{FEWER, SPLIT, MORE, Near, grid-near, near-units}

-- ---- the numbers
-- units in 1
abbrev pub ONE : ℕ
ONE = 2 ^ low binary64

-- ten-millionths in a degree
abbrev pub PARTS : ℕ
PARTS = 10000000

-- the double PI / 180 is TOP / 2 ^ 58
abbrev pub TOP : ℕ
TOP = 5030569068109113

abbrev pub BOTTOM : ℕ
BOTTOM = 288230376151711744

-- ---- in units: the degrees, and the radians
abbrev pub steps : ℕ → ℕ
steps n = grid binary64 n PARTS

abbrev pub height : ℕ → ℕ
height n = grid binary64 (steps n * TOP) (ONE * BOTTOM)

-- ---- the first rounding
steps-near : (n : ℕ) → 0 < n → Near (n * ONE) (steps n * PARTS)
steps-near n N = grid-near n PARTS (lit< tt) (le_trans (lit≤ tt) (mul-le-mul_right ONE N))

-- up to 180 degrees there is no overflow
cancel-lt : (g w v k : ℕ) → g * k ≤ v → v < w * k → g < w
cancel-lt g w v k h l = lt_of_mul-lt-mul_right k (lt_of_le_of_lt h l)

pub steps-under : (n : ℕ) → n ≤ HALF → steps n < 2 ^ 1090
unfolding size
steps-under zero h = lit< tt
steps-under (suc n) h =
    let s = steps-near (suc n) (zero-lt-suc n) in
    let a : suc n * ONE * MORE ≤ HALF * ONE * MORE = mul-le-mul_right MORE (mul-le-mul_right ONE h) in
    cancel-lt (steps (suc n)) (2 ^ 1090) (HALF * ONE * MORE) (PARTS * SPLIT)
    (le_trans (le_of_eq (sym (mul_assoc (steps (suc n)) PARTS SPLIT))) (le_trans s.most a)) (lit< tt)

-- ---- the second rounding
-- of 1 ten-millionth or more they are in the normal range
enough : (b q c t g p v : ℕ) → 0 < c * t → b * q * (c * t) ≤ p * v → v ≤ g * c * t → b * q ≤ g * p
enough b q c t g p v C h k =
    le_of_mul-le-mul_right (le_trans h (le_trans (mul-le-mul_left p k) (le_of_eq e))) C
  where
    e : p * (g * c * t) ≡ g * p * (c * t)
    e = mul_comm p (g * c * t) ∙ ap (λ (z : ℕ). z * p) (mul_assoc g c t) ∙ mul_right_comm g (c * t) p

steps-many : (n : ℕ) → 0 < n → 2 ^ 52 * BOTTOM ≤ steps n * TOP
steps-many n N =
    enough (2 ^ 52) BOTTOM PARTS SPLIT (steps n) TOP (1 * ONE * FEWER) (lit< tt) (lit≤ tt)
    (le_trans (mul-le-mul_right FEWER (mul-le-mul_right ONE N)) (steps-near n N).least)

height-near : (n : ℕ) → 0 < n → Near (steps n * TOP) (height n * BOTTOM)
height-near n N =
    near-units (steps n * TOP) (height n * BOTTOM) ONE (pow_pos (low binary64))
    (subst (Near (steps n * TOP * ONE)) (sym (mul_assoc (height n) BOTTOM ONE))
    (grid-near (steps n * TOP) (ONE * BOTTOM) (lit< tt) (mul-le-mul_right ONE (steps-many n N))))

pub height-under : (n : ℕ) → n ≤ HALF → height n < overflow binary64
unfolding size
height-under zero h = lit< tt
height-under (suc n) h =
    let s = height-near (suc n) (zero-lt-suc n) in
    let a : steps (suc n) * TOP * MORE < 2 ^ 1090 * TOP * MORE =
    mul-lt-mul_of_pos_right (mul-lt-mul_of_pos_right (steps-under (suc n) h) (lit< tt)) (lit< tt) in
    cancel-lt (height (suc n)) (2 ^ 2098) (steps (suc n) * TOP * MORE) (BOTTOM * SPLIT)
    (le_trans (le_of_eq (sym (mul_assoc (height (suc n)) BOTTOM SPLIT))) s.most) (lt_of_lt_of_le a (lit≤ tt))

-- ---- both: where g is x / c and y is g p / q but for one part each, y is x p / (c q) but for two parts
swapped : (g c b p a : ℕ) → g * c * b * (p * a) ≡ g * p * a * (c * b)
swapped g c b p a = ap (λ (z : ℕ). z * (p * a)) (mul_assoc g c b) ∙ mul-mul-mul_comm g (c * b) p a ∙ ap (λ (z : ℕ). g * p * z) (mul_comm (c * b) a) ∙ sym (mul_assoc (g * p) a (c * b))

both-least : (x g y c p q a b : ℕ) → x * a ≤ g * c * b → g * p * a ≤ y * q * b → x * a * (p * a) ≤ y * q * b * (c * b)
both-least x g y c p q a b h k = le_trans (mul-le-mul_right (p * a) h) (le_trans (le_of_eq (swapped g c b p a)) (mul-le-mul_right (c * b) k))

both_most : (x g y c p q a b : ℕ) → g * c * b ≤ x * a → y * q * b ≤ g * p * a → y * q * b * (c * b) ≤ x * a * (p * a)
both_most x g y c p q a b h k = le_trans (mul-le-mul_right (c * b) k) (le_trans (le_of_eq (sym (swapped g c b p a))) (mul-le-mul_right (p * a) h))

height-least : (n : ℕ) → 0 < n → n * ONE * FEWER * (TOP * FEWER) ≤ height n * BOTTOM * SPLIT * (PARTS * SPLIT)
height-least n N =
    both-least (n * ONE) (steps n) (height n) PARTS TOP BOTTOM FEWER SPLIT (steps-near n N).least (height-near n N).least

height-most : (n : ℕ) → height n * BOTTOM * SPLIT * (PARTS * SPLIT) ≤ n * ONE * MORE * (TOP * MORE)
unfolding size
height-most zero = lit≤ tt
height-most (suc n) =
    let N = zero-lt-suc n in
    both_most (suc n * ONE) (steps (suc n)) (height (suc n)) PARTS TOP BOTTOM MORE SPLIT (steps-near (suc n) N).most (height-near (suc n) N).most

-- ---- and so it rises
gathered : (n u a p : ℕ) → n * u * a * (p * a) ≡ n * (a * a) * (u * p)
gathered n u a p = simp (mul_assoc, mul_comm, mul_left_comm)

wide : (n m : ℕ) → n < m → m ≤ HALF → n * (MORE * MORE) < m * (FEWER * FEWER)
wide n m h k = omega arith

steep : (n m u p a b : ℕ) → 0 < u * p → n * (b * b) < m * (a * a) → n * u * b * (p * b) < m * u * a * (p * a)
steep n m u p a b P h = rw (gathered n u b p, gathered m u a p) (mul-lt-mul_of_pos_right h P)

pub height-rises : (n m : ℕ) → n < m → m ≤ HALF → height n < height m
height-rises n m h k =
    let c : height n * BOTTOM * SPLIT * (PARTS * SPLIT) < height m * BOTTOM * SPLIT * (PARTS * SPLIT) =
    lt_of_le_of_lt (height-most n) (lt_of_lt_of_le (steep n m ONE TOP FEWER MORE (lit< tt) (wide n m h k)) (height-least m (lt_of_le_of_lt zero-le h))) in
    lt_of_mul-lt-mul_right BOTTOM (lt_of_mul-lt-mul_right SPLIT (lt_of_mul-lt-mul_right (PARTS * SPLIT) c))
