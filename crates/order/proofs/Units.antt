-- The exact results of operations on finite values, in units of the format's smallest value: `add` and `mul` work out a fraction over a product of powers
-- of two, and `round` sees only the fraction's value. Assumes nothing.
use mathlib.Core.Path.{◌≡◌, refl, sym, ap, ◌∙◌}
use mathlib.Core.Bool.{Bool, true, false, cond, ◌&&◌, beq}
use Prim.Native.Nat.{ℕ, ◌+◌, ◌-◌, ◌*◌, ◌^◌, ◌<◌}
use native.Mathlib.Nat.{mul_comm, mul-mul-mul_comm, mul-sub, mul-pos, add-mul}
use lib.Pow.{pow_pos}
use lib.Dec.{T, ltb}
use lib.IntN.{ℤ}
use lib.Ieee.{fin, Format, low, unlike, up, down, fits, round, sum, add, mul}
use lib.Ieee.Fits.{down_pos}
use lib.Ieee.Scale.{round_same}
use Rattle.order.specs.Key.{mag}
use Rattle.order.proofs.Keys.{scaled, low-enough, less, more, ltb-same, left, right}

pub sub-mul : (a b k : ℕ) → (a - b) * k ≡ a * k - b * k
sub-mul a b k = mul_comm (a - b) k ∙ mul-sub k a b ∙ ap (λ (z : ℕ). z - k * b) (mul_comm k a) ∙ ap (λ (z : ℕ). a * k - z) (mul_comm k b)

-- ---- a sum is that of its operands' values: a / c is x / d, and b / c is y / d
module _ (f : Format) (a b c x y d : ℕ) (C : 0 < c) (D : 0 < d) (p : a * d ≡ x * c) (q : b * d ≡ y * c) where
  pub sum_same : (s t : Bool) → sum f s a t b c ≡ sum f s x t y d
  unfolding sum
  sum_same s t = λ i. cond (beq s t) (together i) (cond (ltb-same a b x y (less a b x y d c D C p q) (more a b x y d c D C p q) i) (back i) (on i))
    where
      together : round f s (a + b) c ≡ round f s (x + y) d
      together = round_same f s (a + b) c (x + y) d C D (add-mul a b d ∙ (λ i. p i + q i) ∙ sym (add-mul x y c))

      back : round f t (b - a) c ≡ round f t (y - x) d
      back = round_same f t (b - a) c (y - x) d C D (sub-mul b a d ∙ (λ i. q i - p i) ∙ sym (sub-mul y x c))

      on : round f (s && ltb b a) (a - b) c ≡ round f (s && ltb y x) (x - y) d
      on =
          ap (λ (u : Bool). round f (s && u) (a - b) c) (ltb-same b a y x (less b a y x d c D C q p) (more b a y x d c D C q p))
          ∙ round_same f (s && ltb y x) (a - b) c (x - y) d C D (sub-mul a b d ∙ (λ i. p i - q i) ∙ sym (sub-mul x y c))

-- ---- in units
module _ (f : Format) (s t : Bool) (m n : ℕ) (e d : ℤ) (u : T (fits f (fin s m e))) (v : T (fits f (fin t n d))) where
  pub add-units : add f (fin s m e) (fin t n d) ≡ sum f s (mag (low f) m e) t (mag (low f) n d) (2 ^ low f)
  unfolding add
  add-units =
      let E = low-enough f s m e u in
      let D = low-enough f t n d v in
      sum_same f (m * up e * down d) (n * up d * down e) (down e * down d) (mag (low f) m e) (mag (low f) n d) (2 ^ low f) (mul-pos (down_pos e) (down_pos d)) (pow_pos (low f))
      (left f m n e d E D) (right f m n e d E D) s t

-- by a factor that is not negative
pub mul-units : (f : Format) (t : Bool) (m n : ℕ) (e d : ℤ) → T (fits f (fin t n d))
    → mul f (fin false m e) (fin t n d) ≡ round f t (m * up e * mag (low f) n d) (down e * 2 ^ low f)
unfolding mul
mul-units f t m n e d v =
    ap (λ (s : Bool). round f s (m * up e * (n * up d)) (down e * down d)) (its_own t)
    ∙ round_same f t (m * up e * (n * up d)) (down e * down d) (m * up e * mag (low f) n d) (down e * 2 ^ low f) (mul-pos (down_pos e) (down_pos d)) (mul-pos (down_pos e) (pow_pos (low f)))
    (mul-mul-mul_comm (m * up e) (n * up d) (down e) (2 ^ low f) ∙ ap (λ (z : ℕ). m * up e * down e * z) (sym (scaled (low f) n d (low-enough f t n d v)))
    ∙ sym (mul-mul-mul_comm (m * up e) (mag (low f) n d) (down e) (down d)))
  where
    its_own : (s : Bool) → unlike false s ≡ s
    its_own true = refl
    its_own false = refl
