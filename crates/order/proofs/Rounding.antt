-- Rounded results by their keys. The key of a sum is a function of the operands' keys that never falls (`at`), and so is that of a product by a factor that
-- is not negative; the signs of zeros do not show in it. `round_mono` of the library says it of what is not negative, and a sign turned about mirrors it.
-- Assumes nothing.
use mathlib.Core.Path.{◌≡◌, refl, sym, ap, ◌∙◌, subst}
use mathlib.Core.Bool.{Bool, true, false, not, cond, ◌&&◌, beq}
use Prim.Native.Nat.{ℕ, zero, suc, ◌+◌, ◌-◌, ◌*◌, ◌^◌, ◌≤◌, ◌<◌}
use native.Mathlib.Nat.{le_refl, mul-pos, mul-zero, zero-mul, mul-le-mul_left, mul-le-mul_right}
use native.Mathlib.Omega.{arith}
use lib.Pow.{pow_pos}
use lib.Dec.{T, ltb}
use lib.IntN.{ℤ}
use lib.Ieee.{Float, nan, inf, fin, Format, binary32, binary64, prec, emax, low, unlike, up, down, fits, is_nan, odd, units, round, sum, neg, add, mul, lt, le, eq}
use lib.Ieee.Bits.{is_true}
use lib.Ieee.Fits.{down_pos, round_is, round-fits, and_l, and_r}
use lib.Ieee.Order.{round_mono}
use lib.Ieee.Scale.{round_same}
use borrow.Author.Tests.{ltb-true, ltb-false, le-ltb, leb-true}
use Rattle.order.specs.Key.{mag, big, key, num, real}
use Rattle.order.proofs.Keys.{below-big, le-key, neg-key, neg-num}
use Rattle.order.proofs.Units.{add-units, mul-units}

-- ---- a rounded fraction, and the same with the sign turned about
odd-turned : (d : ℕ) (q k l : ℕ) → odd d true q k l ≡ neg (odd d false q k l)
unfolding odd neg
odd-turned d zero k l = refl
odd-turned d (suc q) k l = refl

units-turned : (f : Format) (q k : ℕ) → units f true q k ≡ neg (units f false q k)
unfolding units
units-turned f q k = go (ltb (q * 2 ^ k) (2 ^ (low f + suc (emax f))))
  where
    go : (t : Bool) → cond t (odd (suc (prec f)) true q k (low f)) (inf true) ≡ neg (cond t (odd (suc (prec f)) false q k (low f)) (inf false))
    go true = odd-turned (suc (prec f)) q k (low f)
    go false = unfold neg in refl

-- a NaN is not at most itself
no_nan : (x : Float) → T (le x x) → not (is_nan x) ≡ true
unfolding le lt eq is_nan
no_nan nan h = absurd h
no_nan (inf s) h = refl
no_nan (fin s m e) h = refl

module _ (f : Format) (d : ℕ) (D : 0 < d) where
  abbrev up_key : ℕ → ℕ
  up_key a = key f (round f false a d)

  up-num : (a : ℕ) → num f (round f false a d) ≡ true
  up-num a =
      let x = round f false a d in
      λ i. is_true (fits f x) (round-fits f false a d) i && no_nan x (round_mono f a d a d D D (le_refl (a * d))) i

  turned : (a : ℕ) → round f true a d ≡ neg (round f false a d)
  turned a = round_is f true a d ∙ units-turned f _ _ ∙ ap neg (sym (round_is f false a d))

  round-num : (a : ℕ) (s : Bool) → num f (round f s a d) ≡ true
  round-num a false = up-num a
  round-num a true = subst (λ (x : Float). num f x ≡ true) (sym (turned a)) (neg-num f (round f false a d) (up-num a))

  down_key : (a : ℕ) → key f (round f true a d) ≡ 2 * big f - up_key a
  down_key a = ap (key f) (turned a) ∙ neg-key f (round f false a d) (up-num a)

  up_none : up_key 0 ≡ big f
  up_none = ap (key f) (round_same f false 0 d 0 1 D (pow_pos 0) (sym (zero-mul d))) ∙ at_one f
    where
      at_one : (g : Format) → key g (round g false 0 1) ≡ big g
      at_one binary32 = unfold round key mag big in refl
      at_one binary64 = unfold round key mag big in refl

  up-rises : (a b : ℕ) → a ≤ b → up_key a ≤ up_key b
  up-rises a b h =
      leb-true _ _ (sym (le-key f (round f false a d) (round f false b d) (up-num a) (up-num b)) ∙ is_true _ (round_mono f a d b d D D (mul-le-mul_right d h)))

-- ---- the key of j - c rounded, r a being that of a where a is not negative
at : Format → (ℕ → ℕ) → ℕ → ℕ → ℕ
at f r c j = cond (ltb j c) (2 * big f - r (c - j)) (r (j - c))

module _ (f : Format) (r : ℕ → ℕ) (rises : (a b : ℕ) → a ≤ b → r a ≤ r b) (none : r 0 ≡ big f) (c j : ℕ) where
  at-rises : (k : ℕ) → j ≤ k → at f r c j ≤ at f r c k
  unfolding at
  at-rises k h = go (ltb j c) (ltb k c) (ltb-true j c) (ltb-false j c) (ltb-true k c) (ltb-false k c)
    where
      go : (s t : Bool) → (s ≡ true → j < c) → (s ≡ false → c ≤ j) → (t ≡ true → k < c) → (t ≡ false → c ≤ k)
          → cond s (2 * big f - r (c - j)) (r (j - c)) ≤ cond t (2 * big f - r (c - k)) (r (k - c))
      go true true p p' q q' = omega (arith, rises (c - k) (c - j) (omega arith))
      go true false p p' q q' = omega (arith, rises 0 (c - j) (omega arith), rises 0 (k - c) (omega arith))
      go false true p p' q q' = absurd (omega (arith, p' refl, q refl))
      go false false p p' q q' = omega (arith, rises (j - c) (k - c) (omega arith))

  at_above : (n : ℕ) → j ≡ c + n → r n ≡ at f r c j
  unfolding at
  at_above n h =
      let l : c ≤ j = omega arith in
      let e : n ≡ j - c = omega arith in
      rw (le-ltb j c l) (ap r e)

  at-below : (n : ℕ) → j + n ≡ c → 2 * big f - r n ≡ at f r c j
  unfolding at
  at-below n h = go (ltb j c) (ltb-true j c) (ltb-false j c)
    where
      go : (t : Bool) → (t ≡ true → j < c) → (t ≡ false → c ≤ j) → 2 * big f - r n ≡ cond t (2 * big f - r (c - j)) (r (j - c))
      go true p q = let e : n ≡ c - j = omega arith in ap (λ (z : ℕ). 2 * big f - r z) e
      go false p q =
          let e : n ≡ 0 = omega (arith, q refl) in
          let e' : j - c ≡ 0 = omega (arith, q refl) in
          rw (e, e') (omega arith)

-- ---- finite values
-- what one is made of
pub data Finite (f : Format) : Float → Type 0 where
  made : {s : Bool} {m : ℕ} {e : ℤ} → T (fits f (fin s m e)) → Finite f (fin s m e)

pub finite-made : (f : Format) (x : Float) → real f x ≡ true → Finite f x
finite-made f nan h = absurd (and_r (fits f nan) false (subst T (sym h) tt))
finite-made f (inf s) h = absurd (and_r (fits f (inf s)) false (subst T (sym h) tt))
finite-made f (fin s m e) h = made (and_l (fits f (fin s m e)) true (subst T (sym h) tt))

key-signed : (f : Format) (s : Bool) (m : ℕ) (e : ℤ) → key f (fin s m e) ≡ cond s (big f - mag (low f) m e) (big f + mag (low f) m e)
unfolding key
key-signed f true m e = refl
key-signed f false m e = refl

-- ---- sums
module _ (f : Format) where
  abbrev unit : ℕ
  unit = 2 ^ low f

  abbrev sum_at : ℕ → ℕ
  sum_at j = at f (up_key f unit (pow_pos (low f))) (2 * big f) j

  sum-rises : (j k : ℕ) → j ≤ k → sum_at j ≤ sum_at k
  sum-rises j k h = at-rises f _ (up-rises f unit (pow_pos (low f))) (up_none f unit (pow_pos (low f))) (2 * big f) j k h

  above : (j n : ℕ) → j ≡ 2 * big f + n → key f (round f false n unit) ≡ sum_at j
  above j n h = at_above f _ (up-rises f unit (pow_pos (low f))) (up_none f unit (pow_pos (low f))) (2 * big f) j n h

  under : (j n : ℕ) → j + n ≡ 2 * big f → key f (round f true n unit) ≡ sum_at j
  under j n h = down_key f unit (pow_pos (low f)) n ∙ at-below f _ (up-rises f unit (pow_pos (low f))) (up_none f unit (pow_pos (low f))) (2 * big f) j n h

  -- the sum of x and y units, of either sign, with the keys j and k
  sum-key : (s t : Bool) (x y j k : ℕ) → x < big f → y < big f → j ≡ cond s (big f - x) (big f + x) → k ≡ cond t (big f - y) (big f + y)
      → key f (sum f s x t y unit) ≡ sum_at (j + k)
  unfolding sum
  sum-key false false x y j k p q u v = above (j + k) (x + y) (omega arith)
  sum-key true true x y j k p q u v = under (j + k) (x + y) (omega arith)
  sum-key false true x y j k p q u v = go (ltb x y) (ltb-true x y) (ltb-false x y)
    where
      go : (a : Bool) → (a ≡ true → x < y) → (a ≡ false → y ≤ x) → key f (cond a (round f true (y - x) unit) (round f false (x - y) unit)) ≡ sum_at (j + k)
      go true l m = under (j + k) (y - x) (omega (arith, l refl))
      go false l m = above (j + k) (x - y) (omega (arith, m refl))
  sum-key true false x y j k p q u v = go (ltb x y) (ltb y x) (ltb-true x y) (ltb-false x y) (ltb-false y x)
    where
      go : (a b : Bool) → (a ≡ true → x < y) → (a ≡ false → y ≤ x) → (b ≡ false → x ≤ y) → key f (cond a (round f false (y - x) unit) (round f b (x - y) unit)) ≡ sum_at (j + k)
      go true b l m n = above (j + k) (y - x) (omega (arith, l refl))
      go false true l m n = under (j + k) (x - y) (omega (arith, m refl))
      go false false l m n = above (j + k) (x - y) (omega (arith, m refl, n refl))

  sum-num : (s t : Bool) (x y d : ℕ) → 0 < d → num f (sum f s x t y d) ≡ true
  unfolding sum
  sum-num s t x y d D = go (beq s t) (ltb x y)
    where
      go : (a b : Bool) → num f (cond a (round f s (x + y) d) (cond b (round f t (y - x) d) (round f (s && ltb y x) (x - y) d))) ≡ true
      go true b = round-num f d D (x + y) s
      go false true = round-num f d D (y - x) t
      go false false = round-num f d D (x - y) (s && ltb y x)

module _ (f : Format) where
  pub sum-is-num : {x y : Float} → Finite f x → Finite f y → num f (add f x y) ≡ true
  unfolding add
  sum-is-num (made {s = s} {m = m} {e = e} p) (made {s = t} {m = n} {e = d} q) =
      sum-num f s t (m * up e * down d) (n * up d * down e) (down e * down d) (mul-pos (down_pos e) (down_pos d))

  add-key : {x y : Float} → Finite f x → Finite f y → key f (add f x y) ≡ sum_at f (key f x + key f y)
  add-key (made {s = s} {m = m} {e = e} p) (made {s = t} {m = n} {e = d} q) =
      ap (key f) (add-units f s t m n e d p q)
      ∙ sum-key f s t (mag (low f) m e) (mag (low f) n d) (key f (fin s m e)) (key f (fin t n d)) (below-big f s m e p) (below-big f t n d q) (key-signed f s m e) (key-signed f t n d)

pub add-rises : (f : Format) {x x' y y' : Float} → Finite f x → Finite f x' → Finite f y → Finite f y' → key f x + key f y ≤ key f x' + key f y'
    → key f (add f x y) ≤ key f (add f x' y')
add-rises f p p' q q' h = rw (add-key f p q, add-key f p' q') (sum-rises f _ _ h)

-- where the exact sum is known by the keys, in units: it is minus n, at most n, at least n
module _ (f : Format) {x y : Float} (p : Finite f x) (q : Finite f y) (n : ℕ) where
  pub sum-minus : key f x + key f y + n ≡ 2 * big f → key f (add f x y) ≡ 2 * big f - key f (round f false n (2 ^ low f))
  sum-minus h = add-key f p q ∙ sym (under f _ n h) ∙ down_key f (unit f) (pow_pos (low f)) n

  pub sum-most : key f x + key f y ≤ 2 * big f + n → key f (add f x y) ≤ key f (round f false n (2 ^ low f))
  sum-most h = rw (add-key f p q, above f (2 * big f + n) n refl) (sum-rises f _ _ h)

  pub sum-least : 2 * big f + n ≤ key f x + key f y → key f (round f false n (2 ^ low f)) ≤ key f (add f x y)
  sum-least h = rw (add-key f p q, above f (2 * big f + n) n refl) (sum-rises f _ _ h)

-- ---- products by m * 2 ^ e
module _ (f : Format) (m : ℕ) (e : ℤ) where
  abbrev over : ℕ
  over = down e * 2 ^ low f

  over-pos : 0 < over
  over-pos = mul-pos (down_pos e) (pow_pos (low f))

  abbrev times : ℕ → ℕ
  times a = up_key f over over-pos (m * up e * a)

  times-rises : (a b : ℕ) → a ≤ b → times a ≤ times b
  times-rises a b h = up-rises f over over-pos (m * up e * a) (m * up e * b) (mul-le-mul_left (m * up e) h)

  times_none : times 0 ≡ big f
  times_none = ap (up_key f over over-pos) (mul-zero (m * up e)) ∙ up_none f over over-pos

  pub product-num : {y : Float} → Finite f y → num f (mul f (fin false m e) y) ≡ true
  unfolding mul
  product-num (made {s = t} {m = n} {e = d} q) = round-num f (down e * down d) (mul-pos (down_pos e) (down_pos d)) (m * up e * (n * up d)) (unlike false t)

  mul-key : {y : Float} → Finite f y → key f (mul f (fin false m e) y) ≡ at f times (big f) (key f y)
  mul-key (made {s = t} {m = n} {e = d} q) = ap (key f) (mul-units f t m n e d q) ∙ go t (below-big f t n d q)
    where
      go : (s : Bool) → mag (low f) n d < big f → key f (round f s (m * up e * mag (low f) n d) over) ≡ at f times (big f) (key f (fin s n d))
      go false b = at_above f times times-rises times_none (big f) (key f (fin false n d)) (mag (low f) n d) (key-signed f false n d)
      go true b =
          down_key f over over-pos (m * up e * mag (low f) n d)
          ∙ at-below f times times-rises times_none (big f) (key f (fin true n d)) (mag (low f) n d) (omega (arith, key-signed f true n d))

  pub mul-rises : {y y' : Float} → Finite f y → Finite f y' → key f y ≤ key f y' → key f (mul f (fin false m e) y) ≤ key f (mul f (fin false m e) y')
  mul-rises q q' h = rw (mul-key q, mul-key q') (at-rises f times times-rises times_none (big f) _ _ h)
