-- The laws of the order key: doubles compare as their keys do, and values of one key are one value, unless both are zeros.
-- Two finite values are compared over a common scale, as fractions are. Assumes nothing.
use mathlib.Core.Path.{◌≡◌, refl, sym, ap, ◌∙◌, subst}
use mathlib.Core.Bool.{Bool, true, false, not, ◌&&◌, ◌||◌, and-true, false≢true}
use Prim.Native.Nat.{ℕ, zero, suc, ◌+◌, ◌-◌, ◌*◌, ◌%◌, ◌^◌, ◌≤◌, ◌<◌}
use native.Mathlib.Nat.{mul_assoc, mul_comm, mul_right_comm, mul_left_comm, mul-pos, mul-lt-mul_of_pos_right, lt_of_mul-lt-mul_right, eq_of_mul-eq-mul_right}
use native.Mathlib.Nat.{pow-suc, pow-succ', zero-lt-suc, add-mul, zero-mul, mul-one, not-le_of_lt}
use native.Mathlib.Omega.{arith}
use lib.IntN.{ℤ, pos, negsuc}
use lib.Pow.{pow-add, pow_pos, pow-lt}
use lib.Dec.{T, leb, ltb, eqb, ltb→lt, leb→le, eqb→eq, nleb→lt}
use lib.Ieee.{Float, nan, inf, fin, Format, prec, emax, low, up, down, neg, lt, le, eq, ne, fits, is_nan, below, level}
use lib.Ieee.Fits.{down_pos}
use borrow.Author.Tests.{ltb-true, ltb-false, leb-true, eqb-true, eqb-false, lt-ltb, le-ltb, le-leb, eq-eqb, ne_eqb}
use Rattle.order.specs.Key.{mag, big, key, num, is_zero}

-- ---- tests
and_l : (a b : Bool) → T (a && b) → T a
and_l true b t = tt
and_l false b t = t

and_r : (a b : Bool) → T (a && b) → T b
and_r true b t = t
and_r false b t = absurd t

-- ---- what fits
exp-le : (a b : ℕ) → 2 ^ a ≤ 2 ^ b → a ≤ b
exp-le a b h = go (leb a b) (leb→le a b) (nleb→lt a b)
  where
    go : (t : Bool) → (T t → a ≤ b) → (T (not t) → b < a) → a ≤ b
    go true p q = p tt
    go false p q = absurd (not-le_of_lt (pow-lt (q tt)) h)

pub scaled : (l m : ℕ) (e : ℤ) → down e ≤ 2 ^ l → mag l m e * down e ≡ m * up e * 2 ^ l
unfolding mag
scaled l m (pos k) h =
    mul-one (m * 2 ^ (l + k)) ∙ ap (λ (x : ℕ). m * x) (pow-add 2 l k ∙ mul_comm (2 ^ l) (2 ^ k)) ∙ sym (mul_assoc m (2 ^ k) (2 ^ l))
scaled l m (negsuc k) h =
    let s : l - suc k + suc k ≡ l = omega (arith, exp-le (suc k) l h) in
    mul_assoc m (2 ^ (l - suc k)) (2 ^ suc k) ∙ ap (λ (x : ℕ). m * x) (sym (pow-add 2 (l - suc k) (suc k)) ∙ ap (λ (x : ℕ). 2 ^ x) s)
    ∙ ap (λ (x : ℕ). x * 2 ^ l) (sym (mul-one m))

two-not-one : (k : ℕ) → 1 * 2 ^ suc k ≡ 1 → ⊥
two-not-one k e = omega (arith, pow_pos k, pow-suc 2 k)

pub low-enough : (f : Format) (s : Bool) (m : ℕ) (e : ℤ) → T (fits f (fin s m e)) → down e ≤ 2 ^ low f
unfolding fits
low-enough f s zero (pos k) t = pow_pos (low f)
low-enough f s zero (negsuc k) t = absurd (two-not-one k (eqb→eq (1 * 2 ^ suc k) 1 t))
low-enough f s (suc m) e t =
    leb→le (down e) (2 ^ low f)
    (and_r (eqb (suc m % 2) 1 && ltb (suc m) (2 ^ prec f)) (leb (down e) (2 ^ low f))
    (and_l (eqb (suc m % 2) 1 && ltb (suc m) (2 ^ prec f) && leb (down e) (2 ^ low f)) (ltb (suc m * up e) (2 ^ suc (emax f) * down e)) t))

mag-zero : (l : ℕ) (e : ℤ) → mag l zero e ≡ 0
unfolding mag
mag-zero l (pos k) = zero-mul (2 ^ (l + k))
mag-zero l (negsuc k) = zero-mul (2 ^ (l - suc k))

pub below-big : (f : Format) (s : Bool) (m : ℕ) (e : ℤ) → T (fits f (fin s m e)) → mag (low f) m e < big f
unfolding fits big
below-big f s zero e t = subst (λ (x : ℕ). x < 2 ^ suc (emax f) * 2 ^ low f) (sym (mag-zero (low f) e)) (mul-pos (pow_pos (suc (emax f))) (pow_pos (low f)))
below-big f s (suc m) e t =
    let b : suc m * up e < 2 ^ suc (emax f) * down e =
    ltb→lt (suc m * up e) (2 ^ suc (emax f) * down e) (and_r (eqb (suc m % 2) 1 && ltb (suc m) (2 ^ prec f) && leb (down e) (2 ^ low f)) (ltb (suc m * up e) (2 ^ suc (emax f) * down e)) t) in
    lt_of_mul-lt-mul_right (down e)
    (subst (λ (x : ℕ). x < 2 ^ suc (emax f) * 2 ^ low f * down e) (sym (scaled (low f) (suc m) e (low-enough f s (suc m) e t)))
    (subst (λ (x : ℕ). suc m * up e * 2 ^ low f < x) (mul_right_comm (2 ^ suc (emax f)) (down e) (2 ^ low f)) (mul-lt-mul_of_pos_right b (pow_pos (low f)))))

-- ---- two fractions over a common scale: a * c ≡ x * d and b * c ≡ y * d, so a and b compare as x and y do
module _ (a b x y c d : ℕ) (C : 0 < c) (D : 0 < d) (p : a * c ≡ x * d) (q : b * c ≡ y * d) where
  pub less : a < b → x < y
  less h = lt_of_mul-lt-mul_right d (subst (λ (z : ℕ). z < y * d) p (subst (λ (z : ℕ). a * c < z) q (mul-lt-mul_of_pos_right h C)))

  pub more : x < y → a < b
  more h = lt_of_mul-lt-mul_right c (subst (λ (z : ℕ). z < b * c) (sym p) (subst (λ (z : ℕ). x * d < z) (sym q) (mul-lt-mul_of_pos_right h D)))

-- the same as tests
pub ltb-same : (a b x y : ℕ) → (a < b → x < y) → (x < y → a < b) → ltb a b ≡ ltb x y
ltb-same a b x y u v = go (ltb a b) (ltb x y) (ltb-true a b) (ltb-true x y) (lt-ltb a b) (lt-ltb x y)
  where
    go : (s t : Bool) → (s ≡ true → a < b) → (t ≡ true → x < y) → (a < b → s ≡ true) → (x < y → t ≡ true) → s ≡ t
    go true t g h k l = sym (l (u (g refl)))
    go false true g h k l = k (v (h refl))
    go false false g h k l = refl

eqb_same : (a b x y : ℕ) → (a ≡ b → x ≡ y) → (x ≡ y → a ≡ b) → eqb a b ≡ eqb x y
eqb_same a b x y u v = go (eqb a b) (eqb x y) (eqb-true a b) (eqb-true x y) (eq-eqb a b) (eq-eqb x y)
  where
    go : (s t : Bool) → (s ≡ true → a ≡ b) → (t ≡ true → x ≡ y) → (a ≡ b → s ≡ true) → (x ≡ y → t ≡ true) → s ≡ t
    go true t g h k l = sym (l (u (g refl)))
    go false true g h k l = k (v (h refl))
    go false false g h k l = refl

leb-or : (a b : ℕ) → ltb a b || eqb a b ≡ leb a b
leb-or a b = go (ltb a b) (eqb a b) (leb a b) (ltb-true a b) (ltb-false a b) (eqb-true a b) (eqb-false a b) (leb-true a b) (le-leb a b)
  where
    go : (s t u : Bool) → (s ≡ true → a < b) → (s ≡ false → b ≤ a) → (t ≡ true → a ≡ b) → (t ≡ false → a ≡ b → ⊥) → (u ≡ true → a ≤ b) → (a ≤ b → u ≡ true) → s || t ≡ u
    go true t u g h i j k l = sym (l (omega (arith, g refl)))
    go false true u g h i j k l = sym (l (omega (arith, i refl)))
    go false false false g h i j k l = refl
    go false false true g h i j k l = absurd (j refl (omega (arith, h refl, k refl)))

-- ---- the comparisons
module _ (f : Format) (m n : ℕ) (e d : ℤ) (E : down e ≤ 2 ^ low f) (D : down d ≤ 2 ^ low f) where
  abbrev A : ℕ
  A = m * up e * down d

  abbrev B : ℕ
  B = n * up d * down e

  pub left : A * 2 ^ low f ≡ mag (low f) m e * (down e * down d)
  left = mul_right_comm (m * up e) (down d) (2 ^ low f) ∙ ap (λ (x : ℕ). x * down d) (sym (scaled (low f) m e E)) ∙ mul_assoc (mag (low f) m e) (down e) (down d)

  pub right : B * 2 ^ low f ≡ mag (low f) n d * (down e * down d)
  right =
      mul_right_comm (n * up d) (down e) (2 ^ low f) ∙ ap (λ (x : ℕ). x * down e) (sym (scaled (low f) n d D)) ∙ mul_assoc (mag (low f) n d) (down d) (down e)
      ∙ ap (λ (x : ℕ). mag (low f) n d * x) (mul_comm (down d) (down e))

  abbrev MA : ℕ
  MA = mag (low f) m e

  abbrev MB : ℕ
  MB = mag (low f) n d

  abbrev W : ℕ
  W = down e * down d

  W-pos : 0 < W
  W-pos = mul-pos (down_pos e) (down_pos d)

  both : (A + B) * 2 ^ low f ≡ (MA + MB) * W
  both = add-mul A B (2 ^ low f) ∙ ap (λ (z : ℕ). z + B * 2 ^ low f) left ∙ ap (λ (z : ℕ). MA * W + z) right ∙ sym (add-mul MA MB W)

  none : 0 * 2 ^ low f ≡ 0 * W
  none = zero-mul (2 ^ low f) ∙ sym (zero-mul W)

  ab→ : A < B → MA < MB
  ab→ = less A B MA MB (2 ^ low f) W (pow_pos (low f)) W-pos left right

  ab← : MA < MB → A < B
  ab← = more A B MA MB (2 ^ low f) W (pow_pos (low f)) W-pos left right

  ba→ : B < A → MB < MA
  ba→ = less B A MB MA (2 ^ low f) W (pow_pos (low f)) W-pos right left

  ba← : MB < MA → B < A
  ba← = more B A MB MA (2 ^ low f) W (pow_pos (low f)) W-pos right left

  sum→ : 0 < A + B → 0 < MA + MB
  sum→ = less 0 (A + B) 0 (MA + MB) (2 ^ low f) W (pow_pos (low f)) W-pos none both

  sum← : 0 < MA + MB → 0 < A + B
  sum← = more 0 (A + B) 0 (MA + MB) (2 ^ low f) W (pow_pos (low f)) W-pos none both

  below_key : (s t : Bool) → MA < big f → MB < big f → below s A t B ≡ ltb (key f (fin s m e)) (key f (fin t n d))
  unfolding key
  below_key false false a b = ltb-same A B (big f + MA) (big f + MB) (λ h. omega (arith, ab→ h)) (λ h. ab← (omega arith))
  below_key false true a b = sym (le-ltb (big f + MA) (big f - MB) (omega arith))
  below_key true false a b = ltb-same 0 (A + B) (big f - MA) (big f + MB) (λ h. omega (arith, sum→ h)) (λ h. sum← (omega arith))
  below_key true true a b = ltb-same B A (big f - MA) (big f - MB) (λ h. omega (arith, ba→ h)) (λ h. ba← (omega arith))

  same→ : A ≡ B → MA ≡ MB
  same→ h = eq_of_mul-eq-mul_right W W-pos MA MB (sym left ∙ ap (λ (z : ℕ). z * 2 ^ low f) h ∙ right)

  same← : MA ≡ MB → A ≡ B
  same← h = eq_of_mul-eq-mul_right (2 ^ low f) (pow_pos (low f)) A B (left ∙ ap (λ (z : ℕ). z * W) h ∙ sym right)

  level-zero : (x y : ℕ) → (A ≡ B → A ≡ 0 → x ≡ y) → (x ≡ y → (A ≡ B) × (A ≡ 0)) → eqb A B && eqb A 0 ≡ eqb x y
  level-zero x y u v = go (eqb A B) (eqb A 0) (eqb x y) (eqb-true A B) (eqb-true A 0) (eqb-true x y) (eq-eqb A B) (eq-eqb A 0) (eq-eqb x y)
    where
      go : (r s t : Bool) → (r ≡ true → A ≡ B) → (s ≡ true → A ≡ 0) → (t ≡ true → x ≡ y) → (A ≡ B → r ≡ true) → (A ≡ 0 → s ≡ true) → (x ≡ y → t ≡ true) → r && s ≡ t
      go true true t g h i j k l = sym (l (u (g refl) (h refl)))
      go true false true g h i j k l = k (v (i refl)).1
      go true false false g h i j k l = refl
      go false s true g h i j k l = j (v (i refl)).0
      go false s false g h i j k l = refl

  zero→ : A + B ≡ 0 → MA + MB ≡ 0
  zero→ h = eq_of_mul-eq-mul_right W W-pos (MA + MB) 0 (sym both ∙ ap (λ (z : ℕ). z * 2 ^ low f) h ∙ none)

  zero← : MA + MB ≡ 0 → A + B ≡ 0
  zero← h = eq_of_mul-eq-mul_right (2 ^ low f) (pow_pos (low f)) (A + B) 0 (both ∙ ap (λ (z : ℕ). z * W) h ∙ sym none)

  level-key : (s t : Bool) → MA < big f → MB < big f → level s A t B ≡ eqb (key f (fin s m e)) (key f (fin t n d))
  unfolding key
  level-key false false a b = and-true (eqb A B) ∙ eqb_same A B (big f + MA) (big f + MB) (λ h. omega (arith, same→ h)) (λ h. same← (omega arith))
  level-key true true a b = and-true (eqb A B) ∙ eqb_same A B (big f - MA) (big f - MB) (λ h. omega (arith, same→ h)) (λ h. same← (omega arith))
  level-key false true a b =
      level-zero (big f + MA) (big f - MB) (λ h z. omega (arith, zero→ (omega arith))) (λ h. let k : A + B ≡ 0 = zero← (omega arith) in (omega arith, omega arith))
  level-key true false a b =
      level-zero (big f - MA) (big f + MB) (λ h z. omega (arith, zero→ (omega arith))) (λ h. let k : A + B ≡ 0 = zero← (omega arith) in (omega arith, omega arith))

-- ---- the laws
of_num : (f : Format) (x : Float) → num f x ≡ true → T (fits f x) × T (not (is_nan x))
of_num f x p = (and_l (fits f x) (not (is_nan x)) (subst T (sym p) tt), and_r (fits f x) (not (is_nan x)) (subst T (sym p) tt))

big-pos : (f : Format) → 0 < big f
unfolding big
big-pos f = mul-pos (pow_pos (suc (emax f))) (pow_pos (low f))

lt_at : (f : Format) (x y : Float) → T (fits f x) → T (not (is_nan x)) → T (fits f y) → T (not (is_nan y)) → lt x y ≡ ltb (key f x) (key f y)
unfolding lt is_nan
lt_at f nan y p a q b = absurd a
lt_at f (inf s) nan p a q b = absurd b
lt_at f (fin s m e) nan p a q b = absurd b
lt_at f (inf true) (inf true) p a q b = unfold key in refl
lt_at f (inf true) (inf false) p a q b = unfold key in sym (lt-ltb 0 (2 * big f) (omega (arith, big-pos f)))
lt_at f (inf false) (inf true) p a q b = unfold key in sym (le-ltb (2 * big f) 0 (omega arith))
lt_at f (inf false) (inf false) p a q b = unfold key in sym (le-ltb (2 * big f) (2 * big f) (omega arith))
lt_at f (inf true) (fin true n d) p a q b = unfold key in sym (lt-ltb 0 (big f - mag (low f) n d) (omega (arith, below-big f true n d q)))
lt_at f (inf true) (fin false n d) p a q b = unfold key in sym (lt-ltb 0 (big f + mag (low f) n d) (omega (arith, big-pos f)))
lt_at f (inf false) (fin true n d) p a q b = unfold key in sym (le-ltb (2 * big f) (big f - mag (low f) n d) (omega arith))
lt_at f (inf false) (fin false n d) p a q b = unfold key in sym (le-ltb (2 * big f) (big f + mag (low f) n d) (omega (arith, below-big f false n d q)))
lt_at f (fin true m e) (inf true) p a q b = unfold key in sym (le-ltb (big f - mag (low f) m e) 0 (omega arith))
lt_at f (fin false m e) (inf true) p a q b = unfold key in sym (le-ltb (big f + mag (low f) m e) 0 (omega arith))
lt_at f (fin true m e) (inf false) p a q b = unfold key in sym (lt-ltb (big f - mag (low f) m e) (2 * big f) (omega (arith, big-pos f)))
lt_at f (fin false m e) (inf false) p a q b = unfold key in sym (lt-ltb (big f + mag (low f) m e) (2 * big f) (omega (arith, below-big f false m e p)))
lt_at f (fin s m e) (fin t n d) p a q b = below_key f m n e d (low-enough f s m e p) (low-enough f t n d q) s t (below-big f s m e p) (below-big f t n d q)

eq-at : (f : Format) (x y : Float) → T (fits f x) → T (not (is_nan x)) → T (fits f y) → T (not (is_nan y)) → eq x y ≡ eqb (key f x) (key f y)
unfolding eq is_nan
eq-at f nan y p a q b = absurd a
eq-at f (inf s) nan p a q b = absurd b
eq-at f (fin s m e) nan p a q b = absurd b
eq-at f (inf true) (inf true) p a q b = unfold key in refl
eq-at f (inf true) (inf false) p a q b = unfold key in sym (ne_eqb 0 (2 * big f) (omega (arith, big-pos f)))
eq-at f (inf false) (inf true) p a q b = unfold key in sym (ne_eqb (2 * big f) 0 (omega (arith, big-pos f)))
eq-at f (inf false) (inf false) p a q b = unfold key in sym (eq-eqb (2 * big f) (2 * big f) refl)
eq-at f (inf true) (fin true n d) p a q b = unfold key in sym (ne_eqb 0 (big f - mag (low f) n d) (omega (arith, below-big f true n d q)))
eq-at f (inf true) (fin false n d) p a q b = unfold key in sym (ne_eqb 0 (big f + mag (low f) n d) (omega (arith, big-pos f)))
eq-at f (inf false) (fin true n d) p a q b = unfold key in sym (ne_eqb (2 * big f) (big f - mag (low f) n d) (omega (arith, big-pos f)))
eq-at f (inf false) (fin false n d) p a q b = unfold key in sym (ne_eqb (2 * big f) (big f + mag (low f) n d) (omega (arith, below-big f false n d q)))
eq-at f (fin true m e) (inf true) p a q b = unfold key in sym (ne_eqb (big f - mag (low f) m e) 0 (omega (arith, below-big f true m e p)))
eq-at f (fin false m e) (inf true) p a q b = unfold key in sym (ne_eqb (big f + mag (low f) m e) 0 (omega (arith, big-pos f)))
eq-at f (fin true m e) (inf false) p a q b = unfold key in sym (ne_eqb (big f - mag (low f) m e) (2 * big f) (omega (arith, big-pos f)))
eq-at f (fin false m e) (inf false) p a q b = unfold key in sym (ne_eqb (big f + mag (low f) m e) (2 * big f) (omega (arith, below-big f false m e p)))
eq-at f (fin s m e) (fin t n d) p a q b = level-key f m n e d (low-enough f s m e p) (low-enough f t n d q) s t (below-big f s m e p) (below-big f t n d q)

module _ (f : Format) (x y : Float) (p : num f x ≡ true) (q : num f y ≡ true) where
  pub lt-key : lt x y ≡ ltb (key f x) (key f y)
  lt-key = lt_at f x y (of_num f x p).0 (of_num f x p).1 (of_num f y q).0 (of_num f y q).1

  pub eq-key : eq x y ≡ eqb (key f x) (key f y)
  eq-key = eq-at f x y (of_num f x p).0 (of_num f x p).1 (of_num f y q).0 (of_num f y q).1

  pub le-key : le x y ≡ leb (key f x) (key f y)
  unfolding le
  le-key = ap (λ (b : Bool). b || eq x y) lt-key ∙ ap (λ (b : Bool). ltb (key f x) (key f y) || b) eq-key ∙ leb-or (key f x) (key f y)

  pub ne-key : ne x y ≡ not (eqb (key f x) (key f y))
  unfolding ne
  ne-key = ap not eq-key

-- ---- values of one key are one value, unless both are zeros
even_odd : (m t : ℕ) → m % 2 ≡ 1 → m ≡ 2 * t → ⊥
even_odd m t o h = omega arith

odd_pow : (m n a b : ℕ) → m % 2 ≡ 1 → n % 2 ≡ 1 → m * 2 ^ a ≡ n * 2 ^ b → (m ≡ n) × (a ≡ b)
odd_pow m n zero zero o p h = (sym (mul-one m) ∙ h ∙ mul-one n, refl)
odd_pow m n zero (suc b) o p h = absurd (even_odd m (n * 2 ^ b) o (sym (mul-one m) ∙ h ∙ ap (λ (x : ℕ). n * x) (pow-succ' 2 b) ∙ mul_left_comm n 2 (2 ^ b)))
odd_pow m n (suc a) zero o p h = absurd (even_odd n (m * 2 ^ a) p (sym (mul-one n) ∙ sym h ∙ ap (λ (x : ℕ). m * x) (pow-succ' 2 a) ∙ mul_left_comm m 2 (2 ^ a)))
odd_pow m n (suc a) (suc b) o p h =
    let r = odd_pow m n a b o p (eq_of_mul-eq-mul_right 2 (zero-lt-suc 1) (m * 2 ^ a) (n * 2 ^ b)
    (mul_assoc m (2 ^ a) 2 ∙ ap (λ (x : ℕ). m * x) (sym (pow-suc 2 a)) ∙ h ∙ ap (λ (x : ℕ). n * x) (pow-suc 2 b) ∙ sym (mul_assoc n (2 ^ b) 2))) in
    (r.0, ap suc r.1)

expo : ℕ → ℤ → ℕ
expo l (pos k) = l + k
expo l (negsuc k) = l - suc k

mag-expo : (l m : ℕ) (e : ℤ) → mag l m e ≡ m * 2 ^ expo l e
unfolding mag expo
mag-expo l m (pos k) = refl
mag-expo l m (negsuc k) = refl

same-expo : (l : ℕ) (e d : ℤ) → down e ≤ 2 ^ l → down d ≤ 2 ^ l → expo l e ≡ expo l d → e ≡ d
unfolding expo
same-expo l (pos j) (pos k) a b h = ap pos (omega arith)
same-expo l (pos j) (negsuc k) a b h = absurd (omega (arith, exp-le (suc k) l b))
same-expo l (negsuc j) (pos k) a b h = absurd (omega (arith, exp-le (suc j) l a))
same-expo l (negsuc j) (negsuc k) a b h = ap negsuc (omega (arith, exp-le (suc j) l a, exp-le (suc k) l b))

is_odd : (f : Format) (s : Bool) (m : ℕ) (e : ℤ) → T (fits f (fin s (suc m) e)) → suc m % 2 ≡ 1
unfolding fits
is_odd f s m e t =
    eqb→eq (suc m % 2) 1 (and_l (eqb (suc m % 2) 1) (ltb (suc m) (2 ^ prec f)) (and_l (eqb (suc m % 2) 1 && ltb (suc m) (2 ^ prec f)) (leb (down e) (2 ^ low f))
    (and_l (eqb (suc m % 2) 1 && ltb (suc m) (2 ^ prec f) && leb (down e) (2 ^ low f)) (ltb (suc m * up e) (2 ^ suc (emax f) * down e)) t)))

mag-pos : (l m : ℕ) (e : ℤ) → 0 < mag l (suc m) e
unfolding mag
mag-pos l m (pos k) = mul-pos (zero-lt-suc m) (pow_pos (l + k))
mag-pos l m (negsuc k) = mul-pos (zero-lt-suc m) (pow_pos (l - suc k))

mag-none : (l m : ℕ) (e : ℤ) → mag l m e ≡ 0 → m ≡ 0
mag-none l zero e h = refl
mag-none l (suc m) e h = absurd (omega (arith, mag-pos l m e))

same-fin : (f : Format) (s : Bool) (m n : ℕ) (e d : ℤ) → T (fits f (fin s m e)) → T (fits f (fin s n d)) → (m ≡ 0 → ⊥) → mag (low f) m e ≡ mag (low f) n d → fin s m e ≡ fin s n d
same-fin f s zero n e d p q z h = absurd (z refl)
same-fin f s (suc m) zero e d p q z h = absurd (z (mag-none (low f) (suc m) e (h ∙ mag-zero (low f) d)))
same-fin f s (suc m) (suc n) e d p q z h =
    let r = odd_pow (suc m) (suc n) (expo (low f) e) (expo (low f) d) (is_odd f s m e p) (is_odd f s n d q) (sym (mag-expo (low f) (suc m) e) ∙ h ∙ mag-expo (low f) (suc n) d) in
    let g = same-expo (low f) e d (low-enough f s (suc m) e p) (low-enough f s (suc n) d q) r.1 in
    λ i. fin s (r.0 i) (g i)

same_at : (f : Format) (x y : Float) → T (fits f x) → T (not (is_nan x)) → T (fits f y) → T (not (is_nan y)) → is_zero x ≡ false → key f x ≡ key f y → x ≡ y
unfolding is_nan key
same_at f nan y p a q b z h = absurd a
same_at f (inf s) nan p a q b z h = absurd b
same_at f (fin s m e) nan p a q b z h = absurd b
same_at f (inf true) (inf true) p a q b z h = refl
same_at f (inf true) (inf false) p a q b z h = absurd (omega (arith, big-pos f))
same_at f (inf false) (inf true) p a q b z h = absurd (omega (arith, big-pos f))
same_at f (inf false) (inf false) p a q b z h = refl
same_at f (inf true) (fin true n d) p a q b z h = absurd (omega (arith, below-big f true n d q))
same_at f (inf true) (fin false n d) p a q b z h = absurd (omega (arith, big-pos f))
same_at f (inf false) (fin true n d) p a q b z h = absurd (omega (arith, big-pos f))
same_at f (inf false) (fin false n d) p a q b z h = absurd (omega (arith, below-big f false n d q))
same_at f (fin true m e) (inf true) p a q b z h = absurd (omega (arith, below-big f true m e p))
same_at f (fin false m e) (inf true) p a q b z h = absurd (omega (arith, big-pos f))
same_at f (fin true m e) (inf false) p a q b z h = absurd (omega (arith, big-pos f))
same_at f (fin false m e) (inf false) p a q b z h = absurd (omega (arith, below-big f false m e p))
same_at f (fin true m e) (fin true n d) p a q b z h =
    same-fin f true m n e d p q (unfold is_zero in eqb-false m 0 z) (omega (arith, below-big f true m e p, below-big f true n d q))
same_at f (fin false m e) (fin false n d) p a q b z h = same-fin f false m n e d p q (unfold is_zero in eqb-false m 0 z) (omega arith)
same_at f (fin true m e) (fin false n d) p a q b z h =
    absurd (unfold is_zero in eqb-false m 0 z (mag-none (low f) m e (omega (arith, below-big f true m e p))))
same_at f (fin false m e) (fin true n d) p a q b z h =
    absurd (unfold is_zero in eqb-false m 0 z (mag-none (low f) m e (omega (arith, below-big f true n d q))))

pub same_key : (f : Format) (x y : Float) → num f x ≡ true → num f y ≡ true → is_zero x ≡ false → key f x ≡ key f y → x ≡ y
same_key f x y p q z h = same_at f x y (of_num f x p).0 (of_num f x p).1 (of_num f y q).0 (of_num f y q).1 z h

zero-mag : (l m : ℕ) (e : ℤ) → m ≡ 0 → mag l m e ≡ 0
zero-mag l m e h = subst (λ (n : ℕ). mag l n e ≡ 0) (sym h) (mag-zero l e)

-- both zeros have the middle key
pub zero-key : (f : Format) (x : Float) → is_zero x ≡ true → key f x ≡ big f
unfolding is_zero key
zero-key f nan h = absurd (false≢true h)
zero-key f (inf true) h = absurd (false≢true h)
zero-key f (inf false) h = absurd (false≢true h)
zero-key f (fin true m e) h = omega (arith, zero-mag (low f) m e (eqb-true m 0 h))
zero-key f (fin false m e) h = omega (arith, zero-mag (low f) m e (eqb-true m 0 h))

-- no key is above twice the middle
pub key-top : (f : Format) (x : Float) → num f x ≡ true → key f x ≤ 2 * big f
unfolding key
key-top f nan h = omega arith
key-top f (inf true) h = omega arith
key-top f (inf false) h = omega arith
key-top f (fin true m e) h = omega arith
key-top f (fin false m e) h = omega (arith, below-big f false m e (of_num f (fin false m e) h).0)

-- a sign turned about mirrors the key at the middle
pub neg-key : (f : Format) (x : Float) → num f x ≡ true → key f (neg x) ≡ 2 * big f - key f x
unfolding key neg is_nan
neg-key f nan h = absurd (of_num f nan h).1
neg-key f (inf true) h = omega arith
neg-key f (inf false) h = omega arith
neg-key f (fin true m e) h = omega (arith, below-big f true m e (of_num f (fin true m e) h).0)
neg-key f (fin false m e) h = omega arith

pub neg-num : (f : Format) (x : Float) → num f x ≡ true → num f (neg x) ≡ true
unfolding neg fits is_nan
neg-num f nan h = h
neg-num f (inf s) h = refl
neg-num f (fin s zero e) h = h
neg-num f (fin s (suc m) e) h = h
