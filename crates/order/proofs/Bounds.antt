-- Bounds of rounded results: what is worked out from numbers that lie between finite doubles lies between the results at the ends, which antt computes
-- where the ends are constants. Assumes nothing.
use mathlib.Core.Path.{◌≡◌}
use mathlib.Core.Bool.{Bool, true, false, not, ◌&&◌}
use lib.Ieee.{Float, binary64, fits, is_nan, add, sub, mul, le}
use lib.Ieee.Positive.{positive}
use Rattle.order.specs.Key.{Num, Real}
use Rattle.order.proofs.Ranks.{and_l, and_r}
use Rattle.order.proofs.Facts.{le_refl, le_trans, lt-le, not-le}
use Rattle.order.proofs.Monotone.{real-num, real-between, add-num, sub-num, mul-num, add-mono, sub-mono, mul_mono}

-- x is a finite number from a to b, which are finite
pub record Between (a b x : Float) : Type 0 where
  pub real-low : Real a ≡ true
  pub real-high : Real b ≡ true
  pub real : Real x ≡ true
  pub low : le a x ≡ true
  pub high : le x b ≡ true

pub between : (a b x : Float) → Real a ≡ true → Real b ≡ true → fits binary64 x ≡ true → le a x ≡ true → le x b ≡ true → Between a b x
between a b x ha hb f p q = record { real-low = ha; real-high = hb; real = real-between a x b ha hb f p q; low = p; high = q }

-- a constant
pub fixed : (c : Float) → Real c ≡ true → Between c c c
fixed c h = record { real-low = h; real-high = h; real = h; low = le_refl c (real-num c h); high = le_refl c (real-num c h) }

-- a and b are finite, a is at most u, and v is at most b
abbrev pub bounds : Float → Float → Float → Float → Bool
bounds a b u v = Real a && Real b && (le a u && le v b)

settle : (a b u v x : Float) → bounds a b u v ≡ true → Num u ≡ true → Num v ≡ true → Num x ≡ true → le u x ≡ true → le x v ≡ true → Between a b x
settle a b u v x h nu nv nx p q =
    let hab = and_l (Real a && Real b) (le a u && le v b) h in
    let huv = and_r (Real a && Real b) (le a u && le v b) h in
    let ha = and_l (Real a) (Real b) hab in
    let hb = and_r (Real a) (Real b) hab in
    between a b x ha hb (and_l (fits binary64 x) (not (is_nan x)) nx)
    (le_trans a u x (real-num a ha) nu nx (and_l (le a u) (le v b) huv) p) (le_trans x v b nx nv (real-num b hb) q (and_r (le a u) (le v b) huv))

pub add-between : {a b x c d y : Float} (l h : Float) → Between a b x → Between c d y → bounds l h (add binary64 a c) (add binary64 b d) ≡ true → Between l h (add binary64 x y)
add-between {a} {b} {x} {c} {d} {y} l h p q k =
    settle l h (add binary64 a c) (add binary64 b d) (add binary64 x y) k (add-num a c p.real-low q.real-low) (add-num b d p.real-high q.real-high) (add-num x y p.real q.real)
    (add-mono a x c y p.real-low p.real q.real-low q.real p.low q.low) (add-mono x b y d p.real p.real-high q.real q.real-high p.high q.high)

pub sub-between : {a b x c d y : Float} (l h : Float) → Between a b x → Between c d y → bounds l h (sub binary64 a d) (sub binary64 b c) ≡ true → Between l h (sub binary64 x y)
sub-between {a} {b} {x} {c} {d} {y} l h p q k =
    settle l h (sub binary64 a d) (sub binary64 b c) (sub binary64 x y) k (sub-num a d p.real-low q.real-high) (sub-num b c p.real-high q.real-low) (sub-num x y p.real q.real)
    (sub-mono a x d y p.real-low p.real q.real-high q.real p.low q.high) (sub-mono x b y c p.real p.real-high q.real q.real-low p.high q.low)

pub mul-between : {a b x : Float} (c l h : Float) → positive c ≡ true → Between a b x → bounds l h (mul binary64 c a) (mul binary64 c b) ≡ true → Between l h (mul binary64 c x)
mul-between {a} {b} {x} c l h t p k =
    settle l h (mul binary64 c a) (mul binary64 c b) (mul binary64 c x) k (mul-num c t a p.real-low) (mul-num c t b p.real-high) (mul-num c t x p.real)
    (mul_mono c t a x p.real-low p.real p.low) (mul_mono c t x b p.real p.real-high p.high)

-- within wider bounds
pub widen : {a b x : Float} (l h : Float) → Between a b x → bounds l h a b ≡ true → Between l h x
widen {a} {b} {x} l h p k = settle l h a b x k (real-num a p.real-low) (real-num b p.real-high) (real-num x p.real) p.low p.high

-- a test against c leaves x on one side of it
module _ {a b x : Float} (c : Float) (hc : Real c ≡ true) (p : Between a b x) where
  pub from : le c x ≡ true → Between c b x
  from h = record { real-low = hc; real-high = p.real-high; real = p.real; low = h; high = p.high }

  pub up_to : le x c ≡ true → Between a c x
  up_to h = record { real-low = p.real-low; real-high = hc; real = p.real; low = p.low; high = h }

  pub above : le x c ≡ false → Between c b x
  above h = from (lt-le c x (not-le x c (real-num x p.real) (real-num c hc) h))

  pub under : le c x ≡ false → Between a c x
  under h = up_to (lt-le x c (not-le c x (real-num c hc) (real-num x p.real) h))
