-- A latitude interval widened by a margin and clamped to the poles: rounding keeps the order, so the widened interval reaches below the north pole and
-- above the south pole, and what is left of it is a range of latitudes that is not empty. Assumes nothing.
use mathlib.Core.Path.{◌≡◌, refl, sym, ◌∙◌}
use mathlib.Core.Bool.{Bool, true, false, not, cond, false≢true}
use lib.Ieee as Ieee
use Prim.Native.Nat.{ℕ, ◌*◌}
use native.Mathlib.Nat.{mul_comm}
use lib.Ieee.{Float, binary64, of_bits, fits, is_nan, lt, le, eq, unlike, round, up, down}
use Rattle.order.specs.Key.{Num, Real}
use Rattle.order.specs.Choice.{min, max}
use Rattle.order.proofs.Ranks.{and_l, and_r, and-of, or-of-r}
use Rattle.order.proofs.Facts.{le_refl, le_trans, not-lt}
use Rattle.order.proofs.Bounds.{Between, between, add-between, sub-between, mul-between, from, under}
use Rattle.order.proofs.Monotone.{of-real, real-num, add-num, sub-num}
use Rattle.order.proofs.Rounding.{Finite, made}
use Rattle.consts.specs.Constants.{HALF}
use Rattle.order.proofs.Choices.{larger-le, le-smaller, le-larger, smaller-le}
use Rattle.consts.specs.Answer.{ZERO}
use Rattle.consts.specs.Reading.{in_reach, plain, LEAST, MOST}
use Rattle.consts.proofs.Readings.{plain-num, plain-le, le-plain}
use Rattle.r1.specs.declared.interval.Interval.{Interval as Line}
use Rattle.r1.specs.Line as line
use Rattle.r1.specs.Places.{holds as lat_holds, Place as LatPlace}
use Rattle.r1.proofs.Readings.{place-num}
use Rattle.s2.specs.Zone.{NORTH, SOUTH, LATITUDES, latitude}
use Rattle.s2.proofs.Readings.{poles, latitude-between}
use Rattle.s2.proofs.Latitudes.{South, Range, range-reach, south-of, north-of, filled}

-- beyond every sum of a latitude and a margin
abbrev LOW : Float
LOW = of_bits binary64 0xDF40000000000000

abbrev HIGH : Float
HIGH = of_bits binary64 0x5F40000000000000

half-real : Real HALF ≡ true
unfolding fits of_bits
half-real = refl

limits : (Real LEAST ≡ true) × (Real MOST ≡ true) × (Real ZERO ≡ true)
unfolding fits of_bits
limits = (refl, refl, refl)

pub reach-between : (m : Float) → LatPlace m → Between LEAST MOST m
unfolding in_reach
reach-between m q = between LEAST MOST m limits.0 limits.1 q.is-double (and_l (le LEAST m) (le m MOST) q.in-reach) (and_r (le LEAST m) (le m MOST) q.in-reach)

num-fits : (x : Float) → Num x ≡ true → fits binary64 x ≡ true
num-fits x n = and_l (fits binary64 x) (not (is_nan x)) n

-- ---- one end moved by the margin m: outward it stays on its side of the far pole, inward it stays on its side of the near one
module _ {x m : Float} (b : Between SOUTH NORTH x) (q : LatPlace m) where
  out : le ZERO m ≡ true → Between ZERO MOST m
  out h = from ZERO limits.2 (reach-between m q) h

  inward : le ZERO m ≡ false → Between LEAST ZERO m
  inward h = under ZERO limits.2 (reach-between m q) h

  sub_out : le ZERO m ≡ true → Between LOW NORTH (Ieee.sub binary64 x m)
  unfolding fits of_bits lt le eq Ieee.sub
  sub_out h = sub-between LOW NORTH b (out h) refl

  sub_in : le ZERO m ≡ false → Between SOUTH HIGH (Ieee.sub binary64 x m)
  unfolding fits of_bits lt le eq Ieee.sub
  sub_in h = sub-between SOUTH HIGH b (inward h) refl

  add-out : le ZERO m ≡ true → Between SOUTH HIGH (Ieee.add binary64 x m)
  unfolding fits of_bits lt le eq Ieee.add
  add-out h = add-between SOUTH HIGH b (out h) refl

  add-in : le ZERO m ≡ false → Between LOW NORTH (Ieee.add binary64 x m)
  unfolding fits of_bits lt le eq Ieee.add
  add-in h = add-between LOW NORTH b (inward h) refl

-- ---- both ends moved, and lo still at most hi: it reaches below the north pole and above the south pole
module _ {x y m : Float} (b : Between SOUTH NORTH x) (c : Between SOUTH NORTH y) (q : LatPlace m) where
  abbrev lo : Float
  lo = Ieee.sub binary64 x m

  abbrev hi : Float
  hi = Ieee.add binary64 y m

  abbrev Reaches : Type 0
  Reaches = (Num lo ≡ true) × (Num hi ≡ true) × (le lo NORTH ≡ true) × (le SOUTH hi ≡ true)

  reaches : le lo hi ≡ true → Reaches
  reaches h = go (le ZERO m) refl
    where
      go : (t : Bool) → le ZERO m ≡ t → Reaches
      go true e =
          let u = sub_out b q e in
          let w = add-out c q e in
          (real-num lo u.real, real-num hi w.real, u.high, w.low)
      go false e =
          let u = sub_in b q e in
          let w = add-in c q e in
          let n = real-num lo u.real in
          let k = real-num hi w.real in
          (n, k, le_trans lo hi NORTH n k (real-num NORTH poles.1) h w.high, le_trans SOUTH lo hi (real-num SOUTH poles.0) n k u.low h)

-- ---- clamped to the poles
either : (P : Float → Type 0) (t : Bool) {x y : Float} → P x → P y → P (cond t x y)
either P true p q = p
either P false p q = q

poles-apart : le SOUTH NORTH ≡ true
unfolding le lt eq of_bits
poles-apart = refl

pole-nums : (Num SOUTH ≡ true) × (Num NORTH ≡ true)
pole-nums = (real-num SOUTH poles.0, real-num NORTH poles.1)

module _ (x y : Float) (n : Num x ≡ true) (m : Num y ≡ true) (p : le x NORTH ≡ true) (q : le SOUTH y ≡ true) where
  lo-in : South (max x SOUTH)
  unfolding latitude
  lo-in =
      south-of (unfold max in either (λ (z : Float). fits binary64 z ≡ true) (lt x SOUTH) (num-fits SOUTH pole-nums.0) (num-fits x n))
      (and-of
      (le-larger x SOUTH SOUTH n pole-nums.0 pole-nums.0 ∙ or-of-r (le SOUTH x) _ (le_refl SOUTH pole-nums.0))
      (larger-le x SOUTH NORTH n pole-nums.0 pole-nums.1 ∙ and-of p poles-apart))

  hi-in : South (min y NORTH)
  unfolding latitude
  hi-in =
      south-of (unfold min in either (λ (z : Float). fits binary64 z ≡ true) (lt NORTH y) (num-fits NORTH pole-nums.1) (num-fits y m))
      (and-of
      (le-smaller y NORTH SOUTH m pole-nums.1 pole-nums.0 ∙ and-of q poles-apart)
      (smaller-le y NORTH NORTH m pole-nums.1 pole-nums.1 ∙ or-of-r (le y NORTH) _ (le_refl NORTH pole-nums.1)))

  pub clamp-range : Range (line.intersection (line.ends x y) LATITUDES)
  unfolding line.intersection
  clamp-range = record { south = lo-in; north = north-of hi-in }

  pub clamp-filled : le x y ≡ true → line.is_empty (line.intersection (line.ends x y) LATITUDES) ≡ false
  unfolding line.intersection lat_holds
  clamp-filled h =
      let u = place-num lo-in.is-place in
      let w = place-num hi-in.is-place in
      let s = le-smaller y NORTH SOUTH m pole-nums.1 pole-nums.0 ∙ and-of q poles-apart in
      let t = le-smaller y NORTH x m pole-nums.1 n ∙ and-of h p in
      filled (range-reach clamp-range) lo-in.is-place (and-of (le_refl (max x SOUTH) u) (larger-le x SOUTH (min y NORTH) n pole-nums.0 w ∙ and-of t s))

-- ---- the whole
pub record Clamped (i : Line) : Type 0 where
  pub in-range : Range i
  pub not-empty : line.is_empty i ≡ false

module _ {i : Line} (a : Range i) (m : Float) (q : LatPlace m) where
  abbrev wide : Line
  wide = line.ends (plain (Ieee.sub binary64 i.lo m)) (plain (Ieee.add binary64 i.hi m))

  moved : line.is_empty i ≡ false → line.is_empty wide ≡ false → Clamped (line.intersection wide LATITUDES)
  unfolding line.is_empty latitude
  moved e d =
      let nl = place-num a.south.is-place in
      let nh = place-num a.north.is-place in
      let b = latitude-between i.lo a.south.is-place.is-double a.south.in-range in
      let c = between SOUTH NORTH i.hi poles.0 poles.1 a.north.is-place.is-double (le_trans SOUTH i.lo i.hi pole-nums.0 nl nh b.low (not-lt i.hi i.lo nh nl e)) a.north.in-range in
      let k = (reach-between m q).real in
      let u = sub-num i.lo m b.real k in
      let w = add-num i.hi m c.real k in
      let pu = plain-num _ u in
      let pw = plain-num _ w in
      let h = not-lt wide.hi wide.lo pw pu d in
      let r = reaches b c q (sym (le-plain _ _ u w) ∙ sym (plain-le _ wide.hi u pw) ∙ h) in
      let p = plain-le _ NORTH u pole-nums.1 ∙ r.2 in
      let s = le-plain SOUTH _ pole-nums.0 w ∙ r.3 in
      record { in-range = clamp-range wide.lo wide.hi pu pw p s; not-empty = clamp-filled wide.lo wide.hi pu pw p s h }

  -- where the widened interval is not empty, what lies from pole to pole is not empty either
  pub clamped : line.is_empty (line.expanded i m) ≡ false → Clamped (line.intersection (line.expanded i m) LATITUDES)
  unfolding line.expanded
  clamped h = go (line.is_empty i) refl h
    where
      go : (t : Bool) → line.is_empty i ≡ t → line.is_empty (cond t i wide) ≡ false → Clamped (line.intersection (cond t i wide) LATITUDES)
      go true e h = absurd (false≢true (sym h ∙ e))
      go false e h = moved e h

-- ---- half of a number in reach is in reach
unlike-swap : (s t : Bool) → unlike s t ≡ unlike t s
unlike-swap true true = refl
unlike-swap true false = refl
unlike-swap false true = refl
unlike-swap false false = refl

same-round : {s t : Bool} {a b c d : ℕ} → s ≡ t → a ≡ b → c ≡ d → round binary64 s a c ≡ round binary64 t b d
same-round p q r = cc

mul-swap : (x y : Float) → Real x ≡ true → Real y ≡ true → Ieee.mul binary64 x y ≡ Ieee.mul binary64 y x
unfolding Ieee.mul
mul-swap x y a b = go (of-real x a) (of-real y b)
  where
    go : {u w : Float} → Finite binary64 u → Finite binary64 w → Ieee.mul binary64 u w ≡ Ieee.mul binary64 w u
    go (made {s = s} {m = m} {e = e} p) (made {s = t} {m = n} {e = d} q) = same-round (unlike-swap s t) (mul_comm (m * up e) (n * up d)) (mul_comm (down e) (down d))

module _ (x : Float) (q : LatPlace x) where
  half-between : Between LEAST MOST (Ieee.mul binary64 HALF x)
  unfolding fits of_bits lt le eq Ieee.mul
  half-between = mul-between HALF LEAST MOST refl (reach-between x q) refl

  pub half_place : LatPlace (Ieee.mul binary64 x HALF)
  unfolding in_reach
  half_place =
      let b = half-between in
      let n = real-num _ b.real in
      rw (mul-swap x HALF (reach-between x q).real half-real)
      (record { is-double = num-fits _ n; in-reach = and-of b.low b.high })
