-- Reading the operands of a circle's operation: a valid interval is in reach, so that operands within the limits are accepted, with their zeros read,
-- which changes no place that they hold. Assumes nothing.
use mathlib.Core.Path.{◌≡◌, refl}
use mathlib.Core.Bool.{Bool, true, false, ◌&&◌, cond}
use lib.Dec.{eqb}
use lib.Ieee.{Float, binary64, of_bits, lt, le, fits, is_nan}
use Rattle.order.specs.Key.{Num}
use Rattle.order.proofs.Ranks.{and_l, and_r, and-of}
use Rattle.order.proofs.Facts.{lt-le, num-r, lt-not-eq}
use Rattle.consts.specs.Constants.{PI, NEG-PI}
use Rattle.consts.specs.Refusal.{number, accepted, out_of_reach, bad_circle}
use Rattle.consts.specs.Reading.{in_reach}
use Rattle.consts.proofs.Remainders.{pi-in-reach}
use Rattle.s1.specs.declared.interval.Interval.{Interval}
use Rattle.s1.specs.Circle.{is_valid}
use Rattle.s1.specs.Devices.{usual}
use Rattle.s1.specs.Reading.{on_circle, read_one}

-- a double from -PI on is a number
pub num_of : (x : Float) → fits binary64 x ≡ true → le NEG-PI x ≡ true → Num x ≡ true
num_of x f h = num-r NEG-PI x f h

-- a point of the circle is in reach
pub circle-reach : (p : Float) → fits binary64 p ≡ true → on_circle p ≡ true → in_reach p ≡ true
unfolding on_circle
circle-reach p f h = let a = and_l (le NEG-PI p) (le p PI) h in pi-in-reach p (num_of p f a) a (and_r (le NEG-PI p) (le p PI) h)

-- and so is a valid interval
pub valid-on : (i : Interval) → is_valid i ≡ true → (on_circle i.lo ≡ true) × (on_circle i.hi ≡ true)
unfolding is_valid on_circle
valid-on i h =
    let a : le NEG-PI i.lo ≡ true = search (and_l, and_r) in
    let b : le i.lo PI ≡ true = search (and_l, and_r) in
    let c : le NEG-PI i.hi ≡ true = search (and_l, and_r) in
    let d : le i.hi PI ≡ true = search (and_l, and_r) in
    (and-of a b, and-of c d)

pub valid-reach : (i : Interval) → fits binary64 i.lo ≡ true → fits binary64 i.hi ≡ true → is_valid i ≡ true → in_reach i.lo && in_reach i.hi ≡ true
valid-reach i f g h = and-of (circle-reach i.lo f (valid-on i h).0) (circle-reach i.hi g (valid-on i h).1)

-- a usual interval is valid
pub usual-valid : (i : Interval) → fits binary64 i.lo ≡ true → fits binary64 i.hi ≡ true → usual i ≡ true → is_valid i ≡ true
unfolding usual is_valid
usual-valid i f g h =
    let a : lt NEG-PI i.lo ≡ true = search (and_l, and_r) in
    let b : le i.lo PI ≡ true = search (and_l, and_r) in
    let c : lt NEG-PI i.hi ≡ true = search (and_l, and_r) in
    let d : le i.hi PI ≡ true = search (and_l, and_r) in
    let n : Num NEG-PI ≡ true = unfold fits is_nan of_bits in refl in
    let p = lt-le NEG-PI i.lo a in
    let q = lt-le NEG-PI i.hi c in
    simp (p, b, q, d, lt-not-eq NEG-PI i.lo n (num_of i.lo f p) a, lt-not-eq NEG-PI i.hi n (num_of i.hi g q) c)

-- no interval is refused as a point is
pub no_bad_point : (i : Interval) → eqb (read_one i).refusal 3 ≡ false
unfolding read_one
no_bad_point i = go (in_reach i.lo && in_reach i.hi) (is_valid i)
  where
    go : (s t : Bool) → eqb (cond s (cond t (number accepted) (number bad_circle)) (number out_of_reach)) 3 ≡ false
    go true true = refl
    go true false = refl
    go false t = refl
