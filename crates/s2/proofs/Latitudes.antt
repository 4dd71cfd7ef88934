-- The latitudes of an answered rectangle: ends that lie in the range stay in it, and an answer has a latitude where its operands have one.
-- Assumes nothing.
use mathlib.Core.Path.{◌≡◌, refl, sym, ◌∙◌}
use mathlib.Core.Bool.{Bool, true, false, not, ◌&&◌, false≢true}
use lib.Ieee.{Float, binary64, fits, le}
use Rattle.order.proofs.Ranks.{and_l, and_r, and-of, or-of-l}
use Rattle.order.proofs.Facts.{le_refl}
use Rattle.r1.specs.declared.interval.Interval.{Interval as Line}
use Rattle.r1.specs.Line as line
use Rattle.r1.specs.Places.{holds as lat_holds, Place as LatPlace, InReach as LatReach}
use Rattle.r1.proofs.Readings.{place-num}
use Rattle.r1.proofs.Ends.{union-ends, intersection-ends, read-add-ends, pair_ends}
use Rattle.r1.proofs.Trials as trials
use Rattle.r1.proofs.Trials.{point-reach, pair-reach}
use Rattle.s2.specs.Zone.{NORTH, SOUTH, latitude, valid_latitudes}
use Rattle.s2.proofs.Readings.{latitude-reach}

-- a western end lies from pole to pole, an eastern end not above the pole
pub record South (x : Float) : Type 0 where
  pub is-place : LatPlace x
  pub in-range : latitude x ≡ true

pub record North (x : Float) : Type 0 where
  pub is-place : LatPlace x
  pub in-range : le x NORTH ≡ true

pub record Range (i : Line) : Type 0 where
  pub south : South i.lo
  pub north : North i.hi

pub range-reach : {i : Line} → Range i → LatReach i
range-reach a = record { lo-place = a.south.is-place; hi-place = a.north.is-place }

pub range-valid : {i : Line} → Range i → valid_latitudes i ≡ true
range-valid a = and-of a.south.in-range a.north.in-range

pub range-of : {i : Line} → LatReach i → valid_latitudes i ≡ true → Range i
range-of {i} v h =
    record {
      south = record { is-place = v.lo-place; in-range = and_l (latitude i.lo) (le i.hi NORTH) h };
      north = record { is-place = v.hi-place; in-range = and_r (latitude i.lo) (le i.hi NORTH) h };
    }

-- a latitude can be either end
pub south-of : {x : Float} → fits binary64 x ≡ true → latitude x ≡ true → South x
south-of {x} f h = record { is-place = record { is-double = f; in-reach = latitude-reach x f h }; in-range = h }

pub north-of : {x : Float} → South x → North x
unfolding latitude
north-of {x} a = record { is-place = a.is-place; in-range = and_r (le SOUTH x) (le x NORTH) a.in-range }

-- ---- the choices keep the range
ends_of : {i : Line} → Range i → South i.lo × North i.hi
ends_of a = (a.south, a.north)

of-ends : {i : Line} → South i.lo × North i.hi → Range i
of-ends a = record { south = a.0; north = a.1 }

module _ {i o : Line} (a : Range i) (b : Range o) where
  pub union-range : Range (line.union i o)
  union-range = of-ends (union-ends South North i o (ends_of a) (ends_of b))

  pub intersection-range : Range (line.intersection i o)
  intersection-range = of-ends (intersection-ends South North i o (ends_of a) (ends_of b))

pub add-range : {i : Line} {x : Float} → Range i → South x → Range (line.add i x)
add-range {i} {x} a s = of-ends (read-add-ends South North x s (north-of s) i (ends_of a))

pub pair-range : {x y : Float} → South x → South y → Range (line.from_point_pair x y)
pair-range {x} {y} s t = of-ends (pair_ends South North x s (north-of s) y t (north-of t))

-- ---- what has a latitude
is_false : (t : Bool) → not t ≡ true → t ≡ false
is_false true h = absurd (false≢true h)
is_false false h = refl

-- it holds its western end
pub filled-lo : {i : Line} → LatReach i → line.is_empty i ≡ false → lat_holds i i.lo ≡ true
filled-lo v e = trials.holds-lo v v v.lo-place (rw e refl)

-- an interval that holds a latitude is not empty
pub filled : {i : Line} {x : Float} → LatReach i → LatPlace x → lat_holds i x ≡ true → line.is_empty i ≡ false
filled {i} v q h = is_false (line.is_empty i) (trials.not-empty v v q h)

-- the hull is empty where both are
pub union-empty : {i o : Line} → Range i → Range o → line.is_empty (line.union i o) ≡ line.is_empty i && line.is_empty o
unfolding line.union
union-empty {i} {o} a b = go (line.is_empty i) refl
  where
    v : LatReach i
    v = range-reach a

    go : (t : Bool) → line.is_empty i ≡ t → line.is_empty (line.union i o) ≡ line.is_empty i && line.is_empty o
    go true e = simp e
    go false e =
        filled (range-reach (union-range a b)) v.lo-place (trials.read-union-holds v (range-reach b) v.lo-place (or-of-l _ (lat_holds o i.lo) (filled-lo v e)))
        ∙ sym (simp e)

pub add-filled : {i : Line} {x : Float} → Range i → South x → line.is_empty (line.add i x) ≡ false
add-filled a s = filled (range-reach (add-range a s)) s.is-place (trials.add-takes (range-reach a) (point-reach s.is-place) s.is-place)

pub pair-filled : {x y : Float} → South x → South y → line.is_empty (line.from_point_pair x y) ≡ false
pair-filled s t =
    filled (range-reach (pair-range s t)) s.is-place (trials.pair-holds (pair-reach s.is-place t.is-place) (pair-reach s.is-place t.is-place) s.is-place).0

pub point-filled : {x : Float} → South x → line.is_empty (line.ends x x) ≡ false
unfolding lat_holds
point-filled {x} s = let r = le_refl x (place-num s.is-place) in filled (point-reach s.is-place) s.is-place (and-of r r)
