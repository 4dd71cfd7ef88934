-- Reading the operands of a rectangle's operation: operands within the limits are accepted, with their zeros read, which changes no place that they hold.
-- Assumes nothing.
use mathlib.Core.Path.{◌≡◌, refl, ◌∙◌}
use mathlib.Core.Bool.{Bool, true, false, ◌&&◌, cond}
use Prim.Native.Nat.{ℕ}
use lib.Dec.{eqb}
use borrow.Author.Tests.{eqb-true, eqb-false}
use lib.Ieee.{Float, binary64, of_bits, fits, lt, le, eq}
use Rattle.order.specs.Key.{Num, Real}
use Rattle.order.proofs.Ranks.{and_l, and_r, and-of, and-off}
use Rattle.order.proofs.Facts.{le_trans, lt-le, num-l, num-r, le-no, lt-not-eq}
use Rattle.order.proofs.Bounds.{Between, between, widen}
use Rattle.order.proofs.Monotone.{real-num}
use Rattle.consts.specs.Constants.{PI, NEG-PI}
use Rattle.consts.specs.Refusal.{number, accepted, out_of_reach, bad_point, first_fault, first_refusal}
use Rattle.consts.specs.Reading.{in_reach, read_number, LEAST, MOST}
use Rattle.consts.proofs.Readings.{plain_fits, plain-num, plain-reach, plain-le, le-plain, plain-lt, lt-plain, plain-eq, eq-plain}
use Rattle.r1.specs.declared.interval.Interval.{Interval as Line}
use Rattle.r1.specs.Line as line
use Rattle.r1.specs.Places.{holds as lat_holds, Place as LatPlace, InReach as LatReach}
use Rattle.r1.specs.Line.{interior_contains as lat_strictly_holds}
use Rattle.r1.specs.Reading.{plain_ends as line_plain}
use Rattle.r1.proofs.Readings.{place-num, reach-plain, holds_plain, strict-plain}
use Rattle.s1.specs.declared.interval.Interval.{Interval as Circle}
use Rattle.s1.specs.Circle as circle
use Rattle.s1.specs.Reading.{on_circle, plain_ends as circle_plain}
use Rattle.s1.specs.Places.{Place as LngPlace, Valid as LngValid, holds as lng_holds, strictly_holds as lng_strictly_holds}
use Rattle.s1.proofs.Readings.{num_of, circle-reach, valid-on}
use Rattle.s1.proofs.Held.{num-PI, num-NEG, lo-num, hi-num, at-num}
use Rattle.s1.proofs.Limits.{valid-plain}
use Rattle.s2.specs.declared.latlng.LatLng.{LatLng}
use Rattle.s2.specs.declared.place.Place.{Place}
use Rattle.s2.specs.declared.rect.Rect.{Rect}
use Rattle.s2.specs.Zone.{NORTH, SOUTH, latitude, valid_latitudes, like_parts, is_lat_lng, is_valid}
use Rattle.s2.specs.Reading.{rect_in_reach, as_read, plain_point, fault_of, read_one, read_two, read_point, read_margins, read_with_point, read_with_margins}
use Rattle.s2.specs.Devices.{usual}
use Rattle.s2.specs.Places.{IsPlace, Doubles, DoublePoint, Valid, ValidPoint, Margins, holds}

-- ---- what is valid is in reach
pub poles : (Real SOUTH ≡ true) × (Real NORTH ≡ true)
unfolding fits of_bits
poles = (refl, refl)

pub latitude-between : (x : Float) → fits binary64 x ≡ true → latitude x ≡ true → Between SOUTH NORTH x
unfolding latitude
latitude-between x f h = between SOUTH NORTH x poles.0 poles.1 f (and_l (le SOUTH x) (le x NORTH) h) (and_r (le SOUTH x) (le x NORTH) h)

pub latitude-reach : (x : Float) → fits binary64 x ≡ true → latitude x ≡ true → in_reach x ≡ true
unfolding in_reach fits of_bits lt le eq
latitude-reach x f h = let b = widen LEAST MOST (latitude-between x f h) refl in and-of b.low b.high

-- a valid rectangle is in reach where its lat.hi is
pub valid-reach : {r : Rect} → Doubles r → is_valid r ≡ true → in_reach r.lat.hi ≡ true → rect_in_reach r ≡ true
unfolding is_valid rect_in_reach
valid-reach {r} d v k =
    let a : latitude r.lat.lo ≡ true = search (and_l, and_r) in
    let c : circle.is_valid r.lng ≡ true = search (and_l, and_r) in
    let on = valid-on r.lng c in
    and-of (and-of (and-of (latitude-reach r.lat.lo d.lat-lo a) k) (circle-reach r.lng.lo d.lng-lo on.0)) (circle-reach r.lng.hi d.lng-hi on.1)

-- a rectangle in reach has no fault exactly when it is valid
pub fault-decides : (r : Rect) → eqb (fault_of r) 0 ≡ is_valid r
unfolding fault_of first_fault is_valid
fault-decides r = go (valid_latitudes r.lat) (circle.is_valid r.lng) (like_parts r)
  where
    go : (a b c : Bool) → eqb (first_fault a b c) 0 ≡ a && b && c
    go false b c = refl
    go true false c = refl
    go true true false = refl
    go true true true = refl

pub no-fault : (r : Rect) → is_valid r ≡ true → fault_of r ≡ number accepted
no-fault r h = eqb-true (fault_of r) 0 (fault-decides r ∙ h)

-- a usual rectangle is valid, with lat.hi in reach
module _ {r : Rect} (d : Doubles r) (u : usual r ≡ true) where
  usual-latitudes : (latitude r.lat.lo ≡ true) × (latitude r.lat.hi ≡ true) × (line.is_empty r.lat ≡ false)
  unfolding usual latitude line.is_empty
  usual-latitudes =
      let a : le SOUTH r.lat.lo ≡ true = search (and_l, and_r) in
      let b : le r.lat.lo r.lat.hi ≡ true = search (and_l, and_r) in
      let c : le r.lat.hi NORTH ≡ true = search (and_l, and_r) in
      let n = num-r SOUTH r.lat.lo d.lat-lo a in
      let m = num-l r.lat.hi NORTH d.lat-hi c in
      let s = real-num SOUTH poles.0 in
      let t = real-num NORTH poles.1 in
      (and-of a (le_trans r.lat.lo r.lat.hi NORTH n m t b c), and-of (le_trans SOUTH r.lat.lo r.lat.hi s n m a b) c, le-no r.lat.lo r.lat.hi n m b)

  usual-longitudes : (circle.is_valid r.lng ≡ true) × (circle.is_empty r.lng ≡ false)
  unfolding usual circle.is_valid circle.is_empty
  usual-longitudes =
      let a : lt NEG-PI r.lng.lo ≡ true = search (and_l, and_r) in
      let b : le r.lng.lo PI ≡ true = search (and_l, and_r) in
      let c : lt NEG-PI r.lng.hi ≡ true = search (and_l, and_r) in
      let e : le r.lng.hi PI ≡ true = search (and_l, and_r) in
      let p = lt-le NEG-PI r.lng.lo a in
      let q = lt-le NEG-PI r.lng.hi c in
      let x = lt-not-eq NEG-PI r.lng.lo num-NEG (num_of r.lng.lo d.lng-lo p) a in
      let y = lt-not-eq NEG-PI r.lng.hi num-NEG (num_of r.lng.hi d.lng-hi q) c in
      (simp (p, b, q, e, x, y), and-off (eq r.lng.lo PI) (eq r.lng.hi NEG-PI) y)

  pub usual-valid : is_valid r && in_reach r.lat.hi ≡ true
  unfolding is_valid
  usual-valid =
      let north : le r.lat.hi NORTH ≡ true = unfold latitude in and_r (le SOUTH r.lat.hi) _ usual-latitudes.1 in
      simp (usual-latitudes.0, north, usual-longitudes.0, usual-latitudes.2, usual-longitudes.1, latitude-reach r.lat.hi d.lat-hi usual-latitudes.1)

  -- so it is accepted
  pub usual-in : (read_one r).refusal ≡ number accepted
  unfolding read_one
  usual-in =
      let v = and_l (is_valid r) (in_reach r.lat.hi) usual-valid in
      simp (valid-reach d v (and_r (is_valid r) (in_reach r.lat.hi) usual-valid), no-fault r v)

-- of two refusals that are the same, that one is given
pub first-same : (n : ℕ) → first_refusal n n ≡ n
unfolding first_refusal
first-same n = same (eqb n 0)
  where
    same : (b : Bool) → cond b n n ≡ n
    same true = refl
    same false = refl

pub doubles-of : {r : Rect} → Valid r → Doubles r
doubles-of v =
    record {
      lat-lo = v.lat-reach.lo-place.is-double;
      lat-hi = v.lat-reach.hi-place.is-double;
      lng-lo = v.lng-valid.lo-double;
      lng-hi = v.lng-valid.hi-double;
    }

pub reach_of : {r : Rect} → Valid r → rect_in_reach r ≡ true
reach_of {r} v = valid-reach (doubles-of v) v.is-valid v.lat-reach.hi-place.in-reach

-- doubles within the limits
pub valid-of : {r : Rect} → Doubles r → rect_in_reach r ≡ true → is_valid r ≡ true → Valid r
unfolding rect_in_reach is_valid
valid-of {r} d k h =
    let reach = and_l _ _ (and_l _ _ k) in
    record {
      lat-reach = record {
        lo-place = record { is-double = d.lat-lo; in-reach = and_l _ _ reach };
        hi-place = record { is-double = d.lat-hi; in-reach = and_r (in_reach r.lat.lo) _ reach };
      };
      lng-valid = record { lo-double = d.lng-lo; hi-double = d.lng-hi; is-valid = and_r (valid_latitudes r.lat) (circle.is_valid r.lng) (and_l _ _ h) };
      is-valid = h;
    }

pub point-of : {p : LatLng} → DoublePoint p → is_lat_lng p ≡ true → ValidPoint p
point-of d h = record { lat-double = d.lat-double; lng-double = d.lng-double; is-valid = h }

pub margins-of : {m : LatLng} → DoublePoint m → in_reach m.lat && in_reach m.lng ≡ true → Margins m
margins-of {m} d h =
    record {
      lat-double = d.lat-double;
      lng-double = d.lng-double;
      lat-in-reach = and_l (in_reach m.lat) (in_reach m.lng) h;
      lng-in-reach = and_r (in_reach m.lat) (in_reach m.lng) h;
    }

-- ---- within the limits
module _ (r : Rect) (v : Valid r) where
  pub one_in : read_one r ≡ record { refusal = number accepted; value = as_read r }
  unfolding read_one
  one_in = simp (reach_of v, no-fault r v.is-valid)

  pub two_in : (o : Rect) → Valid o → read_two r o ≡ record { refusal = number accepted; left = as_read r; right = as_read o }
  unfolding read_two read_one first_refusal
  two_in o w = simp (reach_of v, no-fault r v.is-valid, reach_of w, no-fault o w.is-valid)

pub point-in : (p : LatLng) → ValidPoint p → read_point p ≡ record { refusal = number accepted; value = plain_point p }
unfolding read_point
point-in p q = simp q.is-valid

pub margins-in : (m : LatLng) → Margins m → read_margins m ≡ record { refusal = number accepted; value = plain_point m }
unfolding read_margins read_number first_refusal
margins-in m n = simp (n.lat-in-reach, n.lng-in-reach)

module _ (r : Rect) (v : Valid r) where
  pub with-point-in : (p : LatLng) → ValidPoint p → read_with_point r p ≡ record { refusal = number accepted; value = as_read r; beside = plain_point p }
  unfolding read_with_point first_refusal
  with-point-in p q = simp (one_in r v, point-in p q)

  pub with-margins-in : (m : LatLng) → Margins m → read_with_margins r m ≡ record { refusal = number accepted; value = as_read r; beside = plain_point m }
  unfolding read_with_margins first_refusal
  with-margins-in m n = simp (one_in r v, margins-in m n)

-- ---- refused (proofs/Refusals.antt has what each operation makes of it)
pub one_out : (r : Rect) → rect_in_reach r ≡ false → (read_one r).refusal ≡ number out_of_reach
unfolding read_one
one_out r h = simp h

pub one-not-valid : (r : Rect) → rect_in_reach r ≡ true → is_valid r ≡ false → ((read_one r).refusal ≡ fault_of r) × ((read_one r).refusal ≡ 0 → ⊥)
unfolding read_one
one-not-valid r k h = (simp k, rw k (eqb-false (fault_of r) 0 (fault-decides r ∙ h)))

pub point-bad : (p : LatLng) → is_lat_lng p ≡ false → (read_point p).refusal ≡ number bad_point
unfolding read_point
point-bad p h = simp h

-- ---- what is read holds the same places
-- a valid interval's ends are numbers
pub lng-nums : {i : Circle} → LngValid i → (Num i.lo ≡ true) × (Num i.hi ≡ true)
lng-nums v = (lo-num v, hi-num v)

pub pi-nums : (Num NEG-PI ≡ true) × (Num PI ≡ true)
pi-nums = (num-NEG, num-PI)

module _ {i : Circle} (v : LngValid i) where
  pub lng-valid-same : circle.is_valid (circle_plain i) ≡ circle.is_valid i
  unfolding circle.is_valid
  lng-valid-same =
      let a = (lng-nums v).0 in
      let b = (lng-nums v).1 in
      let n = pi-nums.0 in
      let p = pi-nums.1 in
      simp (plain-le, le-plain, plain-eq)

  pub lng-empty-plain : circle.is_empty (circle_plain i) ≡ circle.is_empty i
  unfolding circle.is_empty
  lng-empty-plain =
      let a = (lng-nums v).0 in
      let b = (lng-nums v).1 in
      let n = pi-nums.0 in
      let p = pi-nums.1 in
      simp plain-eq

  pub lng-valid-plain : LngValid (circle_plain i)
  lng-valid-plain = valid-plain i v

pole-nums : (Num SOUTH ≡ true) × (Num NORTH ≡ true)
pole-nums = (real-num SOUTH poles.0, real-num NORTH poles.1)

pub lat-empty-plain : {i : Line} → LatReach i → line.is_empty (line_plain i) ≡ line.is_empty i
unfolding line.is_empty
lat-empty-plain v =
    let a = place-num v.lo-place in
    let b = place-num v.hi-place in
    let c = plain-num _ a in
    simp (plain-lt, lt-plain)

module _ {r : Rect} (v : Valid r) where
  valid_same : is_valid (as_read r) ≡ is_valid r
  unfolding as_read is_valid latitude
  valid_same =
      let a = place-num v.lat-reach.lo-place in
      let b = place-num v.lat-reach.hi-place in
      let n = pole-nums.0 in
      let p = pole-nums.1 in
      simp (plain-le, le-plain, lat-empty-plain v.lat-reach, lng-empty-plain v.lng-valid, lng-valid-same v.lng-valid)

  pub valid-read : Valid (as_read r)
  unfolding as_read
  valid-read = record { lat-reach = reach-plain v.lat-reach; lng-valid = lng-valid-plain v.lng-valid; is-valid = valid_same ∙ v.is-valid }

-- a longitude place is a number
pub lng-place-num : {at : Float} {g : Bool} → LngPlace at g → Num at ≡ true
lng-place-num q = at-num q

-- a latitude is a place of the line
pub lat-place : {p : Place} → IsPlace p → LatPlace p.lat
lat-place {p} q = record { is-double = q.is-double; in-reach = latitude-reach p.lat q.is-double q.is-latitude }

lng-plain : (i : Circle) → LngValid i → (at : Float) (g : Bool) → LngPlace at g → lng_holds (circle_plain i) at g ≡ lng_holds i at g
lng-plain i v at g q =
    let a = (lng-nums v).0 in
    let b = (lng-nums v).1 in
    let n = pi-nums.0 in
    let p = pi-nums.1 in
    let m = lng-place-num q in
    let c = plain-num i.lo a in
    simp (plain-le, le-plain, plain-lt, lt-plain, plain-eq)

lng-strict-plain : (i : Circle) → LngValid i → (at : Float) (g : Bool) → LngPlace at g → lng_strictly_holds (circle_plain i) at g ≡ lng_strictly_holds i at g
lng-strict-plain i v at g q =
    let a = (lng-nums v).0 in
    let b = (lng-nums v).1 in
    let n = pi-nums.0 in
    let p = pi-nums.1 in
    let m = lng-place-num q in
    let c = plain-num i.lo a in
    simp (plain-le, le-plain, plain-lt, lt-plain, plain-eq, eq-plain)

-- the parts of a rectangle as it is read hold what they held, and so does the rectangle
module _ (r : Rect) (v : Valid r) where
  pub lat-read : (x : Float) → LatPlace x → lat_holds (as_read r).lat x ≡ lat_holds r.lat x
  unfolding as_read
  lat-read x q = holds_plain r.lat v.lat-reach x q

  pub lng-read : (at : Float) (g : Bool) → LngPlace at g → lng_holds (as_read r).lng at g ≡ lng_holds r.lng at g
  unfolding as_read
  lng-read at g q = lng-plain r.lng v.lng-valid at g q

  pub holds_read : (p : Place) → IsPlace p → holds (as_read r) p ≡ holds r p
  holds_read p q = simp (lat-read p.lat (lat-place q), lng-read p.lng p.gap q.lng-place)

  -- and what lies strictly inside lay so
  pub lat-strict-read : (x : Float) → LatPlace x → lat_strictly_holds (as_read r).lat x ≡ lat_strictly_holds r.lat x
  unfolding as_read
  lat-strict-read x q = strict-plain r.lat v.lat-reach x q

  pub lng-strict-read : (at : Float) (g : Bool) → LngPlace at g → lng_strictly_holds (as_read r).lng at g ≡ lng_strictly_holds r.lng at g
  unfolding as_read
  lng-strict-read at g q = lng-strict-plain r.lng v.lng-valid at g q

-- a point, and margins, as they are read
module _ {p : LatLng} (q : ValidPoint p) where
  point-nums : (Num p.lat ≡ true) × (Num p.lng ≡ true)
  unfolding is_lat_lng on_circle
  point-nums =
      let a : latitude p.lat ≡ true = search (and_l, q.is-valid) in
      let b : le NEG-PI p.lng ≡ true = search (and_l, and_r, q.is-valid) in
      (real-num p.lat (latitude-between p.lat q.lat-double a).real, num_of p.lng q.lng-double b)

  pub valid-point-plain : ValidPoint (plain_point p)
  unfolding is_lat_lng latitude on_circle
  valid-point-plain =
      let a = point-nums.0 in
      let b = point-nums.1 in
      let s = pole-nums.0 in
      let n = pole-nums.1 in
      let w = pi-nums.0 in
      let e = pi-nums.1 in
      record {
        lat-double = plain_fits p.lat q.lat-double;
        lng-double = plain_fits p.lng q.lng-double;
        is-valid = simp (plain-le, le-plain) q.is-valid;
      }

pub margins-plain : {m : LatLng} → Margins m → Margins (plain_point m)
margins-plain {m} n =
    record {
      lat-double = plain_fits m.lat n.lat-double;
      lng-double = plain_fits m.lng n.lng-double;
      lat-in-reach = plain-reach m.lat n.lat-in-reach;
      lng-in-reach = plain-reach m.lng n.lng-in-reach;
    }

-- no rectangle is refused as a point or a list is
not_own : (r : Rect) (n : ℕ) → eqb 0 n ≡ false → eqb 1 n ≡ false → eqb 21 n ≡ false → eqb 22 n ≡ false → eqb 23 n ≡ false → eqb (read_one r).refusal n ≡ false
unfolding read_one fault_of first_fault
not_own r n a b c d e = go (rect_in_reach r) (valid_latitudes r.lat) (circle.is_valid r.lng) (like_parts r)
  where
    go : (s t u v : Bool) → eqb (cond s (cond t (cond u (cond v 0 23) 22) 21) 1) n ≡ false
    go true true true true = a
    go true true true false = e
    go true true false v = d
    go true false u v = c
    go false t u v = b

pub no_bad_point : (r : Rect) → eqb (read_one r).refusal 3 ≡ false
no_bad_point r = not_own r 3 refl refl refl refl refl

pub no_bad_list : (r : Rect) → eqb (read_one r).refusal 5 ≡ false
no_bad_list r = not_own r 5 refl refl refl refl refl
