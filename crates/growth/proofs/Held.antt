-- A point that a valid rectangle holds already is accepted, and a call with it changes nothing. Its latitude lies between latitudes and its longitude in the
-- arc, so that growth of either part finds it inside; -PI lies only in an arc that holds PI, the seam's own name. Assumes nothing.
use mathlib.Core.Path.{◌≡◌, refl, sym, ap, ◌∙◌}
use mathlib.Core.Bool.{Bool, true, false, not, ◌&&◌, ◌||◌, cond, false≢true}
use mathlib.Core.List.{List}
use Prim.Native.Nat.{ℕ, ◌+◌, ◌<◌}
use native.Mathlib.Omega.{arith}
use lib.ListN.{length, drop}
use lib.Ieee.{Float, binary64, fits, le, eq}
use Rattle.order.specs.Key.{Num}
use Rattle.order.proofs.Keys.{le-key, eq-key}
use Rattle.order.proofs.Ranks.{and_l, and_r, and-of, or-of-l, or-of-r}
use Rattle.order.proofs.Facts.{tests, le_trans, num-r, le-no, not-le}
use Rattle.order.proofs.Monotone.{real-num}
use Rattle.consts.specs.Constants.{PI, NEG-PI}
use Rattle.consts.specs.Refusal.{number, accepted}
use Rattle.consts.specs.Reading.{plain}
use Rattle.consts.proofs.Readings.{plain-lt, lt-plain}
use Rattle.r1.specs.declared.interval.Interval.{Interval as Line}
use Rattle.r1.specs.Line as line
use Rattle.r1.proofs.Readings.{place-num}
use Rattle.s1.specs.declared.interval.Interval.{Interval as Circle}
use Rattle.s1.specs.Circle as circle
use Rattle.s1.specs.Circle.{seam}
use Rattle.s1.specs.Reading.{on_circle}
use Rattle.s1.specs.Places.{Valid as LngValid, holds as lng_holds}
use Rattle.s1.proofs.Readings.{valid-on}
use Rattle.s1.proofs.Held.{num-PI, num-NEG, lo-num, hi-num}
use Rattle.s1.proofs.Limits.{OnCircle}
use Rattle.s2.specs.declared.latlng.LatLng.{LatLng}
use Rattle.s2.specs.declared.rect.Rect.{Rect}
use Rattle.s2.specs.Reading.{Pair}
use Rattle.s2.specs.Zone.{NORTH, SOUTH, latitude, is_lat_lng, add}
use Rattle.s2.specs.declared.rect.Answer.{Answer}
use Rattle.s2.specs.Reading.{plain_point, read_point, NoMinusRect}
use Rattle.s2.specs.Places.{Valid, ValidPoint, DoublePoint}
use Rattle.s2.proofs.Readings.{poles, point-in}
use Rattle.s2.proofs.Latitudes.{Range}
use Rattle.s2.proofs.Circles.{seam-plain}
use Rattle.s2.proofs.Valid.{range, empty-both}
use Rattle.s2.proofs.Accepted.{add_is}
use Rattle.lists.specs.Points.{points_of, point_at}
use Rattle.lists.proofs.PointLists.{two}
use Rattle.growth.specs.RunningBox.{after, running}
use Rattle.growth.specs.Devices.{is_on, is_held, bad_in, HeldUntil}
use Rattle.growth.proofs.RunningBox.{read_same, call-good}

-- ---- the latitudes
module _ (i : Line) (x : Float) (a : Range i) (f : fits binary64 x ≡ true) (h : le i.lo x ≡ true) (k : le x i.hi ≡ true) where
  lat-num : Num x ≡ true
  lat-num = num-r i.lo x f h

  low-num : Num i.lo ≡ true
  low-num = place-num a.south.is-place

  high-num : Num i.hi ≡ true
  high-num = place-num a.north.is-place

  lat-valid : latitude x ≡ true
  unfolding latitude
  lat-valid =
      let s = real-num SOUTH poles.0 in
      let n = real-num NORTH poles.1 in
      and-of (le_trans SOUTH i.lo x s low-num lat-num (and_l (le SOUTH i.lo) (le i.lo NORTH) a.south.in-range) h)
      (le_trans x i.hi NORTH lat-num high-num n k a.north.in-range)

  lat-filled : line.is_empty i ≡ false
  unfolding line.is_empty
  lat-filled = le-no i.lo i.hi low-num high-num (le_trans i.lo x i.hi low-num lat-num high-num h k)

  lat-stays : line.add i (plain x) ≡ i
  unfolding line.add
  lat-stays =
      simp (
        lat-filled,
        plain-lt x i.lo lat-num low-num ∙ le-no i.lo x low-num lat-num h,
        lt-plain i.hi x high-num lat-num ∙ le-no x i.hi lat-num high-num k,
      )

-- ---- the longitudes
only : (s t : Bool) → not (s && not t) ≡ true → s ≡ true → t ≡ true
only true true h k = refl
only true false h k = h
only false t h k = absurd (false≢true k)

module _ (i : Circle) (x : Float) (v : LngValid i) (f : fits binary64 x ≡ true) (h : is_on i x ≡ true) where
  -- the ways to be on the arc: between ends that rise, from lo on to the seam, or from the seam on to hi
  by_way : (P : Type 0)
      → (le i.lo i.hi ≡ true → le i.lo x ≡ true → le x i.hi ≡ true → P)
      → (le i.lo i.hi ≡ false → le i.lo x ≡ true → le x PI ≡ true → P)
      → (le i.lo i.hi ≡ false → le NEG-PI x ≡ true → le x i.hi ≡ true → P)
      → P
  unfolding is_on
  by_way P a b c = go (le i.lo i.hi) (le i.lo x) refl refl h
    where
      go : (s t : Bool) → le i.lo i.hi ≡ s → le i.lo x ≡ t → cond s (t && le x i.hi) (cond t (le x PI) (le NEG-PI x && le x i.hi)) ≡ true → P
      go true t e d k = a e (d ∙ and_l t _ k) (and_r t _ k)
      go false true e d k = b e d k
      go false false e d k = c e (and_l _ _ k) (and_r (le NEG-PI x) _ k)

  lng-num : Num x ≡ true
  lng-num = by_way (Num x ≡ true) (λ e a b. num-r i.lo x f a) (λ e a b. num-r i.lo x f a) (λ e a b. num-r NEG-PI x f a)

  lo-on : (le NEG-PI i.lo ≡ true) × (le i.lo PI ≡ true)
  unfolding on_circle
  lo-on = let o = (valid-on i v.is-valid).0 in (and_l _ _ o, and_r (le NEG-PI i.lo) _ o)

  hi-under : le i.hi PI ≡ true
  unfolding on_circle
  hi-under = and_r (le NEG-PI i.hi) _ (valid-on i v.is-valid).1

  from-lo : le i.lo x ≡ true → le NEG-PI x ≡ true
  from-lo a = le_trans NEG-PI i.lo x num-NEG (lo-num v) lng-num lo-on.0 a

  to-hi : le x i.hi ≡ true → le x PI ≡ true
  to-hi b = le_trans x i.hi PI lng-num (hi-num v) num-PI b hi-under

  lng-on : OnCircle x
  unfolding on_circle
  lng-on =
      record {
        is-double = f;
        on-circle = by_way (le NEG-PI x && le x PI ≡ true) (λ e a b. and-of (from-lo a) (to-hi b)) (λ e a b. and-of (from-lo a) b) (λ e a b. and-of a (to-hi b));
      }

  -- EMPTY passes the test at PI and at -PI: that the arc is not EMPTY follows from the latitudes, below
  module _ (e : circle.is_empty i ≡ false) where
    -- an arc over the seam holds what lies from lo on or up to hi
    over : (y : Float) → le i.lo i.hi ≡ false → le i.lo y || le y i.hi ≡ true → lng_holds i y false ≡ true
    unfolding circle.is_empty
    over y d k = simp (not-le i.lo i.hi (lo-num v) (hi-num v) d, e, k)

    between : (y : Float) → le i.lo i.hi ≡ true → le i.lo y ≡ true → le y i.hi ≡ true → lng_holds i y false ≡ true
    between y d a b = simp (le-no i.lo i.hi (lo-num v) (hi-num v) d, a, b)

    -- where -PI is on the arc, so is PI: an arc that rises from -PI is FULL
    full-east : eq x NEG-PI ≡ true → le i.lo x ≡ true → le PI i.hi ≡ true
    unfolding circle.is_valid
    full-east s a =
        let n = lng-num in
        let l = lo-num v in
        let m = hi-num v in
        let w = num-NEG in
        let t = num-PI in
        let b = lo-on.0 in
        let west : eq i.lo NEG-PI ≡ true = simp (eq-key binary64) (omega (tests, simp (le-key binary64) at a, simp (le-key binary64) at b, simp (eq-key binary64) at s)) in
        let c : not (eq i.lo NEG-PI && not (eq i.hi PI)) ≡ true = search (and_l, and_r, v.is-valid) in
        let east = only (eq i.lo NEG-PI) (eq i.hi PI) c west in
        simp (le-key binary64) (omega (tests, simp (eq-key binary64) at east))

    at-seam : eq x NEG-PI ≡ true → lng_holds i PI false ≡ true
    at-seam s =
        by_way (lng_holds i PI false ≡ true)
        (λ d a b. between PI d lo-on.1 (full-east s a))
        (λ d a b. over PI d (or-of-l _ (le PI i.hi) lo-on.1))
        (λ d a b. over PI d (or-of-l _ (le PI i.hi) lo-on.1))

    elsewhere : lng_holds i x false ≡ true
    elsewhere =
        by_way (lng_holds i x false ≡ true)
        (λ d a b. between x d a b)
        (λ d a b. over x d (or-of-l _ (le x i.hi) a))
        (λ d a b. over x d (or-of-r (le i.lo x) _ b))

    lng-held : lng_holds i (seam x) false ≡ true
    unfolding seam
    lng-held = go (eq x NEG-PI) refl
      where
        go : (t : Bool) → eq x NEG-PI ≡ t → lng_holds i (cond t PI x) false ≡ true
        go true s = at-seam s
        go false s = elsewhere

    lng-stays : circle.add i (plain x) ≡ i
    unfolding circle.add circle.fast_contains circle.is_empty
    lng-stays = simp (seam-plain v lng-on ∙ lng-held)

-- ---- the rectangle
module _ (q : Rect) (p : LatLng) (v : Valid q) (d : DoublePoint p) (h : is_held q p ≡ true) where
  from-south : le q.lat.lo p.lat ≡ true
  unfolding is_held
  from-south = and_l _ _ (and_l _ _ h)

  to-north : le p.lat q.lat.hi ≡ true
  unfolding is_held
  to-north = and_r (le q.lat.lo p.lat) _ (and_l _ _ h)

  on-arc : is_on q.lng p.lng ≡ true
  unfolding is_held
  on-arc = and_r (le q.lat.lo p.lat && le p.lat q.lat.hi) _ h

  pub held-valid : ValidPoint p
  unfolding is_lat_lng
  held-valid =
      record {
        lat-double = d.lat-double;
        lng-double = d.lng-double;
        is-valid =
            and-of (lat-valid q.lat p.lat (range v) d.lat-double from-south to-north)
            (lng-on q.lng p.lng v.lng-valid d.lng-double on-arc).on-circle;
      }

  pub held-accepted : (read_point p).refusal ≡ number accepted
  held-accepted = ap (λ (x : Pair). x.refusal) (point-in p held-valid)

  pub held_stays : add q (plain_point p) ≡ q
  unfolding add
  held_stays =
      let filled = sym (empty-both v) ∙ lat-filled q.lat p.lat (range v) d.lat-double from-south to-north in
      let lat = lat-stays q.lat p.lat (range v) d.lat-double from-south to-north in
      let lng = lng-stays q.lng p.lng v.lng-valid d.lng-double on-arc filled in
      λ j. record { lat = lat j; lng = lng j }

  -- so a call with it changes nothing, where the rectangle has been read
  pub held-call : NoMinusRect q → after q p ≡ q
  held-call m =
      call-good v p held-valid ∙ ap (λ (a : Answer). a.value) (add_is q v p held-valid)
      ∙ ap (λ (r : Rect). add r (plain_point p)) (read_same q m) ∙ held_stays

-- such a point of a list is passed over
module _ (q : Rect) (l : List Float) (i : ℕ) (n : i + 1 < length l) (v : Valid q) (d : DoublePoint (point_at l i)) (h : is_held q (point_at l i) ≡ true) where
  pub held-turn : NoMinusRect q → running q (points_of (drop (i + 2) l)) ≡ running q (points_of (drop i l))
  unfolding running
  held-turn m = sym (ap (running q) (two l i n) ∙ ap (λ (r : Rect). running r (points_of (drop (i + 2) l))) (held-call q (point_at l i) v d h m))

  pub held-good : bad_in (points_of (drop (i + 2) l)) ≡ bad_in (points_of (drop i l))
  unfolding bad_in
  held-good = sym (ap bad_in (two l i n) ∙ simp (held-accepted q (point_at l i) v d h))

-- one point more is passed over
pub held_more : {q : Rect} {l : List Float} {first i : ℕ} → HeldUntil l first q i → i + 1 < length l → Valid q → DoublePoint (point_at l i)
    → is_held q (point_at l i) ≡ true → NoMinusRect q → HeldUntil l first q (i + 2)
held_more {q} {l} {first} {i} was n v d h m =
    record {
      box = held-turn q l i n v d h m ∙ was.box;
      bad = held-good q l i n v d h ∙ was.bad;
      from = omega (arith, was.from);
      up_to = omega (arith, n);
      whole = omega (arith, was.whole);
    }
