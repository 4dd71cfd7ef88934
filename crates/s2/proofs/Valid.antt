-- Every answered rectangle is valid, so that what is answered can be asked of again. The latitudes are in Latitudes and Clamps, the longitudes are the
-- circle's. Assumes nothing.
use mathlib.Core.Path.{◌≡◌, refl, sym, ◌∙◌}
use mathlib.Core.Bool.{Bool, true, false, not, ◌&&◌, ◌||◌, cond, false≢true}
use mathlib.Core.Logic.{◌⊎◌, inl, inr, ◌↔◌}
use lib.Ieee.{of_bits, fits, neg, lt, le, eq}
use Rattle.order.specs.Choice.{abs}
use Rattle.order.proofs.Ranks.{and_l, and_r, and-of}
use Rattle.order.proofs.Choices.{size-le}
use Rattle.order.proofs.Monotone.{real-num}
use Rattle.consts.specs.Reading.{in_reach}
use Rattle.consts.proofs.Readings.{reach-num}
use Rattle.r1.specs.declared.interval.Interval.{Interval as Line}
use Rattle.r1.specs.Line as line
use Rattle.s1.specs.declared.interval.Interval.{Interval as Circle}
use Rattle.s1.specs.Circle as circle
use Rattle.s1.specs.Circle.{seam}
use Rattle.s1.specs.Reading.{on_circle}
use Rattle.s1.specs.Places.{Valid as LngValid}
use Rattle.s1.proofs.Expansions.{read-expanded-valid as expanded-circle}
use Rattle.s1.proofs.Laws as circles
use Rattle.s1.proofs.Limits.{OnCircle, seam-place}
use Rattle.s2.specs.declared.latlng.LatLng.{LatLng}
use Rattle.s2.specs.declared.rect.Rect.{Rect}
use Rattle.s2.specs.Zone as zone
use Rattle.s2.specs.Zone.{NORTH, SOUTH, box, FULL, EMPTY, latitude, valid_latitudes, alike, like_parts, is_lat_lng, is_valid, is_empty}
use Rattle.s2.specs.Answers.{from_lat_lng, from_center_size, from_point_pair, expanded, polar_closure, union, intersection, add}
use Rattle.s2.specs.Places.{Doubles, Valid, ValidPoint, Margins}
use Rattle.s2.specs.Reading.{rect_in_reach}
use Rattle.s2.specs.Refusals.{over_latitude}
use Rattle.s2.proofs.Readings.{poles, valid-read, valid-point-plain, margins-plain}
use Rattle.s2.proofs.Accepted.{union-is, intersection-is, closure-is, expanded-is, add_is, from-latlng-is, center-size-is, pair_is}
use Rattle.s2.proofs.Latitudes.{South, Range, range-of, range-reach, range-valid, south-of, north-of, union-range, intersection-range, add-range, pair-range, union-empty, add-filled, pair-filled, point-filled}
use Rattle.s2.proofs.Clamps.{clamped, half_place}
use Rattle.s2.proofs.Circles.{lng-filled, lng-hi, normal-seam, lone-valid, lone-filled}

-- ---- a rectangle and its parts
alike_same : (a b : Bool) → alike a b ≡ true → a ≡ b
alike_same true b h = sym h
alike_same false true h = absurd (false≢true h)
alike_same false false h = refl

same_alike : (a b : Bool) → a ≡ b → alike a b ≡ true
same_alike true b e = sym e
same_alike false true e = absurd (false≢true e)
same_alike false false e = refl

module _ {r : Rect} (v : Valid r) where
  pub range : Range r.lat
  unfolding is_valid
  range = let h : valid_latitudes r.lat ≡ true = search (and_l, v.is-valid) in range-of v.lat-reach h

  -- both parts are empty, or neither is
  pub empty-both : line.is_empty r.lat ≡ circle.is_empty r.lng
  unfolding is_valid
  empty-both = alike_same _ _ (and_r (valid_latitudes r.lat && circle.is_valid r.lng) _ v.is-valid)

pub latitudes-valid : {r : Rect} → Valid r → valid_latitudes r.lat ≡ true
latitudes-valid v = range-valid (range v)

-- what it is to be valid, of numbers in reach: the size of lat.lo is at most PI/2, and so is lat.hi, the circle interval is valid, and both parts are empty or neither
valid-parts : (a b c d e : Bool) → (a && b && c && alike d e ≡ true) ↔ ((a ≡ true) × (b ≡ true) × (c ≡ true) × (d ≡ e))
valid-parts a b c d e = (
  λ h. (and_l a b (and_l (a && b) c (and_l (a && b && c) _ h)), and_r a b (and_l (a && b) c (and_l (a && b && c) _ h)), and_r (a && b) c (and_l (a && b && c) _ h), alike_same d e (and_r (a && b && c) _ h)),
  λ h. and-of (and-of (and-of h.0 h.1) h.2) (same_alike d e h.3),
)

south-is : neg NORTH ≡ SOUTH
unfolding of_bits neg
south-is = refl

-- of numbers in reach, a latitude lies from pole to pole by its size
size_is : (r : Rect) → Doubles r → rect_in_reach r ≡ true → le (abs r.lat.lo) NORTH ≡ latitude r.lat.lo
unfolding latitude rect_in_reach
size_is r d h =
    let n = reach-num r.lat.lo d.lat-lo (and_l _ _ (and_l _ _ (and_l _ _ h))) in
    size-le r.lat.lo NORTH n (real-num NORTH poles.1) ∙ rw south-is refl

pub valid-means : (r : Rect) → Doubles r → rect_in_reach r ≡ true
    → (is_valid r ≡ true) ↔ ((le (abs r.lat.lo) NORTH ≡ true) × (le r.lat.hi NORTH ≡ true) × (circle.is_valid r.lng ≡ true) × (line.is_empty r.lat ≡ circle.is_empty r.lng))
unfolding is_valid
valid-means r d h = rw (size_is r d h) (valid-parts (latitude r.lat.lo) (le r.lat.hi NORTH) (circle.is_valid r.lng) (line.is_empty r.lat) (circle.is_empty r.lng))

-- and what it is to have the latitudes over their range, or parts that are not alike
pub over-means : (r : Rect) → Doubles r
    → (over_latitude r ≡ true) ↔ ((rect_in_reach r ≡ true) × ((le (abs r.lat.lo) NORTH ≡ false) ⊎ (le r.lat.hi NORTH ≡ false)))
over-means r d = (
  (λ h. let k = and_l (rect_in_reach r) _ h in (k, rw (size_is r d k) (there (latitude r.lat.lo) (le r.lat.hi NORTH) (and_r (rect_in_reach r) _ h)))),
  (λ h. and-of h.0 (back (latitude r.lat.lo) (le r.lat.hi NORTH) (rw (size_is r d h.0) at h.1))),
)
  where
    there : (a b : Bool) → not (a && b) ≡ true → (a ≡ false) ⊎ (b ≡ false)
    there true true h = absurd (false≢true h)
    there true false h = inr refl
    there false b h = inl refl

    back : (a b : Bool) → (a ≡ false) ⊎ (b ≡ false) → not (a && b) ≡ true
    back a b (inl e) = rw e refl
    back true b (inr e) = rw e refl
    back false b (inr e) = refl

pub unlike-means : (r : Rect) → (like_parts r ≡ false) ↔ (line.is_empty r.lat ≡ not (circle.is_empty r.lng))
unlike-means r = go (line.is_empty r.lat) (circle.is_empty r.lng)
  where
    go : (a b : Bool) → (alike a b ≡ false) ↔ (a ≡ not b)
    go true true = (λ h. h, λ h. h)
    go true false = (λ h. refl, λ h. refl)
    go false true = (λ h. refl, λ h. refl)
    go false false = (λ h. sym h, λ h. sym h)

pub made : {lat : Line} {lng : Circle} → Range lat → LngValid lng → line.is_empty lat ≡ circle.is_empty lng → Valid (box lat lng)
unfolding is_valid
made a w e = record { lat-reach = range-reach a; lng-valid = w; is-valid = and-of (and-of (range-valid a) w.is-valid) (same_alike _ _ e) }

pub empty-valid : Valid EMPTY
unfolding is_valid latitude line.is_empty circle.is_valid circle.is_empty in_reach fits of_bits le lt eq
empty-valid =
    record {
      lat-reach = record { lo-place = record { is-double = refl; in-reach = refl }; hi-place = record { is-double = refl; in-reach = refl } };
      lng-valid = record { lo-double = refl; hi-double = refl; is-valid = refl };
      is-valid = refl;
    }

pub full-valid : LngValid circle.FULL
unfolding circle.is_valid fits of_bits le lt eq
full-valid = record { lo-double = refl; hi-double = refl; is-valid = refl }

full-filled : circle.is_empty circle.FULL ≡ false
unfolding circle.is_empty of_bits eq
full-filled = refl

-- both parts, or the standard empty
either-part : (a b : Bool) → a || b ≡ false → (a ≡ false) × (b ≡ false)
either-part false b h = (refl, h)
either-part true b h = absurd (false≢true (sym h))

both-or-empty : (t : Bool) {r : Rect} → (t ≡ false → Valid r) → Valid (cond t EMPTY r)
both-or-empty true k = empty-valid
both-or-empty false k = k refl

-- ---- points
module _ {p : LatLng} (q : ValidPoint p) where
  pub point-south : South p.lat
  unfolding is_lat_lng
  point-south = south-of q.lat-double (and_l (latitude p.lat) (on_circle p.lng) q.is-valid)

  pub point-lng : OnCircle p.lng
  unfolding is_lat_lng
  point-lng = record { is-double = q.lng-double; on-circle = and_r (latitude p.lat) (on_circle p.lng) q.is-valid }

  pub spot-valid : Valid (zone.from_lat_lng p)
  unfolding zone.from_lat_lng
  spot-valid =
      let s = point-south in
      let w = seam-place point-lng in
      rw (normal-seam point-lng)
      (made (record { south = s; north = north-of s }) (lone-valid w) (point-filled s ∙ sym (lone-filled w)))

-- ---- the closure
pub closure-valid : {r : Rect} → Valid r → Valid (zone.polar_closure r)
unfolding zone.polar_closure is_empty
closure-valid {r} v = go (line.is_empty r.lat) (eq r.lat.lo SOUTH || eq r.lat.hi NORTH) refl
  where
    go : (s t : Bool) → line.is_empty r.lat ≡ s → Valid (cond (not s && t) (box r.lat circle.FULL) r)
    go true t e = v
    go false true e = made (range v) full-valid (e ∙ sym full-filled)
    go false false e = v

-- ---- what Rect defines, of operands that have been read
-- the longitudes of the hull are EMPTY where both are
lng-union-empty : {i o : Circle} → LngValid i → LngValid o → circle.is_empty (circle.union i o) ≡ circle.is_empty i && circle.is_empty o
unfolding circle.union
lng-union-empty {i} {o} v w = go (circle.is_empty i) (circle.is_empty o) refl refl
  where
    go : (s t : Bool) → circle.is_empty i ≡ s → circle.is_empty o ≡ t → circle.is_empty (circle.union i o) ≡ circle.is_empty i && circle.is_empty o
    go true true e d = simp (e, d)
    go false t e d =
        let h = lng-hi v e in
        lng-filled (circles.read-union-valid v w) i.hi false ((circles.read-union-holds v w).0 i.hi false h.0 h.1) ∙ sym (simp e)
    go true false e d =
        let h = lng-hi w d in
        lng-filled (circles.read-union-valid v w) o.hi false ((circles.read-union-holds v w).1 o.hi false h.0 h.1) ∙ sym (simp (e, d))

pub read-union-valid : {r o : Rect} → Valid r → Valid o → Valid (zone.union r o)
unfolding zone.union
read-union-valid {r} {o} v w =
    made (union-range (range v) (range w)) (circles.read-union-valid v.lng-valid w.lng-valid)
    (union-empty (range v) (range w) ∙ simp (empty-both v, empty-both w) (sym (lng-union-empty v.lng-valid w.lng-valid)))

pub read-intersection-valid : {r o : Rect} → Valid r → Valid o → Valid (zone.intersection r o)
unfolding zone.intersection
read-intersection-valid {r} {o} v w =
    both-or-empty (line.is_empty (line.intersection r.lat o.lat) || circle.is_empty (circle.intersection r.lng o.lng))
    (λ h.
    let e = either-part (line.is_empty (line.intersection r.lat o.lat)) (circle.is_empty (circle.intersection r.lng o.lng)) h in
    made (intersection-range (range v) (range w)) (circles.read-intersection-valid v.lng-valid w.lng-valid) (e.0 ∙ sym e.1))

pub read-expanded-valid : {r : Rect} {m : LatLng} → Valid r → Margins m → Valid (zone.expanded r m)
unfolding zone.expanded
read-expanded-valid {r} {m} v n =
    both-or-empty (line.is_empty (line.expanded r.lat m.lat) || circle.is_empty (circle.expanded r.lng m.lng))
    (λ h.
    let e = either-part (line.is_empty (line.expanded r.lat m.lat)) (circle.is_empty (circle.expanded r.lng m.lng)) h in
    let c = clamped (range v) m.lat (record { is-double = n.lat-double; in-reach = n.lat-in-reach }) e.0 in
    made c.in-range (expanded-circle r.lng m.lng v.lng-valid n.lng-double n.lng-in-reach) (c.not-empty ∙ sym e.1))

pub read-add-valid : {r : Rect} {p : LatLng} → Valid r → ValidPoint p → Valid (zone.add r p)
unfolding zone.add
read-add-valid {r} {p} v q =
    let w = circles.read-add-valid v.lng-valid (point-lng q) in
    made (add-range (range v) (point-south q)) w
    (add-filled (range v) (point-south q) ∙ sym (lng-filled w (seam p.lng) false (circles.add-takes v.lng-valid (point-lng q))))

pub pair-valid : {p o : LatLng} → ValidPoint p → ValidPoint o → Valid (zone.from_point_pair p o)
unfolding zone.from_point_pair
pair-valid {p} {o} q t =
    let w = circles.pair-valid (point-lng q) (point-lng t) in
    made (pair-range (point-south q) (point-south t)) w
    (pair-filled (point-south q) (point-south t) ∙ sym (lng-filled w (seam p.lng) false (circles.pair-holds (point-lng q) (point-lng t)).0))

pub around-valid : {p s : LatLng} → ValidPoint p → Margins s → Valid (zone.from_center_size p s)
unfolding zone.from_center_size
around-valid {p} {s} q n =
    let a = half_place s.lat (record { is-double = n.lat-double; in-reach = n.lat-in-reach }) in
    let b = half_place s.lng (record { is-double = n.lng-double; in-reach = n.lng-in-reach }) in
    read-expanded-valid (spot-valid q)
    (record { lat-double = a.is-double; lng-double = b.is-double; lat-in-reach = a.in-reach; lng-in-reach = b.in-reach })

-- ---- the answers
module _ {r : Rect} (v : Valid r) where
  pub union-valid : {o : Rect} → Valid o → Valid (union r o).value
  union-valid {o} w = rw (union-is r v o w) (read-union-valid (valid-read v) (valid-read w))

  pub intersection-valid : {o : Rect} → Valid o → Valid (intersection r o).value
  intersection-valid {o} w = rw (intersection-is r v o w) (read-intersection-valid (valid-read v) (valid-read w))

  pub expanded-valid : {m : LatLng} → Margins m → Valid (expanded r m).value
  expanded-valid {m} n = rw (expanded-is r v m n) (read-expanded-valid (valid-read v) (margins-plain n))

  pub add-valid : {p : LatLng} → ValidPoint p → Valid (add r p).value
  add-valid {p} q = rw (add_is r v p q) (read-add-valid (valid-read v) (valid-point-plain q))

  pub polar-closure-valid : Valid (polar_closure r).value
  polar-closure-valid = rw (closure-is r v) (closure-valid (valid-read v))

module _ {p : LatLng} (q : ValidPoint p) where
  pub from-latlng-valid : Valid (from_lat_lng p).value
  from-latlng-valid = rw (from-latlng-is p q) (spot-valid (valid-point-plain q))

  pub from-point-pair-valid : {o : LatLng} → ValidPoint o → Valid (from_point_pair p o).value
  from-point-pair-valid {o} t = rw (pair_is p q o t) (pair-valid (valid-point-plain q) (valid-point-plain t))

  pub from-center-size-valid : {s : LatLng} → Margins s → Valid (from_center_size p s).value
  from-center-size-valid {s} n = rw (center-size-is p q s n) (around-valid (valid-point-plain q) (margins-plain n))
