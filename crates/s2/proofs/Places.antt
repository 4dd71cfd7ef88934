-- The rectangle over places: what document 01 and the comments of s2latlng_rect.h say of each operation, for all valid operands in reach, every kind of
-- valid empty one included, of the answers themselves. A law of a rectangle is one of its latitudes and one of its longitudes, which part where it holds a
-- place at all. Assumes nothing.
use mathlib.Core.Path.{◌≡◌, refl, sym, ◌∙◌}
use mathlib.Core.Bool.{Bool, true, false, not, ◌&&◌, ◌||◌, cond, false≢true}
use mathlib.Core.Logic.{◌⊎◌, inl, inr, ⊎_elim}
use lib.Ieee.{Float, binary64, of_bits, fits, lt, le, eq}
use Rattle.order.specs.Key.{Num}
use Rattle.order.proofs.Keys.{le-key, eq-key}
use Rattle.order.proofs.Ranks.{and_l, and_r, and-of, or_at, or-of-l, or-of-r}
use Rattle.order.proofs.Facts.{tests, le_trans}
use Rattle.order.proofs.Monotone.{real-num}
use Rattle.consts.specs.Constants.{PI}
use Rattle.consts.specs.Refusal.{number, bad_point}
use Rattle.consts.specs.Answer.{Decides}
use Rattle.consts.specs.Reading.{in_reach}
use Rattle.consts.proofs.Decisions.{decides}
use Rattle.r1.specs.declared.interval.Interval.{Interval as Line}
use Rattle.r1.specs.Line as line
use Rattle.r1.specs.Places.{holds as lat_holds, Place as LatPlace, InReach as LatReach, Inside as LatInside}
use Rattle.r1.proofs.Readings.{place-num, point-plain}
use Rattle.r1.proofs.Trials as trials
use Rattle.r1.proofs.Trials.{point-reach, pair-reach}
use Rattle.s1.specs.Circle as circle
use Rattle.s1.specs.Places.{Place as LngPlace, holds as lng_holds, Inside as LngInside, Meets as LngMeets}
use Rattle.s1.proofs.Laws as circles
use Rattle.s1.proofs.Held.{at-PI}
use Rattle.s1.proofs.Limits.{seam-place}
use Rattle.s2.specs.declared.latlng.LatLng.{LatLng}
use Rattle.s2.specs.declared.place.Place.{Place}
use Rattle.s2.specs.declared.rect.Rect.{Rect}
use Rattle.s2.specs.Zone as zone
use Rattle.s2.specs.Zone.{NORTH, SOUTH, LATITUDES, box, FULL, EMPTY, latitude, is_lat_lng}
use Rattle.s2.specs.Reading.{as_read, plain_point}
use Rattle.s2.specs.Answers as answers
use Rattle.s2.specs.Answers.{is_empty, is_full, contains_lat_lng, contains, intersects, union, intersection, from_point_pair, add, polar_closure}
use Rattle.s2.specs.Places.{IsPlace, at_pole, place_at, place_of, Valid, ValidPoint, holds, Inside, Meets, Nothing, Everything}
use Rattle.s2.proofs.Readings.{poles, lat-place, valid-read, valid-point-plain, lat-read, lng-read, holds_read, one_in, two_in, with-point-in, point-bad}
use Rattle.s2.proofs.Accepted.{union-is, intersection-is, pair_is, add_is, closure-is}
use Rattle.s2.proofs.Latitudes.{Range, range-reach, filled, filled-lo, intersection-range}
use Rattle.s2.proofs.Circles.{lng-filled, lng-hi, seam-plain, full-holds, empty_holds}
use Rattle.s2.proofs.Valid.{range, empty-both, point-south, point-lng, from-point-pair-valid, add-valid}

-- ---- a rectangle and itself as it is read
module _ {r : Rect} (v : Valid r) {p : Place} (q : IsPlace p) where
  pub to_read : holds r p ≡ true → holds (as_read r) p ≡ true
  to_read h = holds_read r v p q ∙ h

  pub from-read : holds (as_read r) p ≡ true → holds r p ≡ true
  from-read h = sym (holds_read r v p q) ∙ h

module _ {r o : Rect} (v : Valid r) (w : Valid o) where
  inside-read : Inside r o → Inside (as_read r) (as_read o)
  inside-read H p q h = to_read v q (H p q (from-read w q h))

module _ {r : Rect} (v : Valid r) {at : Float} {g : Bool} (q : LngPlace at g) where
  lng-to-read : lng_holds r.lng at g ≡ true → lng_holds (as_read r).lng at g ≡ true
  lng-to-read h = lng-read r v at g q ∙ h

  lng-from-read : lng_holds (as_read r).lng at g ≡ true → lng_holds r.lng at g ≡ true
  lng-from-read h = sym (lng-read r v at g q) ∙ h

-- ---- places and parts
pole-nums : (Num SOUTH ≡ true) × (Num NORTH ≡ true)
pole-nums = (real-num SOUTH poles.0, real-num NORTH poles.1)

-- what a valid rectangle's latitudes hold is a latitude
pub held-latitude : {i : Line} → Range i → (x : Float) → LatPlace x → lat_holds i x ≡ true → latitude x ≡ true
unfolding latitude lat_holds
held-latitude {i} a x q h =
    let n = place-num q in
    let nl = place-num a.south.is-place in
    let nh = place-num a.north.is-place in
    let s = and_l (le SOUTH i.lo) (le i.lo NORTH) a.south.in-range in
    and-of (le_trans SOUTH i.lo x pole-nums.0 nl n s (and_l (le i.lo x) (le x i.hi) h))
    (le_trans x i.hi NORTH n nh pole-nums.1 (and_r (le i.lo x) (le x i.hi) h) a.north.in-range)

pub place-of : {x at : Float} {g : Bool} → LatPlace x → latitude x ≡ true → LngPlace at g → IsPlace (place_at x at g)
place-of a h q = record { is-double = a.is-double; is-latitude = h; lng-place = q }

module _ (r : Rect) (p : Place) (h : holds r p ≡ true) where
  pub lat-held : lat_holds r.lat p.lat ≡ true
  lat-held = and_l _ (lng_holds r.lng p.lng p.gap) h

  pub lng-held : lng_holds r.lng p.lng p.gap ≡ true
  lng-held = and_r (lat_holds r.lat p.lat) _ h

-- a rectangle that is not empty holds the place of its lat.lo and its lng.hi
abbrev pub own : Rect → Place
own r = place_at r.lat.lo r.lng.hi false

module _ {r : Rect} (v : Valid r) (e : zone.is_empty r ≡ false) where
  pub own-place : IsPlace (own r)
  unfolding zone.is_empty
  own-place = let s = (range v).south in place-of s.is-place s.in-range (lng-hi v.lng-valid (sym (empty-both v) ∙ e)).0

  pub own_held : holds r (own r) ≡ true
  unfolding zone.is_empty
  own_held = and-of (filled-lo v.lat-reach e) (lng-hi v.lng-valid (sym (empty-both v) ∙ e)).1

-- one that holds a place is not empty
pub holds-filled : {r : Rect} {p : Place} → Valid r → IsPlace p → holds r p ≡ true → zone.is_empty r ≡ false
unfolding zone.is_empty
holds-filled {r} {p} v q h = filled v.lat-reach (lat-place q) (lat-held r p h)

is_true : (t : Bool) → (t ≡ false → ⊥) → t ≡ true
is_true true k = refl
is_true false k = absurd (k refl)

-- ---- one rectangle
-- `is_empty` exactly when no place is held
pub is-empty-places : (r : Rect) → Valid r → Decides (is_empty r) (Nothing r)
unfolding is_empty
is-empty-places r v =
    let w = valid-read v in
    decides {b = zone.is_empty (as_read r)} (simp (one_in r v))
    (λ e p q h. false≢true (sym (holds-filled w q (to_read v q h)) ∙ e))
    (λ H. is_true (zone.is_empty (as_read r)) (λ e. H (own (as_read r)) (own-place w e) (from-read v (own-place w e) (own_held w e))))

-- ---- points
-- the place of a point
pub point-place : {p : LatLng} → ValidPoint p → IsPlace (place_of p)
point-place q = let s = point-south q in place-of s.is-place s.in-range (seam-place (point-lng q))

-- a rectangle holds it as it is read where it holds it as it came
point-holds : {r : Rect} {p : LatLng} → Valid r → ValidPoint p → holds r (place_of (plain_point p)) ≡ holds r (place_of p)
point-holds {r} {p} v q = simp (point-plain r.lat v.lat-reach p.lat (point-south q).is-place, seam-plain v.lng-valid (point-lng q))

-- `contains_latlng` exactly when the point's place is held
pub contains-latlng-place : (r : Rect) (p : LatLng) → Valid r → ValidPoint p → Decides (contains_lat_lng r p) (holds r (place_of p) ≡ true)
unfolding contains_lat_lng zone.contains_lat_lng line.contains lat_holds circle.contains circle.fast_contains circle.is_empty
contains-latlng-place r p v q =
    let q' = valid-point-plain q in
    let e = holds_read r v (place_of (plain_point p)) (point-place q') ∙ point-holds v q in
    decides {b = zone.contains_lat_lng (as_read r) (plain_point p)} (simp (with-point-in r v p q)) (λ h. sym e ∙ h) (λ h. e ∙ h)

-- ---- the whole sphere
latitudes-reach : LatReach LATITUDES
unfolding in_reach fits of_bits le lt eq
latitudes-reach = record { lo-place = record { is-double = refl; in-reach = refl }; hi-place = record { is-double = refl; in-reach = refl } }

pole-place : latitude NORTH ≡ true
unfolding latitude of_bits le lt eq
pole-place = refl

-- the full rectangle holds every place, the standard empty none
pub full-and-empty : Everything FULL × Nothing EMPTY
unfolding lat_holds latitude
full-and-empty = (λ p q. and-of q.is-latitude (full-holds p.lng p.gap q.lng-place), λ p q h. empty_holds p.lng p.gap (lng-held EMPTY p h))

-- ---- where one rectangle lies in another, so do its parts
inside-parts : (r o : Rect) → Valid o → Inside r o → LatInside r.lat o.lat × LngInside r.lng o.lng
unfolding zone.is_empty
inside-parts r o w H = go (zone.is_empty o) refl
  where
    go : (t : Bool) → zone.is_empty o ≡ t → LatInside r.lat o.lat × LngInside r.lng o.lng
    go true e = (
      λ x q h. absurd (false≢true (sym (filled w.lat-reach q h) ∙ e)),
      λ at g q h. absurd (false≢true (sym (lng-filled w.lng-valid at g h) ∙ sym (empty-both w) ∙ e)),
    )
    go false e =
        let p = own-place w e in
        let k = own_held w e in (
          λ x q h.
              let at = place_at x o.lng.hi false in
              lat-held r at (H at (place-of q (held-latitude (range w) x q h) p.lng-place) (and-of h (lng-held o (own o) k))),
          λ at g q h.
              let there = place_at o.lat.lo at g in
              lng-held r there (H there (place-of w.lat-reach.lo-place p.is-latitude q) (and-of (lat-held o (own o) k) h)),
        )

-- ---- two rectangles that have been read
module _ {r o : Rect} (v : Valid r) (w : Valid o) where
  contains-fwd : zone.contains r o ≡ true → Inside r o
  unfolding zone.contains
  contains-fwd c p q h =
      and-of
      (trials.contains-fwd v.lat-reach w.lat-reach (lat-place q) (and_l (line.contains_interval r.lat o.lat) _ c) (lat-held o p h))
      ((circles.contains-inside v.lng-valid w.lng-valid).0 (and_r (line.contains_interval r.lat o.lat) _ c) p.lng p.gap q.lng-place (lng-held o p h))

  contains-bwd : Inside r o → zone.contains r o ≡ true
  unfolding zone.contains
  contains-bwd H =
      let p = inside-parts r o w H in
      and-of (trials.contains-bwd v.lat-reach w.lat-reach v.lat-reach.lo-place p.0) ((circles.contains-inside v.lng-valid w.lng-valid).1 p.1)

  same-fwd : zone.eq r o ≡ true → Inside r o × Inside o r
  unfolding zone.eq
  same-fwd h =
      let a = and_l (line.eq r.lat o.lat) (circle.eq r.lng o.lng) h in
      let b = (circles.same-places v.lng-valid w.lng-valid).0 (and_r (line.eq r.lat o.lat) (circle.eq r.lng o.lng) h) in (
        λ p q k.
            and-of ((trials.same-fwd v.lat-reach w.lat-reach (lat-place q) a).1 (lat-held o p k)) (b.0 p.lng p.gap q.lng-place (lng-held o p k)),
        λ p q k.
            and-of ((trials.same-fwd v.lat-reach w.lat-reach (lat-place q) a).0 (lat-held r p k)) (b.1 p.lng p.gap q.lng-place (lng-held r p k)),
      )

  same-bwd : Inside r o → Inside o r → zone.eq r o ≡ true
  unfolding zone.eq
  same-bwd H J =
      let p = inside-parts r o w H in
      let n = inside-parts o r v J in
      and-of (trials.same-bwd v.lat-reach w.lat-reach v.lat-reach.lo-place p.0 n.0) ((circles.same-places v.lng-valid w.lng-valid).1 (p.1, n.1))

  meets-fwd : zone.intersects r o ≡ true → Meets r o
  unfolding zone.intersects
  meets-fwd h =
      let m = trials.meets-fwd v.lat-reach w.lat-reach v.lat-reach.lo-place (and_l (line.intersects r.lat o.lat) _ h) in
      let n = (circles.meets-shared v.lng-valid w.lng-valid).0 (and_r (line.intersects r.lat o.lat) _ h) in
      (place_at m.0 n.0 n.1, place-of m.1 (held-latitude (range v) m.0 m.1 m.2) n.2, and-of m.2 n.3, and-of m.3 n.4)

  meets-bwd : Meets r o → zone.intersects r o ≡ true
  unfolding zone.intersects
  meets-bwd m =
      let p = m.0 in
      let q = m.1 in
      and-of
      (trials.meets-bwd v.lat-reach w.lat-reach (lat-place q) (lat-held r p m.2) (lat-held o p m.3))
      ((circles.meets-shared v.lng-valid w.lng-valid).1 (p.lng, p.gap, q.lng-place, lng-held r p m.2, lng-held o p m.3))

  read-intersection-holds : (p : Place) → IsPlace p → holds r p ≡ true → holds o p ≡ true → holds (zone.intersection r o) p ≡ true
  unfolding zone.intersection
  read-intersection-holds p q h k =
      let a = trials.intersection-at v.lat-reach w.lat-reach (lat-place q) ∙ and-of (lat-held r p h) (lat-held o p k) in
      let b = circles.read-intersection-holds v.lng-valid w.lng-valid p.lng p.gap q.lng-place (lng-held r p h) (lng-held o p k) in
      let c = filled (range-reach (intersection-range (range v) (range w))) (lat-place q) a in
      let d = lng-filled (circles.read-intersection-valid v.lng-valid w.lng-valid) p.lng p.gap b in
      simp (c, d) (and-of a b)

  read-intersection-within : LngInside r.lng (zone.intersection r o).lng ⊎ LngInside o.lng (zone.intersection r o).lng
  unfolding zone.intersection
  read-intersection-within = go (line.is_empty (line.intersection r.lat o.lat) || circle.is_empty (circle.intersection r.lng o.lng))
    where
      go : (t : Bool)
          → LngInside r.lng (cond t EMPTY (box (line.intersection r.lat o.lat) (circle.intersection r.lng o.lng))).lng
          ⊎ LngInside o.lng (cond t EMPTY (box (line.intersection r.lat o.lat) (circle.intersection r.lng o.lng))).lng
      go true = inl (λ at g q h. absurd (empty_holds at g h))
      go false = circles.read-intersection-within v.lng-valid w.lng-valid

-- ---- the whole sphere
module _ {r : Rect} (v : Valid r) where
  full-fwd : zone.is_full r ≡ true → Everything r
  unfolding zone.is_full latitude lat_holds
  full-fwd h p q =
      and-of ((trials.same-fwd v.lat-reach latitudes-reach (lat-place q) (and_l (line.eq r.lat LATITUDES) _ h)).1 q.is-latitude)
      ((circles.full-everything v.lng-valid).0 (and_r (line.eq r.lat LATITUDES) _ h) p.lng p.gap q.lng-place)

  full-bwd : Everything r → zone.is_full r ≡ true
  unfolding zone.is_full latitude lat_holds
  full-bwd H =
      and-of
      (trials.same-bwd v.lat-reach latitudes-reach v.lat-reach.lo-place
      (λ x q h. let p = place_at x PI false in lat-held r p (H p (place-of q h at-PI)))
      (λ x q h. held-latitude (range v) x q h))
      ((circles.full-everything v.lng-valid).1
      (λ at g q. let p = place_at NORTH at g in lng-held r p (H p (place-of latitudes-reach.hi-place pole-place q))))

-- `is_full` exactly when every place is held
pub is-full-places : (r : Rect) → Valid r → Decides (is_full r) (Everything r)
unfolding is_full
is-full-places r v =
    let w = valid-read v in
    decides {b = zone.is_full (as_read r)} (simp (one_in r v))
    (λ h p q. from-read v q (full-fwd w h p q))
    (λ H. full-bwd w (λ p q. to_read v q (H p q)))

-- ---- two rectangles
module _ (r o : Rect) (v : Valid r) (w : Valid o) where
  -- `contains` exactly when each place of the other is in this one
  pub contains-places : Decides (contains r o) (Inside r o)
  unfolding contains
  contains-places =
      let v' = valid-read v in
      let w' = valid-read w in
      decides {b = zone.contains (as_read r) (as_read o)} (simp (two_in r v o w))
      (λ c p q h. from-read v q (contains-fwd v' w' c p q (to_read w q h)))
      (λ H. contains-bwd v' w' (inside-read v w H))

  -- `intersects` exactly when a place is shared
  pub intersects-places : Decides (intersects r o) (Meets r o)
  unfolding intersects
  intersects-places =
      let v' = valid-read v in
      let w' = valid-read w in
      decides {b = zone.intersects (as_read r) (as_read o)} (simp (two_in r v o w))
      (λ h. let m = meets-fwd v' w' h in (m.0, m.1, from-read v m.1 m.2, from-read w m.1 m.3))
      (λ m. meets-bwd v' w' (m.0, m.1, to_read v m.1 m.2, to_read w m.1 m.3))

  -- `eq` exactly when both hold the same places
  pub equal-places : Decides (answers.eq r o) (Inside r o × Inside o r)
  unfolding answers.eq
  equal-places =
      let v' = valid-read v in
      let w' = valid-read w in
      decides {b = zone.eq (as_read r) (as_read o)} (simp (two_in r v o w))
      (λ h.
      let s = same-fwd v' w' h in (
        λ p q k. from-read v q (s.0 p q (to_read w q k)),
        λ p q k. from-read w q (s.1 p q (to_read v q k)),
      ))
      (λ H. same-bwd v' w' (inside-read v w H.0) (inside-read w v H.1))

  -- the union holds both operands
  pub union-holds : Inside (union r o).value r × Inside (union r o).value o
  unfolding zone.union
  union-holds =
      let v' = valid-read v in
      let w' = valid-read w in
      rw (union-is r v o w) (
        λ p q h.
            let k = to_read v q h in
            and-of (trials.read-union-holds v'.lat-reach w'.lat-reach (lat-place q) (or-of-l _ (lat_holds (as_read o).lat p.lat) (lat-held (as_read r) p k)))
            ((circles.read-union-holds v'.lng-valid w'.lng-valid).0 p.lng p.gap q.lng-place (lng-held (as_read r) p k)),
        λ p q h.
            let k = to_read w q h in
            and-of (trials.read-union-holds v'.lat-reach w'.lat-reach (lat-place q) (or-of-r (lat_holds (as_read r).lat p.lat) _ (lat-held (as_read o) p k)))
            ((circles.read-union-holds v'.lng-valid w'.lng-valid).1 p.lng p.gap q.lng-place (lng-held (as_read o) p k)),
      )

  -- if their longitudes share a place, its longitude holds no other place
  pub union-exact : LngMeets r.lng o.lng → (at : Float) (g : Bool) → LngPlace at g → lng_holds (union r o).value.lng at g ≡ true
      → (lng_holds r.lng at g ≡ true) ⊎ (lng_holds o.lng at g ≡ true)
  unfolding zone.union
  union-exact m at g q =
      let v' = valid-read v in
      let w' = valid-read w in
      let m' : LngMeets (as_read r).lng (as_read o).lng =
      (m.0, m.1, m.2, lng-to-read v m.2 m.3, lng-to-read w m.2 m.4) in
      rw (union-is r v o w)
      (λ h. ⊎_elim
      (λ k. inl (lng-from-read v q k))
      (λ k. inr (lng-from-read w q k))
      (circles.read-union-only v'.lng-valid w'.lng-valid m' at g q h))

  -- the intersection holds every common place
  pub intersection-holds : (p : Place) → IsPlace p → holds r p ≡ true → holds o p ≡ true → holds (intersection r o).value p ≡ true
  intersection-holds p q h k = rw (intersection-is r v o w) (read-intersection-holds (valid-read v) (valid-read w) p q (to_read v q h) (to_read w q k))

  -- and its longitude lies within one operand's
  pub intersection-within : LngInside r.lng (intersection r o).value.lng ⊎ LngInside o.lng (intersection r o).value.lng
  intersection-within =
      rw (intersection-is r v o w)
      (⊎_elim
      (λ H. inl (λ at g q h. lng-from-read v q (H at g q h)))
      (λ H. inr (λ at g q h. lng-from-read w q (H at g q h)))
      (read-intersection-within (valid-read v) (valid-read w)))

-- ---- points
-- `from_point_pair` holds both points
pub from-point-pair-holds : (p o : LatLng) → ValidPoint p → ValidPoint o
    → (holds (from_point_pair p o).value (place_of p) ≡ true) × (holds (from_point_pair p o).value (place_of o) ≡ true)
unfolding zone.from_point_pair
from-point-pair-holds p o q t =
    let q' = valid-point-plain q in
    let t' = valid-point-plain t in
    let b = pair-reach (point-south q').is-place (point-south t').is-place in
    let e = trials.pair-holds b b (point-south q').is-place in
    let f = circles.pair-holds (point-lng q') (point-lng t') in
    let v = from-point-pair-valid q t in (
      sym (point-holds v q) ∙ rw (pair_is p q o t) (and-of e.0 f.0),
      sym (point-holds v t) ∙ rw (pair_is p q o t) (and-of e.1 f.1),
    )

-- growth holds the start and the point
pub add_holds : (r : Rect) (p : LatLng) → Valid r → ValidPoint p → Inside (add r p).value r × (holds (add r p).value (place_of p) ≡ true)
unfolding zone.add
add_holds r p v q =
    let v' = valid-read v in
    let q' = valid-point-plain q in
    let s = (point-south q').is-place in
    let e : holds (add r p).value (place_of (plain_point p)) ≡ true =
    rw (add_is r v p q) (and-of (trials.add-takes v'.lat-reach (point-reach s) s) (circles.add-takes v'.lng-valid (point-lng q'))) in (
      λ at c h.
          let k = to_read v c h in
          rw (add_is r v p q)
          (and-of (trials.add-keeps v'.lat-reach (point-reach s) (lat-place c) (lat-held (as_read r) at k))
          (circles.add-keeps v'.lng-valid (point-lng q') at.lng at.gap c.lng-place (lng-held (as_read r) at k))),
      sym (point-holds (add-valid v q) q) ∙ e,
    )

-- ---- growth refused with 3 changes nothing
pub add-refused : (r : Rect) (p : LatLng) → Valid r → is_lat_lng p ≡ false → add r p ≡ record { refusal = number bad_point; value = r }
unfolding add
add-refused r p v h = simp (one_in r v, point-bad p h)

-- ---- the polar closure
-- a latitude interval that holds a pole ends there
at-south : {i : Line} {x : Float} → Range i → LatPlace x → lat_holds i x ≡ true → eq x SOUTH ≡ true → eq i.lo SOUTH ≡ true
unfolding lat_holds latitude
at-south {i} {x} a q h e =
    let n = place-num q in
    let l = place-num a.south.is-place in
    let s = pole-nums.0 in
    let b = and_l (le SOUTH i.lo) (le i.lo NORTH) a.south.in-range in
    let c = and_l (le i.lo x) (le x i.hi) h in
    simp (eq-key binary64) (omega (tests, simp (eq-key binary64) at e, simp (le-key binary64) at b, simp (le-key binary64) at c))

at-north : {i : Line} {x : Float} → Range i → LatPlace x → lat_holds i x ≡ true → eq x NORTH ≡ true → eq i.hi NORTH ≡ true
unfolding lat_holds
at-north {i} {x} a q h e =
    let n = place-num q in
    let m = place-num a.north.is-place in
    let s = pole-nums.1 in
    let b = a.north.in-range in
    let c = and_r (le i.lo x) (le x i.hi) h in
    simp (eq-key binary64) (omega (tests, simp (eq-key binary64) at e, simp (le-key binary64) at b, simp (le-key binary64) at c))

module _ {r : Rect} (v : Valid r) where
  closure-keeps : Inside (zone.polar_closure r) r
  unfolding zone.polar_closure
  closure-keeps p q h = go (not (zone.is_empty r) && (eq r.lat.lo SOUTH || eq r.lat.hi NORTH))
    where
      go : (t : Bool) → holds (cond t (box r.lat circle.FULL) r) p ≡ true
      go true = and-of (lat-held r p h) (full-holds p.lng p.gap q.lng-place)
      go false = h

  closure-poles : (p : Place) → IsPlace p → lat_holds r.lat p.lat ≡ true → at_pole p ≡ true → holds (zone.polar_closure r) p ≡ true
  unfolding zone.polar_closure zone.is_empty
  closure-poles p q h e =
      let c = filled v.lat-reach (lat-place q) h in
      let d : eq r.lat.lo SOUTH || eq r.lat.hi NORTH ≡ true =
      ⊎_elim
      (λ k. or-of-l (eq r.lat.lo SOUTH) (eq r.lat.hi NORTH) (at-south (range v) (lat-place q) h k))
      (λ k. or-of-r (eq r.lat.lo SOUTH) (eq r.lat.hi NORTH) (at-north (range v) (lat-place q) h k))
      (or_at (eq p.lat SOUTH) (eq p.lat NORTH) e) in
      simp (c, d) (and-of h (full-holds p.lng p.gap q.lng-place))

module _ (r : Rect) (v : Valid r) where
  -- it holds the rectangle
  pub polar-closure-holds : Inside (polar_closure r).value r
  polar-closure-holds p q h = rw (closure-is r v) (closure-keeps (valid-read v) p q (to_read v q h))

  -- and every longitude at a pole that the rectangle reaches
  pub polar-closure-poles : (p : Place) → IsPlace p → lat_holds r.lat p.lat ≡ true → at_pole p ≡ true → holds (polar_closure r).value p ≡ true
  polar-closure-poles p q h e = rw (closure-is r v) (closure-poles (valid-read v) p q (lat-read r v p.lat (lat-place q) ∙ h) e)
