-- The rectangle of a box that reading can give: valid, not empty, with the box's order, and -PI only where the box is the whole circle, so that s2 reads it
-- as it stands. All from the order of the four numbers, which their radians keep (Rises), and from the exact ends (Angles). Assumes nothing.
use Rattle.std.proofs.Common.{◌≡◌, ◌≤◌, Bool, true, false, cond, not, ◌&&◌, ◌||◌, ℤ, pos, negsuc, neg_ℤ, nat_abs, sym, refl, ap, ◌∙◌, subst, le_trans, lit≤, lt-ltb, leb-false}
use mathlib.Core.Bool.{and-false, false≢true}
use lib.Signed.{le_z, lt_z}
use lib.Ieee.{Float, binary64, fits, is_nan, lt, le, eq}
use Rattle.order.specs.Key.{Num}
use Rattle.order.proofs.Facts.{tests, antisym, eq_refl, lt-not-eq}
use Rattle.order.proofs.Keys.{lt-key, le-key, eq-key}
use Rattle.order.proofs.Ranks.{and_l, and_r, and-of}
use Rattle.consts.specs.Answer.{ZERO}
use Rattle.consts.specs.Constants.{PI, NEG-PI}
use Rattle.consts.specs.Reading.{plain}
use Rattle.consts.specs.Refusal.{number, accepted, bad_box}
use Rattle.bounds.specs.declared.bounds.Bounds.{Bounds}
use Rattle.bounds.specs.Bounds.{HALF, QUARTER, within, in_limits, is_westmost, is_eastmost, whole_circle, settled, givable}
use Rattle.bounds.proofs.Boxes.{within-size}
use Rattle.r1.specs.Line as line
use Rattle.s1.specs.Circle as circle
use Rattle.s1.specs.Places.{Valid as LngValid}
use Rattle.s2.specs.declared.rect.Rect.{Rect}
use Rattle.s2.specs.Zone.{latitude, is_empty}
use Rattle.s2.specs.Answers.{rect_answer, empty_under}
use Rattle.s2.specs.Places.{Valid}
use Rattle.s2.specs.Reading.{read_one, as_read}
use Rattle.s2.proofs.Latitudes.{south-of, north-of}
use Rattle.s2.proofs.Readings.{one_in}
use Rattle.s2.proofs.Valid.{made}
use Rattle.degrees.specs.Degrees.{radians, rect_of, to_rect}
use Rattle.degrees.proofs.Angles as angles
use Rattle.degrees.proofs.Rises.{radians-num, rises, keeps, one-to-one}

-- ---- a number within a limit
pub not-above : (a b : ℤ) → le_z a b ≡ false → lt_z b a ≡ true
not-above (pos n) (pos m) h = lt-ltb m n (leb-false n m h)
not-above (pos n) (negsuc m) h = refl
not-above (negsuc n) (pos m) h = absurd (false≢true (sym h))
not-above (negsuc n) (negsuc m) h = lt-ltb n m (leb-false m n h)

pub longitude-size : (z : ℤ) → within HALF z ≡ true → nat_abs z ≤ HALF
longitude-size z h = within-size HALF z h

pub latitude-size : (z : ℤ) → within QUARTER z ≡ true → nat_abs z ≤ HALF
latitude-size z h = le_trans (within-size QUARTER z h) (lit≤ tt)

-- ---- tests on doubles
module _ (x y : Float) (nx : Num x ≡ true) (ny : Num y ≡ true) where
  le-not-above : le x y ≡ true → lt y x ≡ false
  le-not-above h = simp (lt-key binary64) (omega (tests, simp (le-key binary64) at h))

  below_not_eq : lt x y ≡ true → eq x y ≡ false
  below_not_eq h = simp (eq-key binary64) (omega (tests, simp (lt-key binary64) at h))

west-num : Num NEG-PI ≡ true
west-num = subst (λ (x : Float). Num x ≡ true) angles.west (radians-num (neg_ℤ (pos HALF)) (lit≤ tt))

east-num : Num PI ≡ true
east-num = subst (λ (x : Float). Num x ≡ true) angles.east (radians-num (pos HALF) (lit≤ tt))

-- ---- the radians of a latitude
module _ (z : ℤ) (h : within QUARTER z ≡ true) where
  from-pole : latitude (radians z) ≡ true
  unfolding latitude within
  from-pole =
      let n = latitude-size z h in
      let a = keeps (neg_ℤ (pos QUARTER)) z (lit≤ tt) n (and_l _ _ h) in
      let b = keeps z (pos QUARTER) n (lit≤ tt) (and_r (le_z (neg_ℤ (pos QUARTER)) z) _ h) in
      and-of (subst (λ (x : Float). le x (radians z) ≡ true) angles.south a) (subst (λ (x : Float). le (radians z) x ≡ true) angles.north b)

  latitude-fits : fits binary64 (radians z) ≡ true
  latitude-fits = and_l (fits binary64 (radians z)) (not (is_nan (radians z))) (radians-num z (latitude-size z h))

-- and of a longitude
module _ (z : ℤ) (h : within HALF z ≡ true) where
  longitude-num : Num (radians z) ≡ true
  longitude-num = radians-num z (longitude-size z h)

  from-seam : (le NEG-PI (radians z) ≡ true) × (le (radians z) PI ≡ true)
  unfolding within
  from-seam =
      let n = longitude-size z h in
      let a = keeps (neg_ℤ (pos HALF)) z (lit≤ tt) n (and_l _ _ h) in
      let b = keeps z (pos HALF) n (lit≤ tt) (and_r (le_z (neg_ℤ (pos HALF)) z) _ h) in
      (subst (λ (x : Float). le x (radians z) ≡ true) angles.west a, subst (λ (x : Float). le (radians z) x ≡ true) angles.east b)

  longitude-fits : fits binary64 (radians z) ≡ true
  longitude-fits = and_l (fits binary64 (radians z)) (not (is_nan (radians z))) longitude-num

  -- it is -PI exactly where the number is -180
  at-west : eq (radians z) NEG-PI ≡ is_westmost z
  unfolding is_westmost
  at-west = go (le_z z (neg_ℤ (pos HALF))) refl
    where
      go : (t : Bool) → le_z z (neg_ℤ (pos HALF)) ≡ t → eq (radians z) NEG-PI ≡ le_z z (neg_ℤ (pos HALF))
      go true e =
          let a = keeps z (neg_ℤ (pos HALF)) (longitude-size z h) (lit≤ tt) e in
          antisym (radians z) NEG-PI longitude-num west-num (subst (λ (x : Float). le (radians z) x ≡ true) angles.west a) from-seam.0 ∙ sym e
      go false e =
          let a = rises (neg_ℤ (pos HALF)) z (lit≤ tt) (longitude-size z h) (not-above z (neg_ℤ (pos HALF)) e) in
          lt-not-eq NEG-PI (radians z) west-num longitude-num (subst (λ (x : Float). lt x (radians z) ≡ true) angles.west a) ∙ sym e

  -- and PI exactly where it is 180
  at-east : eq (radians z) PI ≡ is_eastmost z
  unfolding is_eastmost
  at-east = go (le_z (pos HALF) z) refl
    where
      go : (t : Bool) → le_z (pos HALF) z ≡ t → eq (radians z) PI ≡ le_z (pos HALF) z
      go true e =
          let a = keeps (pos HALF) z (lit≤ tt) (longitude-size z h) e in
          antisym (radians z) PI longitude-num east-num from-seam.1 (subst (λ (x : Float). le x (radians z) ≡ true) angles.east a) ∙ sym e
      go false e =
          let a = rises z (pos HALF) (longitude-size z h) (lit≤ tt) (not-above (pos HALF) z e) in
          below_not_eq (radians z) PI longitude-num east-num (subst (λ (x : Float). lt (radians z) x ≡ true) angles.east a) ∙ sym e

-- ---- no negative zero
pub no-minus-zero : (z : ℤ) → nat_abs z ≤ HALF → plain (radians z) ≡ radians z
unfolding plain
no-minus-zero z h = go (eq (radians z) ZERO) refl
  where
    go : (t : Bool) → eq (radians z) ZERO ≡ t → cond t ZERO (radians z) ≡ radians z
    go true e =
        let o = one-to-one z (pos 0) h (lit≤ tt) (subst (λ (x : Float). eq (radians z) x ≡ true) (sym angles.none) e) in
        sym (ap radians o ∙ angles.none)
    go false e = refl

-- ---- a box that reading can give
east-not-west : (z : ℤ) → is_eastmost z ≡ true → is_westmost z ≡ false
unfolding is_eastmost is_westmost
east-not-west (pos n) h = refl
east-not-west (negsuc n) h = absurd (false≢true h)

seams : (s t u : Bool) → (t ≡ true → u ≡ false) → (s && t) || (not s && not u) ≡ true → (u ≡ false) × (s && not t ≡ false)
seams true true u k h = (k refl, refl)
seams true false u k h = absurd (false≢true h)
seams false t true k h = absurd (false≢true h)
seams false t false k h = (refl, refl)

both-or-none : (s t : Bool) → s && not t ≡ false → s ≡ s && t
both-or-none true true h = refl
both-or-none true false h = absurd (false≢true (sym h))
both-or-none false t h = refl

-- its numbers
pub record Givable (b : Bounds) : Type 0 where
  pub west : within HALF b.west ≡ true
  pub south : within QUARTER b.south ≡ true
  pub east : within HALF b.east ≡ true
  pub north : within QUARTER b.north ≡ true
  pub in_order : le_z b.south b.north ≡ true
  -- the east is not -180, and the west is -180 only where the east is 180
  pub no-seam : is_westmost b.east ≡ false
  pub only-whole : is_westmost b.west && not (is_eastmost b.east) ≡ false

pub parts : (b : Bounds) → givable b ≡ true → Givable b
unfolding givable in_limits settled whole_circle
parts b h =
    let e = seams (is_westmost b.west) (is_eastmost b.east) (is_westmost b.east) (east-not-west b.east) (and_r (in_limits b) (settled b) h) in
    record {
      west = search (and_l, and_r);
      south = search (and_l, and_r);
      east = search (and_l, and_r);
      north = search (and_l, and_r);
      in_order = search (and_l, and_r);
      no-seam = e.0;
      only-whole = e.1;
    }

module _ (b : Bounds) (g : Givable b) where
  -- its longitudes: -PI only at the western end of the whole circle
  lng-is-valid : circle.is_valid (rect_of b).lng ≡ true
  unfolding circle.is_valid rect_of
  lng-is-valid =
      let w = from-seam b.west g.west in
      let e = from-seam b.east g.east in
      simp (w.0, w.1, e.0, e.1, at-west b.west g.west, at-east b.east g.east, at-west b.east g.east, g.no-seam, g.only-whole)

  lng-valid : LngValid (rect_of b).lng
  unfolding rect_of
  lng-valid = record { lo-double = longitude-fits b.west g.west; hi-double = longitude-fits b.east g.east; is-valid = lng-is-valid }

  lng-not-empty : circle.is_empty (rect_of b).lng ≡ false
  unfolding circle.is_empty rect_of
  lng-not-empty = simp (at-west b.east g.east, g.no-seam, and-false)

  lat-not-empty : line.is_empty (rect_of b).lat ≡ false
  unfolding line.is_empty rect_of
  lat-not-empty =
      let s = latitude-size b.south g.south in
      let n = latitude-size b.north g.north in
      le-not-above (radians b.south) (radians b.north) (radians-num b.south s) (radians-num b.north n) (keeps b.south b.north s n g.in_order)

  valid-made : Valid (rect_of b)
  unfolding rect_of
  valid-made =
      let s = south-of (latitude-fits b.south g.south) (from-pole b.south g.south) in
      let n = south-of (latitude-fits b.north g.north) (from-pole b.north g.north) in
      made (record { south = s; north = north-of n }) lng-valid (lat-not-empty ∙ sym lng-not-empty)

  own-reading : as_read (rect_of b) ≡ rect_of b
  unfolding as_read rect_of
  own-reading =
      simp (
        no-minus-zero b.south (latitude-size b.south g.south),
        no-minus-zero b.north (latitude-size b.north g.north),
        no-minus-zero b.west (longitude-size b.west g.west),
        no-minus-zero b.east (longitude-size b.east g.east),
      )

-- ---- the answer
module _ (b : Bounds) (h : givable b ≡ true) where
  pub accepted-is : to_rect b ≡ rect_answer (rect_of b)
  unfolding to_rect
  accepted-is = simp h

  -- the rectangle is valid, and has a place
  pub is-valid : Valid (to_rect b).value
  is-valid = rw accepted-is (valid-made b (parts b h))

  pub not-empty : is_empty (to_rect b).value ≡ false
  unfolding is_empty
  not-empty = rw accepted-is (lat-not-empty b (parts b h))

  -- latitudes from pole to pole, in order
  pub latitudes : (latitude (to_rect b).value.lat.lo ≡ true) × (latitude (to_rect b).value.lat.hi ≡ true) × (le (to_rect b).value.lat.lo (to_rect b).value.lat.hi ≡ true)
  unfolding rect_of
  latitudes =
      let g = parts b h in
      rw accepted-is (
        from-pole b.south g.south,
        from-pole b.north g.north,
        keeps b.south b.north (latitude-size b.south g.south) (latitude-size b.north g.north) g.in_order,
      )

  -- the western end is -PI exactly where the box is the whole circle, which is FULL; the eastern end never is
  pub seam : (eq (to_rect b).value.lng.lo NEG-PI ≡ whole_circle b) × (circle.is_full (to_rect b).value.lng ≡ whole_circle b) × (eq (to_rect b).value.lng.hi NEG-PI ≡ false)
  unfolding rect_of circle.is_full whole_circle
  seam =
      let g = parts b h in
      rw accepted-is (
        at-west b.west g.west ∙ both-or-none (is_westmost b.west) (is_eastmost b.east) g.only-whole,
        simp (at-west b.west g.west, at-east b.east g.east),
        at-west b.east g.east ∙ g.no-seam,
      )

  -- s2 reads it as it stands: accepted, every number its own
  pub read_back : read_one (to_rect b).value ≡ record { refusal = number accepted; value = (to_rect b).value }
  read_back = rw accepted-is (one_in (rect_of b) (valid-made b (parts b h)) ∙ ap (λ (r : Rect). record { refusal = number accepted; value = r }) (own-reading b (parts b h)))

-- a box that reading cannot give is 9 with the standard empty
pub refused : (b : Bounds) → givable b ≡ false → to_rect b ≡ empty_under (number bad_box)
unfolding to_rect
refused b h = simp h

-- ---- no two boxes become one rectangle
same_number : (v w : ℤ) → nat_abs v ≤ HALF → nat_abs w ≤ HALF → radians v ≡ radians w → v ≡ w
same_number v w p q e = one-to-one v w p q (subst (λ (x : Float). eq (radians v) x ≡ true) e (eq_refl (radians v) (radians-num v p)))

pub same-box : (b d : Bounds) → givable b ≡ true → givable d ≡ true → (to_rect b).value ≡ (to_rect d).value → b ≡ d
unfolding rect_of
same-box b d h k e =
    let g = parts b h in
    let o = parts d k in
    let r : rect_of b ≡ rect_of d = ap (λ a. a.value) (sym (accepted-is b h)) ∙ e ∙ ap (λ a. a.value) (accepted-is d k) in
    let w = same_number b.west d.west (longitude-size b.west g.west) (longitude-size d.west o.west) (λ i. (r i).lng.lo) in
    let s = same_number b.south d.south (latitude-size b.south g.south) (latitude-size d.south o.south) (λ i. (r i).lat.lo) in
    let t = same_number b.east d.east (longitude-size b.east g.east) (longitude-size d.east o.east) (λ i. (r i).lng.hi) in
    let n = same_number b.north d.north (latitude-size b.north g.north) (latitude-size d.north o.north) (λ i. (r i).lat.hi) in
    λ i. record { west = w i; south = s i; east = t i; north = n i }
