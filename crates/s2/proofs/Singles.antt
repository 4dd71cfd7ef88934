-- `is_point`: exactly one place is held. Assumes nothing.
use mathlib.Core.Path.{◌≡◌, refl, sym, ◌∙◌}
use mathlib.Core.Bool.{Bool, true, false, not, ◌&&◌, cond, false≢true}
use lib.Ieee.{Float, binary64, lt, le, eq}
use Rattle.order.specs.Key.{Num}
use Rattle.order.proofs.Keys.{lt-key, le-key, eq-key}
use Rattle.order.proofs.Ranks.{and_l, and_r, and-of}
use Rattle.order.proofs.Facts.{tests, le_refl, not-lt}
use Rattle.consts.specs.Constants.{PI, NEG-PI}
use Rattle.consts.specs.Answer.{Decides}
use Rattle.consts.proofs.Decisions.{decides}
use Rattle.r1.specs.declared.interval.Interval.{Interval as Line}
use Rattle.r1.specs.Line as line
use Rattle.r1.specs.Places.{holds as lat_holds, Place as LatPlace, InReach as LatReach}
use Rattle.r1.proofs.Readings.{place-num}
use Rattle.s1.specs.declared.interval.Interval.{Interval as Circle}
use Rattle.s1.specs.Circle as circle
use Rattle.s1.specs.Places.{Place as LngPlace, Valid as LngValid, holds as lng_holds}
use Rattle.s2.specs.declared.rect.Rect.{Rect}
use Rattle.s2.specs.Zone as zone
use Rattle.s2.specs.Zone.{is_empty}
use Rattle.s2.specs.Reading.{as_read}
use Rattle.s2.specs.Answers.{is_point}
use Rattle.s2.specs.Places.{place_at, Valid, Single}
use Rattle.s2.proofs.Readings.{lng-nums, pi-nums, lng-place-num, lat-place, one_in, valid-read}
use Rattle.s2.proofs.Circles.{apart, below, lng-hi}
use Rattle.s2.proofs.Valid.{range, empty-both}
use Rattle.s2.proofs.Places.{own, own-place, own_held, holds-filled, held-latitude, to_read, from-read, place-of, lat-held, lng-held}

-- ---- numbers
module _ (x y z : Float) (nx : Num x ≡ true) (ny : Num y ≡ true) (nz : Num z ≡ true) where
  -- what lies between two equal numbers
  squeezed : eq x z ≡ true → le x y ≡ true → le y z ≡ true → (eq y x ≡ true) × (eq y z ≡ true)
  squeezed e h k = (
    simp (eq-key binary64) (omega (tests, simp (eq-key binary64) at e, simp (le-key binary64) at h, simp (le-key binary64) at k)),
    simp (eq-key binary64) (omega (tests, simp (eq-key binary64) at e, simp (le-key binary64) at h, simp (le-key binary64) at k)),
  )

  not-between : eq x z ≡ true → le x y ≡ true → lt y z ≡ true → ⊥
  not-between e h k = omega (tests, simp (eq-key binary64) at e, simp (le-key binary64) at h, simp (lt-key binary64) at k)

  both_equal : eq x y ≡ true → eq z y ≡ true → eq x z ≡ true
  both_equal e d = simp (eq-key binary64) (omega (tests, simp (eq-key binary64) at e, simp (eq-key binary64) at d))

module _ (x y : Float) (nx : Num x ≡ true) (ny : Num y ≡ true) where
  not-less : eq x y ≡ true → lt y x ≡ false
  not-less e = simp (lt-key binary64) (omega (tests, simp (eq-key binary64) at e))

  -- -PI and PI
  ends-apart : eq x NEG-PI ≡ true → eq y PI ≡ true → (lt x PI ≡ true) × (lt x y ≡ true) × (lt y x ≡ false)
  ends-apart e d =
      let a = pi-nums.0 in
      let b = pi-nums.1 in (
        simp (lt-key binary64) (omega (tests, simp (eq-key binary64) at e, simp (lt-key binary64) at apart)),
        simp (lt-key binary64) (omega (tests, simp (eq-key binary64) at e, simp (eq-key binary64) at d, simp (lt-key binary64) at apart)),
        simp (lt-key binary64) (omega (tests, simp (eq-key binary64) at e, simp (eq-key binary64) at d, simp (lt-key binary64) at apart)),
      )

-- ---- longitudes
module _ {i : Circle} (v : LngValid i) where
  lng-only : eq i.lo i.hi ≡ true → (b : Float) (g : Bool) → LngPlace b g → lng_holds i b g ≡ true → (eq b i.hi ≡ true) × (g ≡ false)
  lng-only e b g q h = go g (simp (not-less i.lo i.hi (lng-nums v).0 (lng-nums v).1 e) at h)
    where
      n : Num b ≡ true
      n = lng-place-num q

      go : (g : Bool) → le i.lo b && cond g (lt b i.hi) (le b i.hi) ≡ true → (eq b i.hi ≡ true) × (g ≡ false)
      go true h = absurd (not-between i.lo b i.hi (lng-nums v).0 n (lng-nums v).1 e (and_l (le i.lo b) (lt b i.hi) h) (and_r (le i.lo b) (lt b i.hi) h))
      go false h = ((squeezed i.lo b i.hi (lng-nums v).0 n (lng-nums v).1 e (and_l (le i.lo b) (le b i.hi) h) (and_r (le i.lo b) (le b i.hi) h)).1, refl)

  -- its western end is a place that it holds; of FULL, which starts at -PI, the gap above is
  lng-lo : circle.is_empty i ≡ false → eq i.lo NEG-PI ≡ false → LngPlace i.lo false × (lng_holds i i.lo false ≡ true)
  unfolding circle.is_empty circle.is_valid
  lng-lo h e =
      let n = (lng-nums v).0 in
      let m = (lng-nums v).1 in
      let a : le NEG-PI i.lo ≡ true = search (and_l, and_r, v.is-valid) in
      let b : le i.lo PI ≡ true = search (and_l, and_r, v.is-valid) in
      let r = le_refl i.lo n in
      (record { is-double = v.lo-double; is-place = and-of (below NEG-PI i.lo pi-nums.0 n a e) b }, held (lt i.hi i.lo) refl r)
    where
      held : (t : Bool) → lt i.hi i.lo ≡ t → le i.lo i.lo ≡ true → lng_holds i i.lo false ≡ true
      held true d r = simp (d, h, r)
      held false d r = simp (d, not-lt i.hi i.lo (lng-nums v).1 (lng-nums v).0 d, r)

  lng-gap : eq i.lo NEG-PI ≡ true → LngPlace i.lo true × (lng_holds i i.lo true ≡ true)
  unfolding circle.is_valid
  lng-gap e =
      let n = (lng-nums v).0 in
      let m = (lng-nums v).1 in
      let a : le NEG-PI i.lo ≡ true = search (and_l, and_r, v.is-valid) in
      let c : not (eq i.lo NEG-PI && not (eq i.hi PI)) ≡ true = search (and_l, and_r, v.is-valid) in
      let d = full-hi (eq i.hi PI) (simp e at c) in
      let s = ends-apart i.lo i.hi n m e d in
      (record { is-double = v.lo-double; is-place = and-of a s.0 }, simp (s.1, s.2, le_refl i.lo n))
    where
      full-hi : (t : Bool) → not (not t) ≡ true → t ≡ true
      full-hi true h = refl
      full-hi false h = h

  lng-same : (at : Float) → Num at ≡ true → circle.is_empty i ≡ false
      → ((b : Float) (g : Bool) → LngPlace b g → lng_holds i b g ≡ true → (eq b at ≡ true) × (g ≡ false)) → eq i.lo i.hi ≡ true
  lng-same at n h H = go (eq i.lo NEG-PI) refl
    where
      go : (t : Bool) → eq i.lo NEG-PI ≡ t → eq i.lo i.hi ≡ true
      go true e = let p = lng-gap e in absurd (false≢true (sym (H i.lo true p.0 p.1).1))
      go false e =
          let p = lng-lo h e in
          let q = lng-hi v h in
          both_equal i.lo at i.hi (lng-nums v).0 n (lng-nums v).1 (H i.lo false p.0 p.1).0 (H i.hi false q.0 q.1).0

-- ---- latitudes
module _ {i : Line} (v : LatReach i) where
  lat-only : eq i.lo i.hi ≡ true → (y : Float) → LatPlace y → lat_holds i y ≡ true → eq y i.lo ≡ true
  unfolding lat_holds
  lat-only e y q h =
      (squeezed i.lo y i.hi (place-num v.lo-place) (place-num q) (place-num v.hi-place) e (and_l (le i.lo y) (le y i.hi) h) (and_r (le i.lo y) (le y i.hi) h)).0

  lat-hi : line.is_empty i ≡ false → lat_holds i i.hi ≡ true
  unfolding line.is_empty lat_holds
  lat-hi e =
      let n = place-num v.lo-place in
      let m = place-num v.hi-place in
      and-of (not-lt i.hi i.lo m n e) (le_refl i.hi m)

  lat-filled : eq i.lo i.hi ≡ true → line.is_empty i ≡ false
  unfolding line.is_empty
  lat-filled e = not-less i.lo i.hi (place-num v.lo-place) (place-num v.hi-place) e

-- ---- the rectangle
module _ {r : Rect} (v : Valid r) where
  single-fwd : zone.is_point r ≡ true → Single r
  unfolding zone.is_point is_empty
  single-fwd h =
      let a = and_l (eq r.lat.lo r.lat.hi) (eq r.lng.lo r.lng.hi) h in
      let b = and_r (eq r.lat.lo r.lat.hi) (eq r.lng.lo r.lng.hi) h in
      let e = lat-filled v.lat-reach a in
      record {
        place = own r;
        is-place = own-place v e;
        no_gap = refl;
        held = own_held v e;
        only = λ p q k.
            let d = lng-only v.lng-valid b p.lng p.gap q.lng-place (lng-held r p k) in
            (lat-only v.lat-reach a p.lat (lat-place q) (lat-held r p k), d.0, d.1);
      }

  single-bwd : Single r → zone.is_point r ≡ true
  unfolding zone.is_point is_empty
  single-bwd s =
      let e = holds-filled v s.is-place s.held in
      let p = own-place v e in
      let k = own_held v e in
      let la = v.lat-reach in
      let lo = (s.only (own r) p k).0 in
      let hk = lat-hi la e in
      let hp = place-of la.hi-place (held-latitude (range v) r.lat.hi la.hi-place hk) p.lng-place in
      let hi = (s.only (place_at r.lat.hi r.lng.hi false) hp (and-of hk (lng-held r (own r) k))).0 in
      and-of
      (both_equal r.lat.lo s.place.lat r.lat.hi (place-num la.lo-place) (place-num (lat-place s.is-place)) (place-num la.hi-place) lo hi)
      (lng-same v.lng-valid s.place.lng (lng-place-num s.is-place.lng-place) (sym (empty-both v) ∙ e)
      (λ b g q h.
      let o = s.only (place_at r.lat.lo b g) (place-of la.lo-place p.is-latitude q) (and-of (lat-held r (own r) k) h) in
      (o.1, o.2)))

-- `is_point` exactly when one place is held and no other
pub is-point-places : (r : Rect) → Valid r → Decides (is_point r) (Single r)
unfolding is_point
is-point-places r v =
    let w = valid-read v in
    decides {b = zone.is_point (as_read r)} (simp (one_in r v))
    (λ h.
    let s = single-fwd w h in
    record { place = s.place; is-place = s.is-place; no_gap = s.no_gap; held = from-read v s.is-place s.held; only = λ p q k. s.only p q (to_read v q k) })
    (λ s.
    single-bwd w
    (record { place = s.place; is-place = s.is-place; no_gap = s.no_gap; held = to_read v s.is-place s.held; only = λ p q k. s.only p q (from-read v q k) }))
