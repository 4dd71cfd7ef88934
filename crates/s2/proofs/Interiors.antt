-- The interior tests, by their parts: what lies strictly between the ends of the latitudes, and what lies strictly inside the longitudes. (The latitude part
-- of `interior_intersects` stays a test: a line's places have no gaps, so that two neighbouring doubles have no place between them.) Assumes nothing.
use mathlib.Core.Path.{◌≡◌, sym, ap, ◌∙◌}
use mathlib.Core.Bool.{true, false}
use lib.Ieee.{Float}
use Rattle.order.proofs.Ranks.{and_l, and_r, and-of}
use Rattle.consts.specs.Answer.{Decides}
use Rattle.consts.specs.Reading.{plain}
use Rattle.consts.proofs.Readings.{plain-num, plain-le, le-plain, plain-lt, lt-plain}
use Rattle.consts.proofs.Decisions.{decides}
use Rattle.r1.specs.Line as line
use Rattle.r1.specs.Line.{interior_contains as lat_strictly_holds}
use Rattle.r1.specs.Places.{StrictlyInside as LatStrictlyInside}
use Rattle.r1.proofs.Readings.{place-num, strict-point}
use Rattle.r1.proofs.Trials as trials
use Rattle.s1.specs.declared.interval.Interval.{Interval as Circle}
use Rattle.s1.specs.Circle.{seam}
use Rattle.s1.specs.Places.{Valid as LngValid, strictly_holds as lng_strictly_holds, StrictlyInside as LngStrictlyInside, StrictlyMeets as LngStrictlyMeets}
use Rattle.s1.proofs.Laws as circles
use Rattle.s1.proofs.Held.{at-num}
use Rattle.s1.proofs.Limits.{OnCircle, seam-place, seam-plain, strict-point as strict-circle-point}
use Rattle.s2.specs.declared.latlng.LatLng.{LatLng}
use Rattle.s2.specs.declared.rect.Rect.{Rect}
use Rattle.s2.specs.Zone as zone
use Rattle.s2.specs.Reading.{as_read, plain_point}
use Rattle.s2.specs.Answers.{interior_contains_lat_lng, interior_contains, interior_intersects}
use Rattle.s2.specs.Places.{Valid, ValidPoint}
use Rattle.s2.proofs.Readings.{two_in, with-point-in, valid-read, valid-point-plain, lat-read, lng-read, lat-strict-read, lng-strict-read}
use Rattle.s2.proofs.Valid.{point-south, point-lng}

-- the latitudes' test, of operands as they are read
lat-meets-read : (r o : Rect) → Valid r → Valid o → line.interior_intersects (as_read r).lat (as_read o).lat ≡ line.interior_intersects r.lat o.lat
unfolding line.interior_intersects as_read
lat-meets-read r o v w =
    let a = place-num v.lat-reach.lo-place in
    let b = place-num v.lat-reach.hi-place in
    let c = place-num w.lat-reach.lo-place in
    let d = place-num w.lat-reach.hi-place in
    let a' = plain-num _ a in
    let b' = plain-num _ b in
    let c' = plain-num _ c in
    let d' = plain-num _ d in
    simp (plain-lt, lt-plain, plain-le, le-plain)

-- a point's own zero makes no difference
seam-strict : {i : Circle} {p : Float} → LngValid i → OnCircle p → lng_strictly_holds i (seam (plain p)) false ≡ lng_strictly_holds i (seam p) false
seam-strict {i} {p} v q = ap (λ (x : Float). lng_strictly_holds i x false) (seam-plain q) ∙ strict-circle-point i v (seam p) false (at-num (seam-place q))

-- `interior_contains_latlng` exactly when both parts hold the point strictly inside
pub interior-contains-latlng-parts : (r : Rect) (p : LatLng) → Valid r → ValidPoint p
    → Decides (interior_contains_lat_lng r p) ((lat_strictly_holds r.lat p.lat ≡ true) × (lng_strictly_holds r.lng (seam p.lng) false ≡ true))
unfolding interior_contains_lat_lng zone.interior_contains_lat_lng
interior-contains-latlng-parts r p v q =
    let v' = valid-read v in
    let q' = valid-point-plain q in
    let a = lat-strict-read r v (plain p.lat) (point-south q').is-place ∙ strict-point r.lat v.lat-reach p.lat (point-south q).is-place in
    let b = circles.strictly-has-place v'.lng-valid (point-lng q') ∙ lng-strict-read r v (seam (plain p.lng)) false (seam-place (point-lng q')) ∙ seam-strict v.lng-valid (point-lng q) in
    decides {b = zone.interior_contains_lat_lng (as_read r) (plain_point p)} (simp (with-point-in r v p q))
    (λ h. (sym a ∙ and_l (lat_strictly_holds (as_read r).lat (plain p.lat)) _ h, sym b ∙ and_r (lat_strictly_holds (as_read r).lat (plain p.lat)) _ h))
    (λ h. and-of (a ∙ h.0) (b ∙ h.1))

module _ (r o : Rect) (v : Valid r) (w : Valid o) where
  -- `interior_contains` exactly when each part of the other lies strictly inside
  pub interior-contains-parts : Decides (interior_contains r o) (LatStrictlyInside r.lat o.lat × LngStrictlyInside r.lng o.lng)
  unfolding interior_contains zone.interior_contains
  interior-contains-parts =
      let v' = valid-read v in
      let w' = valid-read w in
      let la = line.interior_contains_interval (as_read r).lat (as_read o).lat in
      decides {b = zone.interior_contains (as_read r) (as_read o)} (simp (two_in r v o w))
      (λ h. (
        λ x q k. sym (lat-strict-read r v x q) ∙ trials.strict-fwd v'.lat-reach w'.lat-reach q (and_l la _ h) (lat-read o w x q ∙ k),
        λ at g q k. sym (lng-strict-read r v at g q) ∙ (circles.strictly-contains-inside v'.lng-valid w'.lng-valid).0 (and_r la _ h) at g q (lng-read o w at g q ∙ k),
      ))
      (λ H.
      and-of
      (trials.strict-bwd v'.lat-reach w'.lat-reach v'.lat-reach.lo-place
      (λ x q k. lat-strict-read r v x q ∙ H.0 x q (sym (lat-read o w x q) ∙ k)))
      ((circles.strictly-contains-inside v'.lng-valid w'.lng-valid).1
      (λ at g q k. lng-strict-read r v at g q ∙ H.1 at g q (sym (lng-read o w at g q) ∙ k))))

  -- `interior_intersects` exactly when the latitudes' test says so and the longitudes share a place strictly inside the first
  pub interior-intersects-parts : Decides (interior_intersects r o) ((line.interior_intersects r.lat o.lat ≡ true) × LngStrictlyMeets r.lng o.lng)
  unfolding interior_intersects zone.interior_intersects
  interior-intersects-parts =
      let v' = valid-read v in
      let w' = valid-read w in
      let la = line.interior_intersects (as_read r).lat (as_read o).lat in
      decides {b = zone.interior_intersects (as_read r) (as_read o)} (simp (two_in r v o w))
      (λ h.
      let m = (circles.strictly-meets-shared v'.lng-valid w'.lng-valid).0 (and_r la _ h) in (
        sym (lat-meets-read r o v w) ∙ and_l la _ h,
        (m.0, m.1, m.2, sym (lng-strict-read r v m.0 m.1 m.2) ∙ m.3, sym (lng-read o w m.0 m.1 m.2) ∙ m.4),
      ))
      (λ h.
      let m = h.1 in
      and-of (lat-meets-read r o v w ∙ h.0)
      ((circles.strictly-meets-shared v'.lng-valid w'.lng-valid).1
      (m.0, m.1, m.2, lng-strict-read r v m.0 m.1 m.2 ∙ m.3, lng-read o w m.0 m.1 m.2 ∙ m.4)))
