-- Where the rectangle answers otherwise than the crate: document 01's three differences, each with why the crate's own record would not be valid, and
-- growth's refusals. Assumes nothing.
use mathlib.Core.Path.{◌≡◌, refl, ap, ◌∙◌}
use mathlib.Core.Bool.{Bool, true, false, ◌&&◌, cond}
use borrow.Author.Tests.{ne_eqb}
use lib.Ieee as Ieee
use lib.Ieee.{binary64, of_bits, lt, le, eq}
use Rattle.consts.specs.Constants.{PI, NEG-PI, HALF}
use Rattle.consts.specs.Reading.{plain}
use Rattle.r1.specs.declared.interval.Interval.{Interval as Line}
use Rattle.r1.specs.Line as line
use Rattle.s1.specs.Circle as circle
use Rattle.s1.specs.Circle.{seam}
use Rattle.s1.proofs.Limits.{point-num}
use Rattle.consts.proofs.Readings.{plain-eq}
use Rattle.s2.specs.declared.latlng.LatLng.{LatLng}
use Rattle.s2.specs.declared.rect.Rect.{Rect}
use Rattle.s2.specs.Zone as zone
use Rattle.s2.specs.Zone.{at, box, valid_latitudes, is_valid, is_empty, expanded}
use Rattle.s2.specs.Reading.{as_read, read_one}
use Rattle.s2.specs.Answers.{rect_answer, empty_under, from_lat_lng, from_center_size, polar_closure, add}
use Rattle.s2.specs.Places.{Valid, ValidPoint, Margins}
use Rattle.s2.proofs.Readings.{pi-nums, valid-point-plain}
use Rattle.s2.proofs.Accepted.{closure-is, from-latlng-is, center-size-is}
use Rattle.s2.proofs.Circles.{normal-seam}
use Rattle.s2.proofs.Valid.{point-lng}

-- ---- a latlng at longitude -PI is stored [PI, PI]
pub seam-stored : (p : LatLng) → ValidPoint p → eq p.lng NEG-PI ≡ true → from_lat_lng p ≡ rect_answer (box (line.ends (plain p.lat) (plain p.lat)) (circle.ends PI PI))
unfolding zone.from_lat_lng
seam-stored p q e =
    let s : seam (plain p.lng) ≡ PI = unfold seam in ap (λ (t : Bool). cond t PI (plain p.lng)) (plain-eq p.lng NEG-PI (point-num (point-lng q)) pi-nums.0 ∙ e) in
    from-latlng-is p q ∙ rw (normal-seam (point-lng (valid-point-plain q)), s)

-- the crate's [-PI, -PI] is not valid
pub crate-seam : circle.is_valid (circle.ends NEG-PI NEG-PI) ≡ false
unfolding circle.is_valid of_bits le lt eq
crate-seam = refl

-- ---- `from_center_size` starts there too: it is that rectangle, widened by half the size
pub center-size-starts : (p s : LatLng) → ValidPoint p → Margins s
    → from_center_size p s ≡ rect_answer (expanded (from_lat_lng p).value (at (Ieee.mul binary64 (plain s.lat) HALF) (Ieee.mul binary64 (plain s.lng) HALF)))
unfolding zone.from_center_size
center-size-starts p s q n = simp (center-size-is p q s n, from-latlng-is p q)

-- ---- the polar closure of an empty rectangle is that rectangle
pub empty-closure : (r : Rect) → Valid r → is_empty (as_read r) ≡ true → polar_closure r ≡ rect_answer (as_read r)
unfolding zone.polar_closure
empty-closure r v e = closure-is r v ∙ simp e

-- the crate's, with every longitude, is not valid
pub crate-closure : (i : Line) → line.is_empty i ≡ true → is_valid (box i circle.FULL) ≡ false
unfolding is_valid circle.is_empty of_bits eq
crate-closure i e = simp e (none (valid_latitudes i && circle.is_valid circle.FULL))
  where
    none : (t : Bool) → t && false ≡ false
    none true = refl
    none false = refl

-- ---- growth of a rectangle that is itself refused: the standard empty, whatever the point
pub add-start-refused : (r : Rect) (p : LatLng) → ((read_one r).refusal ≡ 0 → ⊥) → add r p ≡ empty_under (read_one r).refusal
unfolding add
add-start-refused r p h = simp (ne_eqb (read_one r).refusal 0 h)
