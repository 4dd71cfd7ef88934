-- No negative zero is written, whatever the operands are: each number of an answer is one that was read, an end of the range, or has had its zero read.
-- Assumes nothing.
use mathlib.Core.Path.{◌≡◌, refl, sym, ◌∙◌}
use mathlib.Core.Bool.{Bool, true, false, not, ◌&&◌, ◌||◌, cond, false≢true}
use Prim.Native.Nat.{ℕ, ◌%◌}
use lib.Dec.{T, eqb}
use lib.Ieee as Ieee
use lib.Ieee.{Float, binary64, of_bits, fits, le, eq}
use lib.Ieee.Bits.{is_true}
use lib.Ieee.Fits.{add-fits, sub-fits}
use borrow.Author.Tests.{eq-eqb}
use Rattle.consts.specs.Constants.{PI, NEG-PI, TURN, TWO, DBL-EPSILON, HALF}
use Rattle.consts.specs.Refusal.{number, accepted, first_refusal}
use Rattle.consts.specs.Answer.{ZERO}
use Rattle.consts.specs.Reading.{plain, NoMinus}
use Rattle.consts.specs.Remainder.{within_four_pi, remainder}
use Rattle.consts.proofs.Readings.{plain-plain}
use Rattle.consts.proofs.Remainders.{remainder-plain}
use Rattle.r1.specs.declared.interval.Interval.{Interval as Line}
use Rattle.r1.specs.Line as line
use Rattle.r1.specs.Reading.{NoMinusEnds as NoMinusLat}
use Rattle.r1.proofs.Ends.{union-ends, intersection-ends, read-add-ends, pair_ends}
use Rattle.s1.specs.declared.interval.Interval.{Interval as Circle}
use Rattle.s1.specs.Circle as circle
use Rattle.s1.specs.Circle.{seam, positive_distance}
use Rattle.s1.proofs.Ends as circles
use Rattle.s1.proofs.Ends.{cond-is, plain-PI, plain-NEG, normal-no-minus}
use Rattle.s2.specs.declared.latlng.LatLng.{LatLng}
use Rattle.s2.specs.declared.rect.Rect.{Rect}
use Rattle.s2.specs.declared.rect.Answer.{Answer}
use Rattle.s2.specs.declared.rect.PointAnswer.{PointAnswer}
use Rattle.s2.specs.Zone as zone
use Rattle.s2.specs.Zone.{NORTH, SOUTH, LATITUDES, at, EMPTY, is_empty}
use Rattle.s2.specs.Reading.{as_read, plain_point, NoMinusRect, NoMinusPoint, read_one, read_two, read_point, read_margins, read_with_margins}
use Rattle.s2.specs.Answers.{rect_answer, empty_under, rectangle, lat_lng_answer, zeros_under, point, from_lat_lng, from_center_size, from_point_pair, vertex, center, size, expanded, polar_closure, union, intersection, add}
use Rattle.s2.specs.Places.{Valid, ValidPoint}
use Rattle.s2.proofs.Accepted.{add_is}

abbrev NoMinusLng : Circle → Type 0
NoMinusLng u = NoMinus u.lo × NoMinus u.hi

fixed : NoMinus ZERO × NoMinus line.ONE × NoMinus NORTH × NoMinus SOUTH
unfolding plain eq of_bits
fixed = (refl, refl, refl, refl)

-- ---- longitudes
seam-plain : (p : Float) → NoMinus p → NoMinus (seam p)
unfolding seam
seam-plain p h = cond-is NoMinus (eq p NEG-PI) plain-PI h

lng-pair-plain : (p q : Float) → NoMinus p → NoMinus q → NoMinusLng (circle.from_point_pair p q)
unfolding circle.from_point_pair
lng-pair-plain p q h k =
    let s = seam-plain p h in
    let t = seam-plain q k in
    cond-is NoMinusLng (le (positive_distance (seam p) (seam q)) PI) (s, t) (t, s)

-- what the remainder answers
rem_plain : (x : Float) → T (fits binary64 x) → NoMinus (remainder x).value
unfolding remainder
rem_plain x f = go (within_four_pi x) refl
  where
    go : (t : Bool) → within_four_pi x ≡ t → NoMinus (remainder x).value
    go true e = simp e (remainder-plain x (is_true _ f) e)
    go false e = simp e fixed.0

lng-expanded-plain : (i : Circle) (m : Float) → NoMinusLng i → NoMinusLng (circle.expanded i m)
unfolding circle.expanded circle.moved
lng-expanded-plain i m a =
    let x = Ieee.sub binary64 i.lo m in
    let y = Ieee.add binary64 i.hi m in
    let n = normal-no-minus (remainder x).value (remainder y).value (rem_plain x (sub-fits binary64 i.lo m)) (rem_plain y (add-fits binary64 i.hi m)) in
    let moved : NoMinusLng (circle.moved i m) = (cond-is NoMinus (le (circle.«new» (remainder x).value (remainder y).value).lo NEG-PI) plain-PI n.0, n.1) in
    let l = Ieee.add binary64 (circle.len i) (Ieee.mul binary64 TWO m) in
    let e = Ieee.mul binary64 TWO DBL-EPSILON in
    cond-is NoMinusLng (le ZERO m)
    (cond-is NoMinusLng (circle.is_empty i) a (cond-is NoMinusLng (le TURN (Ieee.add binary64 l e)) (plain-NEG, plain-PI) moved))
    (cond-is NoMinusLng (circle.is_full i) a (cond-is NoMinusLng (le (Ieee.sub binary64 l e) ZERO) (plain-PI, plain-NEG) moved))

-- ---- rectangles
empty-plain : NoMinusRect EMPTY
empty-plain = ((fixed.1, fixed.0), (plain-PI, plain-NEG))

lat-expanded-plain : (i : Line) (m : Float) → NoMinusLat i → NoMinusLat (line.expanded i m)
unfolding line.expanded
lat-expanded-plain i m a = cond-is NoMinusLat (line.is_empty i) a (plain-plain _, plain-plain _)

read-expanded-plain : (r : Rect) (m : LatLng) → NoMinusRect r → NoMinusRect (zone.expanded r m)
unfolding zone.expanded
read-expanded-plain r m a =
    cond-is NoMinusRect (line.is_empty (line.expanded r.lat m.lat) || circle.is_empty (circle.expanded r.lng m.lng)) empty-plain (
      intersection-ends NoMinus NoMinus (line.expanded r.lat m.lat) LATITUDES (lat-expanded-plain r.lat m.lat a.0) (fixed.3, fixed.2),
      lng-expanded-plain r.lng m.lng a.1,
    )

spot-plain : (p : LatLng) → NoMinusPoint p → NoMinusRect (zone.from_lat_lng p)
unfolding zone.from_lat_lng
spot-plain p h = ((h.0, h.0), normal-no-minus p.lng p.lng h.1 h.1)

read-add-plain : (r : Rect) (p : LatLng) → NoMinusRect r → NoMinusPoint p → NoMinusRect (zone.add r p)
unfolding zone.add
read-add-plain r p a h =
    let s = seam-plain p.lng h.1 in
    (read-add-ends NoMinus NoMinus p.lat h.0 h.0 r.lat a.0, circles.read-add-ends NoMinus NoMinus p.lng s s r.lng a.1)

-- what is read
pub read_plain : (r : Rect) → NoMinusRect (as_read r)
unfolding as_read
read_plain r = ((plain-plain r.lat.lo, plain-plain r.lat.hi), (plain-plain r.lng.lo, plain-plain r.lng.hi))

point-plain : (p : LatLng) → NoMinusPoint (plain_point p)
point-plain p = (plain-plain p.lat, plain-plain p.lng)

-- ---- the answers
rectangle-plain : (n : ℕ) (r : Rect) → NoMinusRect r → NoMinusRect (rectangle n r).value
rectangle-plain n r h = cond-is (λ (a : Answer). NoMinusRect a.value) (eqb n 0) {x = rect_answer r} {y = empty_under n} h empty-plain

told-plain : (n : ℕ) (p : LatLng) → NoMinusPoint p → NoMinusPoint (point n p).value
told-plain n p h = cond-is (λ (a : PointAnswer). NoMinusPoint a.value) (eqb n 0) {x = lat_lng_answer p} {y = zeros_under n} h (fixed.0, fixed.0)

module _ (r o : Rect) where
  pub union-plain : NoMinusRect (union r o).value
  unfolding union read_two read_one zone.union
  union-plain =
      let a = read_plain r in
      let b = read_plain o in
      rectangle-plain (read_two r o).refusal _
      (union-ends NoMinus NoMinus (as_read r).lat (as_read o).lat a.0 b.0, circles.union-ends NoMinus NoMinus (plain-NEG, plain-PI) (as_read r).lng (as_read o).lng a.1 b.1)

  pub intersection-plain : NoMinusRect (intersection r o).value
  unfolding intersection read_two read_one zone.intersection
  intersection-plain =
      let a = read_plain r in
      let b = read_plain o in
      rectangle-plain (read_two r o).refusal _
      (cond-is NoMinusRect (line.is_empty (line.intersection (as_read r).lat (as_read o).lat) || circle.is_empty (circle.intersection (as_read r).lng (as_read o).lng)) empty-plain (
        intersection-ends NoMinus NoMinus (as_read r).lat (as_read o).lat a.0 b.0,
        circles.intersection-ends NoMinus NoMinus (plain-PI, plain-NEG) (as_read r).lng (as_read o).lng a.1 b.1,
      ))

module _ (r : Rect) where
  pub expanded-plain : (m : LatLng) → NoMinusRect (expanded r m).value
  unfolding expanded read_with_margins read_one
  expanded-plain m = rectangle-plain (read_with_margins r m).refusal _ (read-expanded-plain (as_read r) (read_margins m).value (read_plain r))

  pub polar-closure-plain : NoMinusRect (polar_closure r).value
  unfolding polar_closure read_one zone.polar_closure
  polar-closure-plain =
      let a = read_plain r in
      rectangle-plain (read_one r).refusal _
      (cond-is NoMinusRect (not (is_empty (as_read r)) && (eq (as_read r).lat.lo SOUTH || eq (as_read r).lat.hi NORTH)) (a.0, (plain-NEG, plain-PI)) a)

  pub vertex-plain : (n : ℕ) → NoMinusPoint (vertex r n).value
  unfolding vertex read_one zone.vertex
  vertex-plain n =
      let a = read_plain r in
      told-plain (read_one r).refusal _
      (cond-is NoMinusPoint (eqb (n % 4) 0) (a.0.0, a.1.0)
      (cond-is NoMinusPoint (eqb (n % 4) 1) (a.0.0, a.1.1)
      (cond-is NoMinusPoint (eqb (n % 4) 2) (a.0.1, a.1.1) (a.0.1, a.1.0))))

  pub center-plain : NoMinusPoint (center r).value
  unfolding center zone.center line.center circle.center
  center-plain = told-plain (read_one r).refusal (zone.center (read_one r).value) (plain-plain _, plain-plain _)

  pub size-plain : NoMinusPoint (size r).value
  unfolding size zone.size line.len
  size-plain = told-plain (read_one r).refusal (zone.size (read_one r).value) (plain-plain _, plain-plain _)

  -- growth hands the rectangle back under 3, as it came
  pub growth-plain : (p : LatLng) → (add r p).refusal ≡ number accepted → NoMinusRect (add r p).value
  unfolding add read_one read_point
  growth-plain p = go (eqb (read_one r).refusal 0) (eqb (read_point p).refusal 0) refl
    where
      m : ℕ
      m = (read_one r).refusal

      n : ℕ
      n = (read_point p).refusal

      go : (s t : Bool) → eqb n 0 ≡ t → (cond s (cond t (rect_answer (zone.add (as_read r) (plain_point p))) (record { refusal = n; value = r })) (empty_under m)).refusal ≡ number accepted
          → NoMinusRect (cond s (cond t (rect_answer (zone.add (as_read r) (plain_point p))) (record { refusal = n; value = r })) (empty_under m)).value
      go true true e h = read-add-plain (as_read r) (plain_point p) (read_plain r) (point-plain p)
      go true false e h = absurd (false≢true (sym e ∙ eq-eqb n 0 h))
      go false t e h = empty-plain

  pub add-plain : Valid r → (p : LatLng) → ValidPoint p → NoMinusRect (add r p).value
  add-plain v p q = rw (add_is r v p q) (read-add-plain (as_read r) (plain_point p) (read_plain r) (point-plain p))

module _ (p : LatLng) where
  pub from-latlng-plain : NoMinusRect (from_lat_lng p).value
  unfolding from_lat_lng read_point
  from-latlng-plain = rectangle-plain (read_point p).refusal _ (spot-plain (plain_point p) (point-plain p))

  pub from-point-pair-plain : (o : LatLng) → NoMinusRect (from_point_pair p o).value
  unfolding from_point_pair read_point zone.from_point_pair
  from-point-pair-plain o =
      let a = point-plain p in
      let b = point-plain o in
      rectangle-plain (first_refusal (read_point p).refusal (read_point o).refusal) _
      (pair_ends NoMinus NoMinus (plain p.lat) a.0 a.0 (plain o.lat) b.0 b.0, lng-pair-plain (plain p.lng) (plain o.lng) a.1 b.1)

  pub from-center-size-plain : (s : LatLng) → NoMinusRect (from_center_size p s).value
  unfolding from_center_size read_point zone.from_center_size
  from-center-size-plain s =
      rectangle-plain (first_refusal (read_point p).refusal (read_margins s).refusal) _
      (read-expanded-plain (zone.from_lat_lng (plain_point p)) (at (Ieee.mul binary64 (read_margins s).value.lat HALF) (Ieee.mul binary64 (read_margins s).value.lng HALF)) (spot-plain (plain_point p) (point-plain p)))
