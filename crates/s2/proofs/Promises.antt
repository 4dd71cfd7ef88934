-- What document 01 promises of points and rectangles, in its order and words: each promise is one theorem with all that it asks in its own signature, and each is
-- a law of another file of proofs/. `Valid`, `ValidPoint` and `Margins` are operands within the limits. Assumes nothing.
use mathlib.Core.Path.{◌≡◌}
use mathlib.Core.Bool.{Bool, true, false, not, ◌&&◌, ◌||◌}
use mathlib.Core.Logic.{◌⊎◌, ◌↔◌}
use Prim.Native.Nat.{ℕ, ◌%◌}
use lib.Ieee as Ieee
use lib.Ieee.{Float, binary64, le, eq}
use Rattle.order.specs.Choice.{abs as size_of}
use Rattle.order.proofs.Ranks.{and_l, and_r, and-of}
use Rattle.consts.specs.Constants.{PI, NEG-PI, HALF}
use Rattle.consts.specs.Refusal.{number, accepted, bad_point, bad_margin}
use Rattle.consts.specs.Answer.{Decides}
use Rattle.consts.specs.Reading.{plain}
use Rattle.r1.specs.declared.interval.Interval.{Interval as Line}
use Rattle.r1.specs.Line as line
use Rattle.r1.specs.Places.{holds as lat_holds, StrictlyInside as LatStrictlyInside}
use Rattle.r1.specs.Line.{interior_contains as lat_strictly_holds}
use Rattle.s1.specs.Circle as circle
use Rattle.s1.specs.Circle.{seam}
use Rattle.s1.specs.Places.{Place as LngPlace, holds as lng_holds, strictly_holds as lng_strictly_holds, Inside as LngInside, Meets as LngMeets, StrictlyInside as LngStrictlyInside, StrictlyMeets as LngStrictlyMeets}
use Rattle.s2.specs.declared.latlng.LatLng.{LatLng}
use Rattle.s2.specs.declared.place.Place.{Place}
use Rattle.s2.specs.declared.rect.Rect.{Rect}
use Rattle.s2.specs.Zone as zone
use Rattle.s2.specs.Zone.{NORTH, at, box, FULL, EMPTY, valid_latitudes, like_parts, is_valid}
use Rattle.s2.specs.Reading.{rect_in_reach, as_read, NoMinusRect, NoMinusPoint, read_one}
use Rattle.s2.specs.Answers as answers
use Rattle.s2.specs.Answers.{rect_answer, lat_lng_answer, is_lat_lng, from_lat_lng, from_center_size, from_point_pair, is_empty, is_full, is_point, vertex, center, size, expanded, polar_closure, union, intersection, intersects, interior_intersects, contains, interior_contains, contains_lat_lng, interior_contains_lat_lng, add, approx_eq_by}
use Rattle.s2.specs.Places.{IsPlace, place_of, at_pole, holds, Doubles, DoublePoint, Valid, ValidPoint, Margins, Inside, Meets, Nothing, Everything, Single, Edges}
use Rattle.s2.specs.Refusals.{faulty, over_latitude, wrong_circle, unlike_parts, sound, RectReason, margins_in_reach, SaysNo, GivesEmpty, GivesBack, Alone, Both, WithPoint}
use Rattle.s2.proofs.Readings as readings
use Rattle.s2.proofs.Refusals as refusals
use Rattle.s2.proofs.Places as places
use Rattle.s2.proofs.Singles as singles
use Rattle.s2.proofs.Interiors as interiors
use Rattle.s2.proofs.Valid as valids
use Rattle.s2.proofs.Numbers as numbers
use Rattle.s2.proofs.Zeros as zeros
use Rattle.s2.proofs.Differences as differences

-- ---- Numbers and records
-- "Rectangle: valid as in document 000: size of lat.lo and value of lat.hi at most PI/2, circle valid, both parts empty or neither"
pub valid-rectangle : (r : Rect) → Doubles r → rect_in_reach r ≡ true
    → (is_valid r ≡ true) ↔ ((le (size_of r.lat.lo) NORTH ≡ true) × (le r.lat.hi NORTH ≡ true) × (circle.is_valid r.lng ≡ true) × (line.is_empty r.lat ≡ circle.is_empty r.lng))
valid-rectangle r d h = valids.valid-means r d h

-- "The domain of demand 2 is valid operands whose numbers are in reach": of doubles, what is accepted is within the limits, and nothing else is
pub domain : (r : Rect) (p m : LatLng) → Doubles r → DoublePoint p → DoublePoint m
    → ((sound r ≡ true) ↔ Valid r) × ((zone.is_lat_lng p ≡ true) ↔ ValidPoint p) × ((margins_in_reach m ≡ true) ↔ Margins m)
domain r p m d e f = (
  (λ h. readings.valid-of d (and_l (rect_in_reach r) (is_valid r) h) (and_r (rect_in_reach r) (is_valid r) h), λ v. and-of (readings.reach_of v) v.is-valid),
  (λ h. readings.point-of e h, λ q. q.is-valid),
  (λ h. readings.margins-of f h, λ n. and-of n.lat-in-reach n.lng-in-reach),
)

-- "Negative zero coming in is read as zero": what is read has none, and holds the same places
pub negative-zero-is-read : (r : Rect) → Valid r → (read_one r ≡ record { refusal = number accepted; value = as_read r }) × NoMinusRect (as_read r) × ((p : Place) → IsPlace p → holds (as_read r) p ≡ holds r p)
negative-zero-is-read r v = (readings.one_in r v, zeros.read_plain r, readings.holds_read r v)

-- "no negative zero is written; but what a refusal hands back keeps its bits": by no operation that answers numbers, for any operands whatever
pub record NoNegativeZero (r o : Rect) (p q m : LatLng) (k : ℕ) : Type 0 where
  pub by-from-latlng : NoMinusRect (from_lat_lng p).value
  pub by-from-center-size : NoMinusRect (from_center_size p m).value
  pub by-from-point-pair : NoMinusRect (from_point_pair p q).value
  pub by-vertex : NoMinusPoint (vertex r k).value
  pub by-center : NoMinusPoint (center r).value
  pub by_size : NoMinusPoint (size r).value
  pub by-expanded : NoMinusRect (expanded r m).value
  pub by-polar-closure : NoMinusRect (polar_closure r).value
  pub by-union : NoMinusRect (union r o).value
  pub by-intersection : NoMinusRect (intersection r o).value
  pub by-add : (add r p).refusal ≡ number accepted → NoMinusRect (add r p).value

pub no-negative-zero : (r o : Rect) (p q m : LatLng) (k : ℕ) → NoNegativeZero r o p q m k
no-negative-zero r o p q m k =
    record {
      by-from-latlng = zeros.from-latlng-plain p;
      by-from-center-size = zeros.from-center-size-plain p m;
      by-from-point-pair = zeros.from-point-pair-plain p q;
      by-vertex = zeros.vertex-plain r k;
      by-center = zeros.center-plain r;
      by_size = zeros.size-plain r;
      by-expanded = zeros.expanded-plain r m;
      by-polar-closure = zeros.polar-closure-plain r;
      by-union = zeros.union-plain r o;
      by-intersection = zeros.intersection-plain r o;
      by-add = zeros.growth-plain r p;
    }

-- ---- Places
-- "FULL holds all, EMPTY none": the two named constants
pub full-and-empty : Everything FULL × Nothing EMPTY
full-and-empty = places.full-and-empty

-- "`contains` holds exactly when each place of the other is in this one"
pub contains-exactly : (r o : Rect) → Valid r → Valid o → Decides (contains r o) (Inside r o)
contains-exactly = places.contains-places

-- "`intersects` exactly when a place is shared"
pub intersects-exactly : (r o : Rect) → Valid r → Valid o → Decides (intersects r o) (Meets r o)
intersects-exactly = places.intersects-places

-- "`union` holds both operands, and if their longitudes share a place its longitude holds no other place"
pub union-places : (r o : Rect) → Valid r → Valid o
    → Inside (union r o).value r × Inside (union r o).value o
    × (LngMeets r.lng o.lng → (x : Float) (g : Bool) → LngPlace x g → lng_holds (union r o).value.lng x g ≡ true → (lng_holds r.lng x g ≡ true) ⊎ (lng_holds o.lng x g ≡ true))
union-places r o v w = ((places.union-holds r o v w).0, (places.union-holds r o v w).1, places.union-exact r o v w)

-- "`intersection` holds every common place, and its longitude lies within one operand's"
pub intersection-places : (r o : Rect) → Valid r → Valid o
    → ((p : Place) → IsPlace p → holds r p ≡ true → holds o p ≡ true → holds (intersection r o).value p ≡ true)
    × (LngInside r.lng (intersection r o).value.lng ⊎ LngInside o.lng (intersection r o).value.lng)
intersection-places r o v w = (places.intersection-holds r o v w, places.intersection-within r o v w)

-- "-PI is the place PI": a point is contained exactly when its place is held
pub contains-latlng-exactly : (r : Rect) (p : LatLng) → Valid r → ValidPoint p → Decides (contains_lat_lng r p) (holds r (place_of p) ≡ true)
contains-latlng-exactly = places.contains-latlng-place

-- the other tests, over places: none held, all held, one held, the same held
pub is-empty-exactly : (r : Rect) → Valid r → Decides (is_empty r) (Nothing r)
is-empty-exactly = places.is-empty-places

pub is-full-exactly : (r : Rect) → Valid r → Decides (is_full r) (Everything r)
is-full-exactly = places.is-full-places

pub is-point-exactly : (r : Rect) → Valid r → Decides (is_point r) (Single r)
is-point-exactly = singles.is-point-places

pub eq-exactly : (r o : Rect) → Valid r → Valid o → Decides (answers.eq r o) (Inside r o × Inside o r)
eq-exactly = places.equal-places

-- the interior tests, by their parts
pub interior-contains-latlng-exactly : (r : Rect) (p : LatLng) → Valid r → ValidPoint p
    → Decides (interior_contains_lat_lng r p) ((lat_strictly_holds r.lat p.lat ≡ true) × (lng_strictly_holds r.lng (seam p.lng) false ≡ true))
interior-contains-latlng-exactly = interiors.interior-contains-latlng-parts

pub interior-contains-exactly : (r o : Rect) → Valid r → Valid o → Decides (interior_contains r o) (LatStrictlyInside r.lat o.lat × LngStrictlyInside r.lng o.lng)
interior-contains-exactly = interiors.interior-contains-parts

pub interior-intersects-exactly : (r o : Rect) → Valid r → Valid o → Decides (interior_intersects r o) ((line.interior_intersects r.lat o.lat ≡ true) × LngStrictlyMeets r.lng o.lng)
interior-intersects-exactly = interiors.interior-intersects-parts

-- what an answered rectangle holds: the points that it was made from; the start and the point, each edge being one of theirs; the rectangle, and every longitude
-- at a pole that it reaches ("at a pole each longitude is a place by itself")
pub pair-holds : (p q : LatLng) → ValidPoint p → ValidPoint q → (holds (from_point_pair p q).value (place_of p) ≡ true) × (holds (from_point_pair p q).value (place_of q) ≡ true)
pair-holds = places.from-point-pair-holds

pub growth-holds : (r : Rect) (p : LatLng) → Valid r → ValidPoint p → Inside (add r p).value r × (holds (add r p).value (place_of p) ≡ true) × Edges r (add r p).value p
growth-holds r p v q = ((places.add_holds r p v q).0, (places.add_holds r p v q).1, numbers.add-edges r p v q)

pub closure-holds : (r : Rect) → Valid r
    → Inside (polar_closure r).value r × ((p : Place) → IsPlace p → lat_holds r.lat p.lat ≡ true → at_pole p ≡ true → holds (polar_closure r).value p ≡ true)
closure-holds r v = (places.polar-closure-holds r v, places.polar-closure-poles r v)

-- every answered rectangle is valid, so that it can be asked of again
pub answers-valid : (r o : Rect) (p q m : LatLng) → Valid r → Valid o → ValidPoint p → ValidPoint q → Margins m
    → Valid (union r o).value × Valid (intersection r o).value × Valid (expanded r m).value × Valid (add r p).value × Valid (polar_closure r).value
    × Valid (from_lat_lng p).value × Valid (from_point_pair p q).value × Valid (from_center_size p m).value
answers-valid r o p q m v w a b n = (
  valids.union-valid v w,
  valids.intersection-valid v w,
  valids.expanded-valid v n,
  valids.add-valid v a,
  valids.polar-closure-valid v,
  valids.from-latlng-valid a,
  valids.from-point-pair-valid a b,
  valids.from-center-size-valid a n,
)

-- ---- Refusal numbers: "given exactly when", with the result beside each, of any numbers whatever
-- "0: accepted": exactly when every operand is within its limits
pub alone-accepted : (r : Rect) (k : ℕ) → Alone r k (number accepted) (sound r)
alone-accepted = refusals.alone-0

pub both-accepted : (r o : Rect) → Both r o (number accepted) (sound r && sound o)
both-accepted = refusals.both-0

pub with-point-accepted : (r : Rect) (p : LatLng) → WithPoint r p (number accepted) (sound r && zone.is_lat_lng p)
with-point-accepted = refusals.with-point-0

pub growth-accepted : (r : Rect) (p : LatLng) → ((add r p).refusal ≡ number accepted) ↔ (sound r && zone.is_lat_lng p ≡ true)
growth-accepted = refusals.growth-0

pub expanded-accepted : (r : Rect) (m : LatLng) → GivesEmpty (expanded r m) (number accepted) (sound r && margins_in_reach m)
expanded-accepted = refusals.expanded-0

pub approx-accepted : (r o : Rect) (e : LatLng) → SaysNo (approx_eq_by r o e) (number accepted) (sound r && sound o && margins_in_reach e)
approx-accepted = refusals.near-0

pub latlng-accepted : (p : LatLng) → SaysNo (is_lat_lng p) (number accepted) (zone.is_lat_lng p)
latlng-accepted = refusals.latlng-0

pub from-latlng-accepted : (p : LatLng) → GivesEmpty (from_lat_lng p) (number accepted) (zone.is_lat_lng p)
from-latlng-accepted = refusals.from-latlng-0

pub pair-accepted : (p q : LatLng) → GivesEmpty (from_point_pair p q) (number accepted) (zone.is_lat_lng p && zone.is_lat_lng q)
pair-accepted = refusals.pair-accepted

pub center-size-accepted : (p s : LatLng) → GivesEmpty (from_center_size p s) (number accepted) (zone.is_lat_lng p && margins_in_reach s)
center-size-accepted = refusals.center-size-0

-- "1: a rectangle has a number out of reach"; "21 (latitude over its range), 22 (circle interval not valid) and 23 (one part empty, the other not), tested in that
-- order": each exactly when its reason stands, with empty / no / zero; "a refused validity test answers no". "Operands left to right": the right one counts where the
-- left one is sound; points and margins come later
pub alone-refused : (r : Rect) (k : ℕ) {n : ℕ} {f : Rect → Bool} → RectReason n f → Alone r k n (f r)
alone-refused r k w = refusals.alone-own r k w

pub both-refused : (r o : Rect) {n : ℕ} {f : Rect → Bool} → RectReason n f → Both r o n (f r || (sound r && f o))
both-refused r o w = refusals.both_own r o w

pub with-point-refused : (r : Rect) (p : LatLng) {n : ℕ} {f : Rect → Bool} → RectReason n f → WithPoint r p n (f r)
with-point-refused r p w = refusals.with-point-own r p w

pub growth-refused : (r : Rect) (p : LatLng) {n : ℕ} {f : Rect → Bool} → RectReason n f → GivesEmpty (add r p) n (f r)
growth-refused r p w = refusals.growth-own r p w

pub expanded-refused : (r : Rect) (m : LatLng) {n : ℕ} {f : Rect → Bool} → RectReason n f → GivesEmpty (expanded r m) n (f r)
expanded-refused r m w = refusals.expanded-own r m w

pub approx-refused : (r o : Rect) (e : LatLng) {n : ℕ} {f : Rect → Bool} → RectReason n f → SaysNo (approx_eq_by r o e) n (f r || (sound r && f o))
approx-refused r o e w = refusals.near-own r o e w

-- "21, 22, 23 take 2's place": one of their reasons stands exactly where the numbers are in reach and the rectangle is not valid
pub three-faults : (r : Rect) → faulty r ≡ over_latitude r || wrong_circle r || unlike_parts r
three-faults r = refusals.three-faults r

-- "latitude over its range": the size of lat.lo, or the value of lat.hi, is not at most PI/2
pub latitude-over : (r : Rect) → Doubles r
    → (over_latitude r ≡ true) ↔ ((rect_in_reach r ≡ true) × ((le (size_of r.lat.lo) NORTH ≡ false) ⊎ (le r.lat.hi NORTH ≡ false)))
latitude-over r d = valids.over-means r d

-- "one part empty, the other not"
pub half-empty : (r : Rect) → (like_parts r ≡ false) ↔ (line.is_empty r.lat ≡ not (circle.is_empty r.lng))
half-empty r = valids.unlike-means r

-- "3: a point is no valid latlng": "growth: the rectangle handed in; otherwise no / empty / zero"
pub with-point-bad-point : (r : Rect) (p : LatLng) → WithPoint r p (number bad_point) (sound r && not (zone.is_lat_lng p))
with-point-bad-point = refusals.with-point-3

pub growth-bad-point : (r : Rect) (p : LatLng) → GivesBack r (add r p) (number bad_point) (sound r && not (zone.is_lat_lng p))
growth-bad-point = refusals.growth-3

pub latlng-bad-point : (p : LatLng) → SaysNo (is_lat_lng p) (number bad_point) (not (zone.is_lat_lng p))
latlng-bad-point = refusals.latlng-3

pub from-latlng-bad-point : (p : LatLng) → GivesEmpty (from_lat_lng p) (number bad_point) (not (zone.is_lat_lng p))
from-latlng-bad-point = refusals.from-latlng-3

pub pair-bad-point : (p q : LatLng) → GivesEmpty (from_point_pair p q) (number bad_point) (not (zone.is_lat_lng p && zone.is_lat_lng q))
pair-bad-point = refusals.pair-refused

pub center-size-bad-point : (p s : LatLng) → GivesEmpty (from_center_size p s) (number bad_point) (not (zone.is_lat_lng p))
center-size-bad-point = refusals.center-size-3

-- "4: a margin, size or error is out of reach": empty / no. It comes after rectangles and points
pub expanded-bad-margin : (r : Rect) (m : LatLng) → GivesEmpty (expanded r m) (number bad_margin) (sound r && not (margins_in_reach m))
expanded-bad-margin = refusals.expanded-4

pub approx-bad-margin : (r o : Rect) (e : LatLng) → SaysNo (approx_eq_by r o e) (number bad_margin) (sound r && sound o && not (margins_in_reach e))
approx-bad-margin = refusals.near-4

pub center-size-bad-margin : (p s : LatLng) → GivesEmpty (from_center_size p s) (number bad_margin) (zone.is_lat_lng p && not (margins_in_reach s))
center-size-bad-margin = refusals.center-size-4

-- ---- Modules
-- "The vertex number is reduced modulo 4, in the order lower left, lower right, upper right, upper left"
pub vertex-order : (r : Rect) → Valid r
    → (vertex r 0 ≡ lat_lng_answer (at (as_read r).lat.lo (as_read r).lng.lo)) × (vertex r 1 ≡ lat_lng_answer (at (as_read r).lat.lo (as_read r).lng.hi))
    × (vertex r 2 ≡ lat_lng_answer (at (as_read r).lat.hi (as_read r).lng.hi)) × (vertex r 3 ≡ lat_lng_answer (at (as_read r).lat.hi (as_read r).lng.lo))
    × ((n : ℕ) → vertex r n ≡ vertex r (n % 4))
vertex-order r v = (numbers.vertex-lower-left r v, numbers.vertex-lower-right r v, numbers.vertex-upper-right r v, numbers.vertex-upper-left r v, numbers.vertex-modulo r)

-- "`expanded` clamps latitude to the poles"
pub expanded-clamps : (r : Rect) (m : LatLng) → Valid r → Margins m → valid_latitudes (expanded r m).value.lat ≡ true
expanded-clamps r m v n = valids.latitudes-valid (valids.expanded-valid v n)

-- ---- What the trade gets wrong here: the three differences from the crate, each with why the crate's own record would not be valid
-- "Copying `From<LatLng>` at longitude -PI: the crate stores [-PI, -PI], which its own rules call invalid. The port stores [PI, PI]"
pub latlng-at-the-seam : (p : LatLng) → ValidPoint p → eq p.lng NEG-PI ≡ true
    → (from_lat_lng p ≡ rect_answer (box (line.ends (plain p.lat) (plain p.lat)) (circle.ends PI PI))) × (circle.is_valid (circle.ends NEG-PI NEG-PI) ≡ false)
latlng-at-the-seam p q e = (differences.seam-stored p q e, differences.crate-seam)

-- "`from_center_size` starts there too": it is that rectangle, widened by half the size
pub center-size-at-the-seam : (p s : LatLng) → ValidPoint p → Margins s
    → from_center_size p s ≡ rect_answer (zone.expanded (from_lat_lng p).value (at (Ieee.mul binary64 (plain s.lat) HALF) (Ieee.mul binary64 (plain s.lng) HALF)))
center-size-at-the-seam = differences.center-size-starts

-- "Letting `polar_closure` of an empty rectangle .. turn its longitude FULL, as the crate does: that record is not valid. The port hands the rectangle back as it came"
pub closure-of-empty : (r : Rect) → Valid r → zone.is_empty (as_read r) ≡ true → (polar_closure r ≡ rect_answer (as_read r)) × ((i : Line) → line.is_empty i ≡ true → is_valid (box i circle.FULL) ≡ false)
closure-of-empty r v e = (differences.empty-closure r v e, differences.crate-closure)
