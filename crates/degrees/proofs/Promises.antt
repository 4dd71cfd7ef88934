-- What document 02 (T-01) promises of degrees and radians, in its order and words, each as one theorem with all that it asks in its own signature. Each is a law of
-- the modules beside this one. Assumes nothing.
use Rattle.std.proofs.Common.{◌≡◌, ◌≤◌, true, false, ℤ, pos, neg_ℤ, nat_abs, refl, ap}
use lib.Signed.{lt_z}
use lib.Ieee.{Float, binary64, of_int, mul, div, lt, le, eq}
use Rattle.consts.specs.Constants.{PI, NEG-PI}
use Rattle.consts.specs.Refusal.{number, accepted, bad_box}
use Rattle.consts.specs.Reading.{plain}
use Rattle.s1.specs.Circle as circle
use Rattle.s2.specs.Zone.{NORTH, SOUTH, latitude, is_empty}
use Rattle.s2.specs.Places.{Valid}
use Rattle.s2.specs.Reading.{read_one}
use Rattle.s2.specs.Answers.{rect_answer, empty_under}
use Rattle.bounds.specs.declared.bounds.Bounds.{Bounds}
use Rattle.bounds.specs.Bounds.{HALF, QUARTER, whole_circle, givable}
use Rattle.degrees.specs.Degrees.{from_degrees, degrees, radians, rect_of, to_rect}
use Rattle.degrees.proofs.Angles as angles
use Rattle.degrees.proofs.Rises as rises
use Rattle.degrees.proofs.Boxes as boxes

-- ---- "no negative zero is written": no number of degrees up to 180 has it
pub no-negative-zero : (z : ℤ) → nat_abs z ≤ HALF → plain (radians z) ≡ radians z
no-negative-zero z h = boxes.no-minus-zero z h

-- ---- "The degree double is the whole number over 10^7, rounded once"
pub degree-double : (w : ℤ) → degrees w ≡ div binary64 (of_int binary64 w) (of_int binary64 (pos 10000000))
unfolding degrees
degree-double w = ap (div binary64 (of_int binary64 w)) angles.ten-million

-- "radians come by the crate's `from_degrees`": the product with PI / 180
pub by-from-degrees : (w : ℤ) → radians w ≡ from_degrees (degrees w)
unfolding radians
by-from-degrees w = refl

pub from-degrees : (x : Float) → from_degrees x ≡ mul binary64 x (div binary64 PI (of_int binary64 (pos 180)))
unfolding from_degrees
from-degrees x = ap (mul binary64 x) angles.per-degree

-- ---- "Here 180 and 90 of either sign give exactly PI and PI/2 with that sign"
pub exactly-pi : (radians (pos HALF) ≡ PI) × (radians (neg_ℤ (pos HALF)) ≡ NEG-PI) × (radians (pos QUARTER) ≡ NORTH) × (radians (neg_ℤ (pos QUARTER)) ≡ SOUTH)
exactly-pi = (angles.east, angles.west, angles.north, angles.south)

-- ---- a box that reading can give is a valid rectangle that is not empty, and every operation reads it as it stands
pub box-accepted : (b : Bounds) → givable b ≡ true → to_rect b ≡ rect_answer (rect_of b)
box-accepted b h = boxes.accepted-is b h

pub valid-rectangle : (b : Bounds) → givable b ≡ true → Valid (to_rect b).value × (is_empty (to_rect b).value ≡ false)
valid-rectangle b h = (boxes.is-valid b h, boxes.not-empty b h)

pub read-as-it-stands : (b : Bounds) → givable b ≡ true → read_one (to_rect b).value ≡ record { refusal = number accepted; value = (to_rect b).value }
read-as-it-stands b h = boxes.read_back b h

-- its latitudes are latitudes, south not above north; only the whole circle begins at -PI and is the full circle, and none ends there
pub latitudes-in-order : (b : Bounds) → givable b ≡ true
    → (latitude (to_rect b).value.lat.lo ≡ true) × (latitude (to_rect b).value.lat.hi ≡ true) × (le (to_rect b).value.lat.lo (to_rect b).value.lat.hi ≡ true)
latitudes-in-order b h = boxes.latitudes b h

pub only-whole-circle : (b : Bounds) → givable b ≡ true
    → (eq (to_rect b).value.lng.lo NEG-PI ≡ whole_circle b) × (circle.is_full (to_rect b).value.lng ≡ whole_circle b) × (eq (to_rect b).value.lng.hi NEG-PI ≡ false)
only-whole-circle b h = boxes.seam b h

-- ---- no two whole numbers have one double, up to 180 degrees, and no two boxes one rectangle
pub radians-rise : (v w : ℤ) → nat_abs v ≤ HALF → nat_abs w ≤ HALF → lt_z v w ≡ true → lt (radians v) (radians w) ≡ true
radians-rise v w p q h = rises.rises v w p q h

pub one_number : (v w : ℤ) → nat_abs v ≤ HALF → nat_abs w ≤ HALF → eq (radians v) (radians w) ≡ true → v ≡ w
one_number v w p q h = rises.one-to-one v w p q h

pub one-box : (b d : Bounds) → givable b ≡ true → givable d ≡ true → (to_rect b).value ≡ (to_rect d).value → b ≡ d
one-box b d h k e = boxes.same-box b d h k e

-- ---- 9, "a box that reading cannot give": the standard empty
pub cannot-give : (b : Bounds) → givable b ≡ false → to_rect b ≡ empty_under (number bad_box)
cannot-give b h = boxes.refused b h
