-- Document 01's boundary examples marked P: a single table, each line computed by the definitions that the contracts cite, rounding included; those of the
-- common region beside its other examples, the rest here.
-- Longitudes are in radians; numbers are named here and given by their bits. Assumes nothing.
use mathlib.Core.Path.{◌≡◌, refl}
use lib.Ieee as Ieee
use lib.Ieee.{Float, binary64, of_bits, lt, le, eq}
use Rattle.order.specs.Choice.{min, max}
use Rattle.consts.specs.Constants.{PI, NEG-PI, TWO}
use Rattle.consts.specs.Answer.{ZERO}
use Rattle.consts.specs.Reading.{in_reach, plain, read_number}
use Rattle.consts.specs.Refusal.{first_fault, first_refusal}
use Rattle.r1.specs.Line as line
use Rattle.s1.specs.declared.interval.Interval.{Interval}
use Rattle.s1.specs.Circle as circle
use Rattle.s1.specs.Circle.{ends, FULL, EMPTY, positive_distance, seam, is_valid, is_full, is_empty, len, fast_contains, contains_interval}
use Rattle.s1.specs.Reading.{read_one, read_two, on_circle, read_point}
use Rattle.s1.specs.Answers.{circle_answer, union, intersection, add}
use Rattle.s2.specs.declared.rect.Rect.{Rect}
use Rattle.s2.specs.Zone as rect
use Rattle.s2.specs.Zone.{at, box}
use Rattle.s2.specs.Reading as rects
use Rattle.s2.specs.Answers.{rect_answer, vertex, expanded}
use Rattle.region.proofs.Examples.{BothEnds, OverTheSeam, NearlyFull, common-regions}

abbrev ONE : Float
ONE = of_bits binary64 0x3FF0000000000000

abbrev NEG-ONE : Float
NEG-ONE = of_bits binary64 0xBFF0000000000000

abbrev FOUR : Float
FOUR = of_bits binary64 0x4010000000000000

-- the double just above -PI
abbrev ABOVE : Float
ABOVE = of_bits binary64 0xC00921FB54442D17

-- one point
abbrev point : Float → Interval
point p = ends p p

-- {0} by {0}
abbrev origin : Rect
origin = box (line.ends ZERO ZERO) (point ZERO)

-- ---- what some lines of the table say, each with its proof
-- the rectangle {0} by {0} expanded by 2 and 4 is the full one
abbrev OriginExpanded : Type 0
OriginExpanded = expanded origin (at TWO FOUR) ≡ rect_answer rect.FULL

origin-expanded : OriginExpanded
unfolding
    expanded rects.read_with_margins rects.read_one rects.fault_of first_fault rects.read_margins rects.as_read rects.rect_in_reach read_number first_refusal in_reach plain rect.latitude rect.expanded line.expanded line.is_empty line.intersection circle.expanded is_valid is_empty is_full len min max of_bits lt le eq Ieee.add Ieee.sub Ieee.mul
origin-expanded = refl

-- ---- the table
pub record Table : Type 0 where
  -- [-1, 1] and [1, -1] meet at both ends: the crate's intersection is one of them, and their union FULL
  pub two-wide : intersection (ends NEG-ONE ONE) (ends ONE NEG-ONE) ≡ circle_answer (ends NEG-ONE ONE)
  pub two-wide-union : union (ends NEG-ONE ONE) (ends ONE NEG-ONE) ≡ circle_answer FULL
  -- both lengths round to 2 PI
  pub nearly-full : intersection FULL (ends ABOVE PI) ≡ circle_answer FULL
  -- the union of two points depends on the order
  pub zero-seam : union (point ZERO) (point PI) ≡ circle_answer (ends ZERO PI)
  pub seam-zero : union (point PI) (point ZERO) ≡ circle_answer (ends PI ZERO)
  -- -PI is the place PI
  pub add-seam : add EMPTY NEG-PI ≡ circle_answer (point PI)
  -- no point of the circle
  pub read-add-refused : add (ends ZERO ONE) FOUR ≡ record { refusal = 3; value = ends ZERO ONE }
  pub origin-full : OriginExpanded
  pub common-both-ends : BothEnds
  pub common-over-the-seam : OverTheSeam
  pub common-nearly-full : NearlyFull
  -- the vertex number is reduced modulo 4
  pub vertex-255 : (r : Rect) → vertex r 255 ≡ vertex r 3

pub table : Table
unfolding
    intersection union add read_one read_two read_point on_circle first_refusal in_reach plain is_valid is_full is_empty fast_contains contains_interval circle.union circle.intersection len positive_distance seam circle.add vertex rect.vertex le lt eq Ieee.add Ieee.sub of_bits
table =
    record {
      two-wide = refl;
      two-wide-union = refl;
      nearly-full = refl;
      zero-seam = refl;
      seam-zero = refl;
      add-seam = refl;
      read-add-refused = refl;
      origin-full = origin-expanded;
      common-both-ends = common-regions.both_ends;
      common-over-the-seam = common-regions.over-the-seam;
      common-nearly-full = common-regions.nearly-full;
      vertex-255 = λ r. refl;
    }
