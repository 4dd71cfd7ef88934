-- Worked examples, computed by the definitions: what growth by a list and the running box by value answer, refusals included. The start of most is the
-- rectangle of the latitudes and the longitudes [0, 1] with its zeros written -0, so that kept bits show. Assumes nothing.
use mathlib.Core.Path.{◌≡◌, refl}
use mathlib.Core.Bool.{true, false}
use mathlib.Core.List.{[], ◌∷◌}
use Prim.Native.Nat.{ℕ}
use lib.Ieee as Ieee
use lib.Ieee.{Float, binary64, of_bits, nan, lt, le, eq}
use Rattle.consts.specs.Constants.{PI, NEG-PI}
use Rattle.consts.specs.Refusal.{first_fault, first_refusal}
use Rattle.consts.specs.Reading.{in_reach, plain}
use Rattle.r1.specs.Line as line
use Rattle.s1.specs.Circle as circle
use Rattle.s1.specs.Circle.{fast_contains, seam, positive_distance}
use Rattle.s1.specs.Reading.{on_circle}
use Rattle.s2.specs.declared.rect.Rect.{Rect}
use Rattle.s2.specs.Zone as zone
use Rattle.s2.specs.Zone.{box, EMPTY, latitude, is_lat_lng}
use Rattle.s2.specs.Reading.{rect_in_reach, as_read, fault_of, read_one, read_point}
use Rattle.s2.specs.Answers.{rect_answer, empty_under, add}
use Rattle.s2.specs.Places.{place_at, holds}
use Rattle.r1.specs.Places.{holds as lat_holds}
use Rattle.entries.specs.Lists.{whole_length}
use Rattle.lists.specs.Points.{points_of}
use Rattle.entries.specs.First.{first_number}
use Rattle.growth.specs.declared.track.RunningAnswer.{RunningAnswer}
use Rattle.growth.specs.RunningBox.{after, running, accepted_of}
use Rattle.growth.specs.Growth.{under, start_of, grown_by, grow, ran_by, ran}

-- numbers by their bits: 0, -0, 0.5, -0.5, 1, 2, -2, 4
abbrev pub zero : Float
zero = of_bits binary64 0

abbrev pub minus : Float
minus = of_bits binary64 0x8000000000000000

abbrev pub half : Float
half = of_bits binary64 0x3FE0000000000000

abbrev west : Float
west = of_bits binary64 0xBFE0000000000000

abbrev pub one : Float
one = of_bits binary64 0x3FF0000000000000

abbrev pub two : Float
two = of_bits binary64 0x4000000000000000

abbrev minus_two : Float
minus_two = of_bits binary64 0xC000000000000000

abbrev pub four : Float
four = of_bits binary64 0x4010000000000000

abbrev pub square : Float → Float → Rect
square a b = box (line.ends a b) (circle.ends a b)

abbrev pub start : Rect
start = square minus one

-- not valid, and out of reach
abbrev pub tall : Rect
tall = square minus two

abbrev pub unknown : Rect
unknown = square nan one

-- a box after so many accepted calls
abbrev ran_to : ℕ → Rect → RunningAnswer
ran_to n r = record { refusal = 0; accepted = n; value = r }

-- no call was made
abbrev no_call : ℕ → Rect → RunningAnswer
no_call n r = record { refusal = n; accepted = 0; value = r }

-- a line of latitude 0, from one longitude to another
abbrev pub equator : Float → Float → Rect
equator a b = box (line.ends zero zero) (circle.ends a b)

pub record Examples : Type 0 where
  -- two points enlarge the start in turn: the second moves the western edge, which is nearer
  pub grows : grow start (half ∷ two ∷ one ∷ west ∷ []) ≡ rect_answer (box (line.ends zero one) (circle.ends west two))
  -- the standard empty grown by the longitude -PI holds the seam, written PI
  pub seam-grows : grow EMPTY (zero ∷ NEG-PI ∷ []) ≡ rect_answer (equator PI PI)
  -- by no point the start is answered as it is read
  pub no-points : grow start [] ≡ rect_answer (square zero one)
  -- the longitude 4 is no point: the whole list is refused with 3, and the start keeps its bits
  pub bad-point : grow start (half ∷ two ∷ one ∷ four ∷ []) ≡ under 3 start
  -- 1 and 21 of the start come before 3, and answer the standard empty
  pub bad-start : grow unknown (one ∷ four ∷ []) ≡ empty_under 1
  pub tall-start : grow tall (one ∷ four ∷ []) ≡ empty_under 21
  -- 5 comes before all, and hands back even a start that is not valid
  pub half-point : grow start (one ∷ []) ≡ under 5 start
  pub half-point-first : grow unknown (one ∷ []) ≡ under 5 unknown
  -- the running box: the bad point in the middle is passed over, and the next one counts
  pub runs : ran start (half ∷ two ∷ one ∷ four ∷ one ∷ west ∷ []) ≡ ran_to 2 (box (line.ends zero one) (circle.ends west two))
  -- by bad points alone, or by no point, it keeps its bits; a point that it holds already reads its zeros
  pub runs-bad-points : ran start (one ∷ four ∷ four ∷ one ∷ []) ≡ ran_to 0 start
  pub runs-no-points : ran start [] ≡ ran_to 0 start
  pub runs-held : ran start (half ∷ half ∷ []) ≡ ran_to 1 (square zero one)
  -- a start that is refused: no call is made, not with a good point either
  pub runs-unknown : ran unknown (half ∷ half ∷ []) ≡ no_call 1 EMPTY
  pub runs-tall : ran tall [] ≡ no_call 21 EMPTY
  pub runs-half-point : ran tall (one ∷ []) ≡ no_call 5 tall
  -- over the seam: from 2 to -2 the way across it is the shorter
  pub runs-over-seam : ran EMPTY (zero ∷ two ∷ zero ∷ minus_two ∷ []) ≡ ran_to 2 (equator two minus_two)
  -- two calls in either order: other edges, and places that only one of the boxes holds
  pub order-matters : (ran EMPTY (zero ∷ zero ∷ zero ∷ PI ∷ []) ≡ ran_to 2 (equator zero PI)) × (ran EMPTY (zero ∷ PI ∷ zero ∷ zero ∷ []) ≡ ran_to 2 (equator PI zero))
  pub one_holds : (holds (equator zero PI) (place_at zero one false) ≡ true) × (holds (equator PI zero) (place_at zero one false) ≡ false)
  -- three calls: in one order the box goes over the seam, which in another it does not have to
  pub larger : (ran EMPTY (zero ∷ two ∷ zero ∷ minus_two ∷ zero ∷ zero ∷ []) ≡ ran_to 3 (equator two zero))
      × (ran EMPTY (zero ∷ zero ∷ zero ∷ two ∷ zero ∷ minus_two ∷ []) ≡ ran_to 3 (equator minus_two two))
  pub larger-holds : (holds (equator two zero) (place_at zero PI false) ≡ true) × (holds (equator minus_two two) (place_at zero PI false) ≡ false)

pub examples : Examples
unfolding
    grow grown_by start_of ran ran_by running accepted_of after whole_length points_of first_number first_refusal first_fault add
    read_one fault_of read_point as_read rect_in_reach is_lat_lng latitude on_circle in_reach plain zone.add line.add line.is_empty lat_holds circle.add circle.is_valid
    circle.is_empty fast_contains seam positive_distance of_bits lt le eq Ieee.add Ieee.sub
examples =
    record {
      grows = refl;
      seam-grows = refl;
      no-points = refl;
      bad-point = refl;
      bad-start = refl;
      tall-start = refl;
      half-point = refl;
      half-point-first = refl;
      runs = refl;
      runs-bad-points = refl;
      runs-no-points = refl;
      runs-held = refl;
      runs-unknown = refl;
      runs-tall = refl;
      runs-half-point = refl;
      runs-over-seam = refl;
      order-matters = (refl, refl);
      one_holds = (refl, refl);
      larger = (refl, refl);
      larger-holds = (refl, refl);
    }
