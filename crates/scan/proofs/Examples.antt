-- Worked examples, computed by the definitions: what the scan worker answers and leaves in the box, refusals included. The numbers and the boxes are those of
-- growth's examples. Assumes nothing.
use mathlib.Core.Path.{◌≡◌, refl}
use mathlib.Core.List.{[], ◌∷◌}
use lib.Ieee as Ieee
use lib.Ieee.{of_bits, lt, le, eq}
use Rattle.consts.specs.Refusal.{first_fault, first_refusal}
use Rattle.consts.specs.Reading.{in_reach, plain}
use Rattle.r1.specs.Line as line
use Rattle.s1.specs.Circle as circle
use Rattle.s1.specs.Circle.{fast_contains, seam, positive_distance}
use Rattle.s1.specs.Reading.{on_circle}
use Rattle.s2.specs.Zone as zone
use Rattle.s2.specs.Zone.{at, box, latitude, is_lat_lng}
use Rattle.s2.specs.Reading.{rect_in_reach, as_read, fault_of, read_one, read_point}
use Rattle.s2.specs.Answers.{add}
use Rattle.entries.specs.Lists.{whole_length}
use Rattle.entries.specs.First.{first_number}
use Rattle.lists.specs.Points.{points_of}
use Rattle.growth.specs.RunningBox.{after, running}
use Rattle.growth.specs.Growth.{under, start_of, grown_by, grow}
use Rattle.growth.proofs.Examples.{zero, half, one, two, four, start, tall}
use Rattle.scan.specs.Scan.{enlarge, enlarge_all}

pub record Examples : Type 0 where
  -- the worker: growth's number, and what is left in the box
  pub enlarges : enlarge start (at half two) ≡ under 0 (box (line.ends zero one) (circle.ends zero two))
  pub leaves-bad-point : enlarge start (at one four) ≡ under 3 start
  pub leaves-bad-box : enlarge tall (at half half) ≡ under 21 tall
  pub leaves-bad-list : enlarge_all start (half ∷ two ∷ one ∷ four ∷ []) ≡ under 3 start

pub examples : Examples
unfolding
    grow grown_by start_of running after whole_length points_of first_number first_refusal add enlarge enlarge_all read_one fault_of first_fault read_point as_read rect_in_reach
    is_lat_lng latitude on_circle in_reach plain zone.add line.add line.is_empty circle.add circle.is_valid circle.is_empty fast_contains seam positive_distance of_bits
    lt le eq Ieee.add Ieee.sub
examples =
    record {
      enlarges = refl;
      leaves-bad-point = refl;
      leaves-bad-box = refl;
      leaves-bad-list = refl;
    }
