-- The case of the invoices, computed with every rounding: two wide zones, one of them over the 180th meridian, meet at both ends, and have two common
-- boxes. Assumes nothing.
use mathlib.Core.Path.{◌≡◌, refl}
use mathlib.Core.List.{[], ◌∷◌}
use lib.IntN.{ℤ, pos, neg_ℤ}
use lib.Ieee.{of_bits, of_int, mul, div, lt, le, eq}
use Rattle.order.specs.Choice.{min, max}
use Rattle.consts.specs.Reading.{plain}
use Rattle.r1.specs.Line as line
use Rattle.s1.specs.Circle as circle
use Rattle.s2.specs.Reading.{as_read}
use Rattle.lists.specs.Rects.{rects_of, as_read_all}
use Rattle.arcs.specs.Clipping.{before, sooner, insert, cut, end_at, clip, whole, step, steps, common}
use Rattle.arcs.specs.CommonArcs.{some_holds}
use Rattle.region.specs.Region.{band_from, lngs, across, region}
use Rattle.region.specs.Answers.{pieces_of}
use Rattle.bounds.specs.declared.bounds.Bounds.{Bounds}
use Rattle.degrees.specs.Degrees.{from_degrees, degrees, radians}
use Rattle.box_lines.specs.Answers.{wholes, in_radians, whole_of, box_of, boxes_of, common_boxes}

-- west, south, east and north in ten-millionths of a degree
abbrev box : ℤ → ℤ → ℤ → ℤ → Bounds
box w s e n = record { west = w; south = s; east = e; north = n }

-- [-100,40,100,60] and [80,45,-80,70]: [-100,45,-80,60] and [80,45,100,60]
pub two-zones : common_boxes (box (neg_ℤ (pos 1000000000)) (pos 400000000) (pos 1000000000) (pos 600000000)
    ∷ (box (pos 800000000) (pos 450000000) (neg_ℤ (pos 800000000)) (pos 700000000) ∷ []))
    ≡ box (neg_ℤ (pos 1000000000)) (pos 450000000) (neg_ℤ (pos 800000000)) (pos 600000000)
    ∷ (box (pos 800000000) (pos 450000000) (pos 1000000000) (pos 600000000) ∷ [])
unfolding common_boxes boxes_of box_of whole_of in_radians wholes pieces_of rects_of as_read_all region band_from lngs across common
    steps step whole clip end_at cut insert sooner before some_holds as_read line.is_empty line.intersection circle.is_empty circle.is_full
    plain min max radians degrees from_degrees mul div of_int of_bits lt le eq
two-zones = refl
