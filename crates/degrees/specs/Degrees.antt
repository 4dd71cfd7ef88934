-- From whole ten-millionths of a degree to radians, rounded twice: the quotient by ten million, then the crate's product with the double PI / 180. And the
-- rectangle of a box. Definitions only; the laws are in proofs/Angles.antt, proofs/Rises.antt and proofs/Boxes.antt.
use Rattle.std.specs.Prelude.{cond, ℤ, from_bits, Float}
use Rattle.std.specs.Float.{binary64}
use Rattle.std.specs.Float.Ieee.{of_int, mul, div}
use Rattle.consts.specs.Refusal.{number, bad_box}
use Rattle.bounds.specs.declared.bounds.Bounds.{Bounds}
use Rattle.bounds.specs.Bounds.{givable}
use Rattle.r1.specs.Line as line
use Rattle.s1.specs.Circle as circle
use Rattle.s2.specs.declared.rect.Rect.{Rect}
use Rattle.s2.specs.declared.rect.Answer.{Answer}
use Rattle.s2.specs.Zone.{box}
use Rattle.s2.specs.Answers.{rect_answer, empty_under}

-- PI / 180, rounded once, and ten million
abbrev pub PER-DEGREE : Float
PER-DEGREE = from_bits binary64 0x3F91DF46A2529D39

abbrev pub TEN-MILLION : Float
TEN-MILLION = from_bits binary64 0x416312D000000000

-- the radians of a number of degrees, rounded once
unfoldable pub from_degrees : Float → Float
from_degrees x = mul binary64 x PER-DEGREE

-- the degrees of w ten-millionths, rounded once; w itself is a double, up to 2 ^ 53
unfoldable pub degrees : ℤ → Float
degrees w = div binary64 (of_int binary64 w) TEN-MILLION

unfoldable pub radians : ℤ → Float
radians w = from_degrees (degrees w)

-- from south to north, and from west east to east
unfoldable pub rect_of : Bounds → Rect
rect_of b = box (line.ends (radians b.south) (radians b.north)) (circle.ends (radians b.west) (radians b.east))

unfoldable pub to_rect : Bounds → Answer
to_rect b = cond (givable b) (rect_answer (rect_of b)) (empty_under (number bad_box))
