-- What the constants are, and the angles that come out exact: 180 and 90 degrees of either sign are PI and PI / 2, and 0 is +0. Antt computes both
-- roundings. Assumes nothing.
use Rattle.std.proofs.Common.{◌≡◌, pos, neg_ℤ, refl}
use lib.Ieee.{binary64, of_bits, of_int, mul, div}
use Rattle.consts.specs.Answer.{ZERO}
use Rattle.consts.specs.Constants.{PI, NEG-PI}
use Rattle.bounds.specs.Bounds.{HALF, QUARTER}
use Rattle.s2.specs.Zone.{NORTH, SOUTH}
use Rattle.degrees.specs.Degrees.{PER-DEGREE, TEN-MILLION, from_degrees, degrees, radians}

pub per-degree : PER-DEGREE ≡ div binary64 PI (of_int binary64 (pos 180))
unfolding div of_int of_bits
per-degree = refl

pub ten-million : TEN-MILLION ≡ of_int binary64 (pos 10000000)
unfolding of_int of_bits
ten-million = refl

pub none : radians (pos 0) ≡ ZERO
unfolding radians degrees from_degrees mul div of_int of_bits
none = refl

pub east : radians (pos HALF) ≡ PI
unfolding radians degrees from_degrees mul div of_int of_bits
east = refl

pub west : radians (neg_ℤ (pos HALF)) ≡ NEG-PI
unfolding radians degrees from_degrees mul div of_int of_bits
west = refl

pub north : radians (pos QUARTER) ≡ NORTH
unfolding radians degrees from_degrees mul div of_int of_bits
north = refl

pub south : radians (neg_ℤ (pos QUARTER)) ≡ SOUTH
unfolding radians degrees from_degrees mul div of_int of_bits
south = refl
