-- The doubles that src/consts.rt names, by their bits: PI and its multiples, of which 2 PI, 3 PI and 4 PI are exact multiples of the double PI.
-- And plain numbers that more than one layer works with. Definitions only.
use Rattle.std.specs.Prelude.{Float}
use Rattle.std.specs.Float.{binary64}
use Rattle.std.specs.Float.Ieee.{of_bits}

abbrev pub PI : Float
PI = of_bits binary64 0x400921FB54442D18

abbrev pub NEG-PI : Float
NEG-PI = of_bits binary64 0xC00921FB54442D18

-- 2 PI
abbrev pub TURN : Float
TURN = of_bits binary64 0x401921FB54442D18

abbrev pub NEG-TURN : Float
NEG-TURN = of_bits binary64 0xC01921FB54442D18

abbrev pub THREE-PI : Float
THREE-PI = of_bits binary64 0x4022D97C7F3321D2

abbrev pub NEG-THREE-PI : Float
NEG-THREE-PI = of_bits binary64 0xC022D97C7F3321D2

abbrev pub FOUR-PI : Float
FOUR-PI = of_bits binary64 0x402921FB54442D18

abbrev pub NEG-FOUR-PI : Float
NEG-FOUR-PI = of_bits binary64 0xC02921FB54442D18

-- 1e-14 and 2 ^ -52
abbrev pub EPSILON : Float
EPSILON = of_bits binary64 0x3D06849B86A12B9B

abbrev pub DBL-EPSILON : Float
DBL-EPSILON = of_bits binary64 0x3CB0000000000000

abbrev pub NEG-ONE : Float
NEG-ONE = of_bits binary64 0xBFF0000000000000

abbrev pub TWO : Float
TWO = of_bits binary64 0x4000000000000000

abbrev pub HALF : Float
HALF = of_bits binary64 0x3FE0000000000000
