-- Doubles and their bit patterns, where every NaN's pattern is the one NaN's. Definitions only; the laws are in proofs/RoundTrip.antt.
use Rattle.std.specs.Prelude.{cond, ℕ, Float}
use Rattle.std.specs.Float.{nan, binary64}
use Rattle.std.specs.Float.Ieee.{nan_bits, of_bits, to_bits, is_nan}

-- the double of a bit pattern
unfoldable pub of_pattern : ℕ → Float
of_pattern n = cond (nan_bits binary64 n) nan (of_bits binary64 n)

-- the bit pattern of a double
unfoldable pub to_pattern : Float → ℕ
to_pattern x = cond (is_nan x) 0x7FF8000000000000 (to_bits binary64 x)
