-- The order key of a double: a natural number, so that a comparison of doubles is one of natural numbers.
-- A finite value is a whole number of the format's smallest value; `key` is that number, moved up by `big` so that none is negative.
-- Both zeros have one key, the infinities stand at the ends, and a NaN has none of its own. Definitions only; the laws are in proofs/Keys.antt.
use Rattle.std.specs.Prelude.{Bool, true, false, not, ◌&&◌, ℕ, suc, ◌+◌, ◌-◌, ◌*◌, ◌^◌, ℤ, pos, negsuc, eqb, Float}
use Rattle.std.specs.Float.{nan, inf, fin, Format, binary64}
use Rattle.std.specs.Float.Ieee.{emax, low, fits, is_nan}
use Rattle.std.specs.Float.Ieee.Scale.{finite}

-- the size of m * 2 ^ e in units of 2 ^ -l
unfoldable pub mag : ℕ → ℕ → ℤ → ℕ
mag l m (pos k) = m * 2 ^ (l + k)
mag l m (negsuc k) = m * 2 ^ (l - suc k)

-- above every finite size, in units of the format's smallest value
unfoldable pub big : Format → ℕ
big f = 2 ^ suc (emax f) * 2 ^ low f

unfoldable pub key : Format → Float → ℕ
key f nan = 0
key f (inf true) = 0
key f (inf false) = 2 * big f
key f (fin false m e) = big f + mag (low f) m e
key f (fin true m e) = big f - mag (low f) m e

-- a value of the format that is no NaN
abbrev pub num : Format → Float → Bool
num f x = fits f x && not (is_nan x)

-- a finite value of the format
abbrev pub real : Format → Float → Bool
real f x = fits f x && finite x

-- zero, of either sign
unfoldable pub is_zero : Float → Bool
is_zero nan = false
is_zero (inf s) = false
is_zero (fin s m e) = eqb m 0

-- ---- at doubles
abbrev pub K : Float → ℕ
K x = key binary64 x

abbrev pub Num : Float → Bool
Num x = num binary64 x

abbrev pub Real : Float → Bool
Real x = real binary64 x
