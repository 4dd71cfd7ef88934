-- What is left of a number once another is taken off as often as it goes, both whole numbers of units (consts, specs/Remainder.antt): what the functions of
-- src/rests.rt promise each other. Nothing in it needs to be believed. C's `fmod`, the exact remainder that truncates, is `rem` of the kit. Definitions only.
use Rattle.std.specs.Prelude.{◌≡◌, T, ℕ, ◌%◌, ◌<◌, false, Float, ℤ, nat_abs}
use Rattle.std.specs.Float.{fin, binary64}
use Rattle.std.specs.Float.Ieee.{fits, rem}
use Rattle.consts.specs.Constants.{TURN}
use Rattle.consts.specs.Remainder.{value}

-- a finite double that is not negative, and no negative zero
pub data Whole : Float → Type 0 where
  whole : {m : ℕ} {e : ℤ} → T (fits binary64 (fin false m e)) → Whole (fin false m e)

-- how many units it is
abbrev pub count : Float → ℕ
count x = nat_abs (value x)

-- t may be taken off x
pub record Divides (t x : Float) : Type 0 where
  pub of : Whole x
  pub by : Whole t
  pub some : 0 < count t

-- r is what is left of x
pub record Left (t x r : Float) : Type 0 where
  pub whole : Whole r
  pub is : count r ≡ count x % count t

-- C's `fmod` of x by 2 PI
abbrev pub rest : Float → Float
rest x = rem binary64 x TURN
