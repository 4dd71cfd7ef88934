-- How a number that comes in is read. Definitions only; the laws are in proofs/Readings.antt.
use Rattle.std.specs.Prelude.{◌≡◌, Bool, ◌&&◌, cond, ℕ, Float, Result, Ok, Err}
use Rattle.std.specs.Float.{binary64}
use Rattle.std.specs.Float.Ieee.{of_bits, le, eq}
use Rattle.consts.specs.declared.answer.Number.{Number}
use Rattle.consts.specs.Refusal.{number, accepted}
use Rattle.consts.specs.Answer.{ZERO}

-- -2 ^ 500 and 2 ^ 500
abbrev pub LEAST : Float
LEAST = of_bits binary64 0xDF30000000000000

abbrev pub MOST : Float
MOST = of_bits binary64 0x5F30000000000000

-- no NaN, and of size at most 2 ^ 500
unfoldable pub in_reach : Float → Bool
in_reach x = le LEAST x && le x MOST

-- negative zero is read as zero
unfoldable pub plain : Float → Float
plain x = cond (eq x ZERO) ZERO x

-- a number that is no negative zero
abbrev pub NoMinus : Float → Type 0
NoMinus x = plain x ≡ x

-- a point, a margin or an error, under 0 or, where it is out of reach, under the number n
unfoldable pub read_number : Float → ℕ → Number
read_number x n = record { refusal = cond (in_reach x) (number accepted) n; value = plain x }

-- the same by what it is refused with, of whatever type
unfoldable pub number_read : {E : Type 0} → Float → E → Result Float E
number_read x e = cond (in_reach x) (Ok (plain x)) (Err e)
