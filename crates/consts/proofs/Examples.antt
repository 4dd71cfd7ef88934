-- Worked examples of the remainder, by computing. Assumes nothing.
use mathlib.Core.Path.{◌≡◌, refl}
use lib.Ieee.{binary64, of_bits, nan, lt, le, eq}
use Rattle.consts.specs.Constants.{PI, NEG-PI, TURN, NEG-TURN, THREE-PI, NEG-THREE-PI, FOUR-PI}
use Rattle.consts.specs.Answer.{ZERO, zero_under}
use Rattle.consts.specs.Refusal.{number, bad_margin}
use Rattle.consts.specs.Remainder.{remainder_of, within_four_pi, remainder}

-- PI and 3 PI are ties: none is taken off the first, and two turns off the second
pub half-turn : (remainder_of PI ≡ PI) × (remainder_of NEG-PI ≡ NEG-PI)
unfolding remainder_of of_bits
half-turn = (refl, refl)

pub three_halves : (remainder_of THREE-PI ≡ NEG-PI) × (remainder_of NEG-THREE-PI ≡ PI)
unfolding remainder_of of_bits
three_halves = (refl, refl)

-- whole turns leave zero, and a negative number no negative zero
pub whole-turns : (remainder_of TURN ≡ ZERO) × (remainder_of NEG-TURN ≡ ZERO) × (remainder_of FOUR-PI ≡ ZERO)
unfolding remainder_of of_bits
whole-turns = (refl, refl, refl)

pub minus-zero : remainder_of (of_bits binary64 0x8000000000000000) ≡ ZERO
unfolding remainder_of of_bits
minus-zero = refl

-- the next doubles above PI and below 3 PI
pub beside-ties : (remainder_of (of_bits binary64 0x400921FB54442D19) ≡ of_bits binary64 0xC00921FB54442D17) × (remainder_of (of_bits binary64 0x4022D97C7F3321D1) ≡ of_bits binary64 0x400921FB54442D14)
unfolding remainder_of of_bits
beside-ties = (refl, refl)

-- the next double above 4 PI, and the NaN
pub refused : (remainder (of_bits binary64 0x402921FB54442D19) ≡ zero_under (number bad_margin)) × (remainder nan ≡ zero_under (number bad_margin))
unfolding remainder within_four_pi of_bits le lt eq
refused = (refl, refl)
