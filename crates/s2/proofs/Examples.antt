-- Worked examples, computed by the definitions: the kinds of valid empty rectangle, and two answers that a reader may not expect. Document 01's own are in
-- the crate table. Assumes nothing.
use mathlib.Core.Path.{◌≡◌, refl}
use mathlib.Core.Bool.{true, false}
use lib.Ieee.{binary64, of_bits, lt, le, eq}
use Rattle.consts.specs.Refusal.{number, out_of_reach, bad_latitude, bad_circle, half_empty, first_fault, first_refusal}
use Rattle.consts.specs.Constants.{NEG-PI, NEG-ONE, TWO}
use Rattle.consts.specs.Answer.{ZERO, yes_no, no_under}
use Rattle.consts.specs.Reading.{in_reach, plain}
use Rattle.r1.specs.Line as line
use Rattle.s1.specs.Circle as circle
use Rattle.s2.specs.declared.rect.Rect.{Rect}
use Rattle.s2.specs.Zone as zone
use Rattle.s2.specs.Zone.{SOUTH, box, FULL, EMPTY, latitude, is_empty}
use Rattle.s2.specs.Reading.{rect_in_reach, as_read, fault_of, read_one, read_two}
use Rattle.s2.specs.Answers.{rect_answer, is_valid, is_inverted, interior_contains, polar_closure}

-- ---- valid empty rectangles: lat.hi has no least value but reach
-- lat.lo at the south pole, lat.hi below it
abbrev southern : Rect
southern = box (line.ends SOUTH (of_bits binary64 0xC000000000000000)) circle.EMPTY

pub southern-closure : polar_closure southern ≡ rect_answer southern
unfolding polar_closure read_one fault_of first_fault as_read rect_in_reach latitude in_reach plain zone.polar_closure is_empty line.is_empty circle.is_valid circle.is_empty of_bits lt le eq
southern-closure = refl

-- lat.hi out of reach below: no valid rectangle in reach
pub too-low : is_valid (box (line.ends ZERO (of_bits binary64 0xDF40000000000000)) circle.EMPTY) ≡ no_under (number out_of_reach)
unfolding is_valid read_one rect_in_reach in_reach of_bits lt le eq
too-low = refl

-- ---- why one is not valid: each of these has the fault that it is named after, and those that are tested later
pub over_first : is_valid (box (line.ends TWO ZERO) (circle.ends NEG-PI ZERO)) ≡ no_under (number bad_latitude)
unfolding is_valid read_one fault_of first_fault rect_in_reach latitude in_reach of_bits lt le eq
over_first = refl

pub circle-second : is_valid (box (line.ends NEG-ONE SOUTH) (circle.ends NEG-PI ZERO)) ≡ no_under (number bad_circle)
unfolding is_valid read_one fault_of first_fault rect_in_reach latitude in_reach circle.is_valid of_bits lt le eq
circle-second = refl

pub parts-third : is_valid (box (line.ends NEG-ONE SOUTH) (circle.ends ZERO ZERO)) ≡ no_under (number half_empty)
unfolding is_valid read_one fault_of first_fault rect_in_reach latitude in_reach line.is_empty circle.is_valid circle.is_empty of_bits lt le eq
parts-third = refl

-- ---- as the crate has it: an empty rectangle is inverted, and the full one does not lie in its own interior
pub empty-inverted : is_inverted EMPTY ≡ yes_no true
unfolding is_inverted read_one fault_of first_fault as_read rect_in_reach latitude in_reach plain line.is_empty circle.is_valid circle.is_empty of_bits lt le eq
empty-inverted = refl

pub full-interior : interior_contains FULL FULL ≡ yes_no false
unfolding interior_contains read_two read_one fault_of first_fault as_read first_refusal rect_in_reach latitude in_reach plain zone.interior_contains line.is_empty line.interior_contains_interval circle.interior_contains_interval circle.is_valid circle.is_empty of_bits lt le eq
full-interior = refl
