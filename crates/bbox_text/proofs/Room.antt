-- How much room a text takes: a longitude at most 12 bytes, a latitude 11, a box 51, and at least 9; each of the two is met by a box. A number is a
-- minus, its whole degrees and at most eight bytes of fraction. Assumes nothing.
use mathlib.Core.Path.{◌≡◌, refl}
use mathlib.Core.Bool.{true}
use mathlib.Core.List.{List}
use Prim.Native.Nat.{ℕ, suc, ◌+◌, ◌/◌, ◌%◌, ◌^◌, ◌≤◌, ◌<◌}
use native.Mathlib.Omega.{arith}
use lib.ListN.{length, length-append}
use lib.IntN.{ℤ, pos, negsuc, neg_ℤ, nat_abs}
use Rattle.text.specs.Text.{decimal_text, hex_digit}
use Rattle.text.proofs.Lengths.{few-digits}
use Rattle.bounds.specs.declared.bounds.Bounds.{Bounds}
use Rattle.bounds.specs.Bounds.{HALF, QUARTER, within, in_limits, is_westmost, is_eastmost, whole_circle, settled, givable}
use Rattle.bbox_text.specs.Grammar.{Frac, no-point, with-point}
use Rattle.bbox_text.specs.Text.{decimals, frac_text, size_text, number_text, element_text, text_of}
use Rattle.bounds.proofs.Boxes.{InLimits, limits, given-limits, within-size, sizes}
use Rattle.bbox_text.proofs.Written.{frac-written}
use Rattle.bbox_text.proofs.Fewest.{few-enough, text-length}

-- ---- a number
frac-room : (t : List ℕ) (f : ℕ) → Frac t f → length t ≤ 8
frac-room t f no-point = omega arith
frac-room t f (with-point d a p l) = omega (arith, l)

-- k digits before the point
size_room : (k n : ℕ) → 1 ≤ k → n / 10000000 < 10 ^ k → length (size_text n) ≤ k + 8
unfolding size_text
size_room k n p h =
    let w : ℕ = n / 10000000 in
    let f : ℕ = n % 10000000 in
    omega (arith, length-append (decimal_text w) (frac_text f), few-enough w k p h, frac-room (frac_text f) f (frac-written f (omega arith)))

number-room : (k : ℕ) (z : ℤ) → 1 ≤ k → nat_abs z / 10000000 < 10 ^ k → length (number_text z) ≤ k + 9
unfolding number_text
number-room k (pos n) p h = omega (arith, size_room k n p h)
number-room k (negsuc n) p h = omega (arith, size_room k (suc n) p h)

pub longitude-room : (z : ℤ) → within HALF z ≡ true → length (number_text z) ≤ 12
longitude-room z h = number-room 3 z (omega arith) (omega (arith, within-size HALF z h))

pub latitude-room : (z : ℤ) → within QUARTER z ≡ true → length (number_text z) ≤ 11
latitude-room z h = number-room 2 z (omega arith) (omega (arith, within-size QUARTER z h))

-- any that the writer can write
pub number_fits : (z : ℤ) → nat_abs z < 10000000000 → length (number_text z) ≤ 12
number_fits z h = number-room 3 z (omega arith) (omega arith)

-- ---- a box: each of its numbers can be written
pub west_size : (b : Bounds) → givable b ≡ true → nat_abs b.west < 10000000000
west_size b h = (sizes b h).0

pub south_size : (b : Bounds) → givable b ≡ true → nat_abs b.south < 10000000000
south_size b h = (sizes b h).1

pub east_size : (b : Bounds) → givable b ≡ true → nat_abs b.east < 10000000000
east_size b h = (sizes b h).2

pub north_size : (b : Bounds) → givable b ≡ true → nat_abs b.north < 10000000000
north_size b h = (sizes b h).3

pub ruleset box_sizes = (west_size, south_size, east_size, north_size)

pub longest : (b : Bounds) → givable b ≡ true → length (text_of b) ≤ 51
longest b h =
    let l : InLimits b = limits b (given-limits b h) in
    omega (arith, text-length b, longitude-room b.west l.west, latitude-room b.south l.south, longitude-room b.east l.east, latitude-room b.north l.north)

-- [-179.9999999,-89.9999999,-100.0000001,-10.0000001]
abbrev pub long : Bounds
long = record { west = neg_ℤ (pos 1799999999); south = neg_ℤ (pos 899999999); east = neg_ℤ (pos 1000000001); north = neg_ℤ (pos 100000001) }

pub long-given : givable long ≡ true
unfolding givable in_limits within settled whole_circle is_westmost is_eastmost
long-given = refl

pub long-room : length (text_of long) ≡ 51
unfolding text_of element_text number_text size_text decimal_text hex_digit frac_text decimals
long-room = refl

-- ---- the least
number-least : (z : ℤ) → 1 ≤ length (number_text z)
unfolding number_text size_text
number-least (pos n) = omega (arith, length-append (decimal_text (n / 10000000)) (frac_text (n % 10000000)), (few-digits (n / 10000000)).0)
number-least (negsuc n) = omega arith

pub shortest : (b : Bounds) → 9 ≤ length (text_of b)
shortest b = omega (arith, text-length b, number-least b.west, number-least b.south, number-least b.east, number-least b.north)

-- [0,0,0,0]
abbrev pub short : Bounds
short = record { west = pos 0; south = pos 0; east = pos 0; north = pos 0 }

pub short-given : givable short ≡ true
unfolding givable in_limits within settled whole_circle is_westmost is_eastmost
short-given = refl

pub short-room : length (text_of short) ≡ 9
unfolding text_of element_text number_text size_text decimal_text hex_digit frac_text decimals
short-room = refl
