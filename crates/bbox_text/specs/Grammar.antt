-- The text of a bbox array as productions, each over the bytes of its text and what the text means: RFC 8259's number without an exponent and with as many
-- digits as document 02 allows, RFC 8259's white space, and RFC 7946's array of four numbers. Definitions only; that the reader accepts exactly this is in
-- the crate bbox, proofs/Exactly.antt.
use Rattle.std.specs.Prelude.{◌≡◌, Bool, true, false, ◌&&◌, ◌||◌, List, [], ◌∷◌, ◌++◌, ℕ, ◌+◌, ◌-◌, ◌*◌, ◌^◌, ◌≤◌, ◌<◌, leb, eqb, length, ℤ, pos, neg_ℤ}
use Rattle.text.specs.Text.{value}
use Rattle.bounds.specs.declared.bounds.Bounds.{Bounds}

-- digit = %x30-39
unfoldable pub is_digit : ℕ → Bool
is_digit b = leb 48 b && leb b 57

unfoldable pub are_digits : List ℕ → Bool
are_digits [] = true
are_digits (b ∷ t) = is_digit b && are_digits t

-- ws = *( %x20 / %x09 / %x0A / %x0D )
unfoldable pub is_space : ℕ → Bool
is_space b = eqb b 32 || eqb b 9 || eqb b 10 || eqb b 13

unfoldable pub are_spaces : List ℕ → Bool
are_spaces [] = true
are_spaces (b ∷ t) = is_space b && are_spaces t

-- int = "0" / ( %x31-39 *2digit )
pub data Int : List ℕ → Type 0 where
  zero-alone : Int (48 ∷ [])
  one-to-three : (d : ℕ) (t : List ℕ) → is_digit d ≡ true → eqb d 48 ≡ false → are_digits t ≡ true → length t ≤ 2 → Int (d ∷ t)

-- frac = [ "." 1*7digit ], worth so many ten-millionths
pub data Frac : List ℕ → ℕ → Type 0 where
  no-point : Frac [] 0
  with-point : (t : List ℕ) → are_digits t ≡ true → 0 < length t → length t ≤ 7 → Frac (46 ∷ t) (value 10 t * 10 ^ (7 - length t))

-- minus = [ "-" ]
unfoldable pub minus_text : Bool → List ℕ
minus_text true = 45 ∷ []
minus_text false = []

-- minus zero is zero
unfoldable pub signed : Bool → ℕ → ℤ
signed true n = neg_ℤ (pos n)
signed false n = pos n

-- number = minus int frac, worth so many ten-millionths
pub data Number : List ℕ → ℤ → Type 0 where
  is_number : (minus : Bool) (i f : List ℕ) (n : ℕ) → Int i → Frac f n → Number (minus_text minus ++ (i ++ f)) (signed minus (value 10 i * 10000000 + n))

-- element = ws number ws mark
pub data Element (mark : ℕ) : List ℕ → ℤ → Type 0 where
  is-element : (a t b : List ℕ) (z : ℤ) → are_spaces a ≡ true → Number t z → are_spaces b ≡ true → Element mark (a ++ (t ++ (b ++ (mark ∷ [])))) z

-- bbox = ws "[" ws number ws "," ws number ws "," ws number ws "," ws number ws "]" ws
pub data Array : List ℕ → Bounds → Type 0 where
  is-array : (a w s e n b : List ℕ) (west south east north : ℤ) → are_spaces a ≡ true → Element 44 w west → Element 44 s south → Element 44 e east
      → Element 93 n north → are_spaces b ≡ true
      → Array (a ++ (91 ∷ (w ++ (s ++ (e ++ (n ++ b)))))) (record { west = west; south = south; east = east; north = north })
