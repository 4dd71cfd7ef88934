-- Document 01's example of the program's output, computed: the text of the two pieces, by the bits of their numbers; and that of no pieces and of a refusal.
-- Assumes nothing.
use mathlib.Core.Path.{◌≡◌, refl}
use mathlib.Core.List.{List, [], ◌∷◌, ◌++◌}
use Prim.Native.Nat.{ℕ}
use lib.Ieee.{Float, binary64, of_bits, to_bits, is_nan}
use Rattle.bits.specs.Pattern.{to_pattern}
use Rattle.text.specs.Text.{hex_digit, hex, number_text, word_text, line_text, lines_text, decimal_text, head_text, PIECES, REFUSED, pieces_text, refused_text}
use Rattle.text.specs.Text.{AT, refused_at_text, AT-LINE, refused_at_line_text}

abbrev double : ℕ → Float
double b = of_bits binary64 b

-- a piece of the latitudes [0, 1] and the longitudes shown
abbrev zone : ℕ → ℕ → List Float → List Float
zone c d l = double 0 ∷ (double 0x3FF0000000000000 ∷ (double c ∷ (double d ∷ l)))

-- `0` four times
abbrev zeros : List ℕ → List ℕ
zeros t = 48 ∷ (48 ∷ (48 ∷ (48 ∷ t)))

-- `3FF0000000000000` and `BFF0000000000000`, each with the mark after it
abbrev one : ℕ → List ℕ → List ℕ
one m t = 51 ∷ (70 ∷ (70 ∷ (48 ∷ zeros (zeros (zeros (m ∷ t))))))

abbrev minus_one : ℕ → List ℕ → List ℕ
minus_one m t = 66 ∷ (70 ∷ (70 ∷ (48 ∷ zeros (zeros (zeros (m ∷ t))))))

-- `0000000000000000 3FF0000000000000 `
abbrev latitudes : List ℕ → List ℕ
latitudes t = zeros (zeros (zeros (zeros (32 ∷ one 32 t))))

pub two-pieces : pieces_text (zone 0xBFF0000000000000 0xBFF0000000000000 (zone 0x3FF0000000000000 0x3FF0000000000000 []))
    ≡ PIECES ++ (50 ∷ (10 ∷ latitudes (minus_one 32 (minus_one 10 (latitudes (one 32 (one 10 [])))))))
unfolding pieces_text head_text decimal_text lines_text line_text word_text number_text hex hex_digit to_pattern to_bits is_nan of_bits
two-pieces = refl

-- `refused 7` and a newline
pub refused-seven : refused_text 7 ≡ REFUSED ++ (55 ∷ (10 ∷ []))
unfolding refused_text head_text decimal_text hex_digit
refused-seven = refl

-- no pieces: `pieces 0` and a newline
pub no_pieces : pieces_text [] ≡ PIECES ++ (48 ∷ (10 ∷ []))
unfolding pieces_text head_text decimal_text lines_text hex_digit
no_pieces = refl

-- `refused 22 at 17` and a newline
pub refused-at-seventeen : refused_at_text 22 17 ≡ REFUSED ++ (50 ∷ (50 ∷ (AT ++ (49 ∷ (55 ∷ (10 ∷ []))))))
unfolding refused_at_text head_text decimal_text hex_digit
refused-at-seventeen = refl

-- `refused 8 at line 12` and a newline
pub refused-at-line-twelve : refused_at_line_text 8 12 ≡ REFUSED ++ (56 ∷ (AT-LINE ++ (49 ∷ (50 ∷ (10 ∷ [])))))
unfolding refused_at_line_text head_text decimal_text hex_digit
refused-at-line-twelve = refl
