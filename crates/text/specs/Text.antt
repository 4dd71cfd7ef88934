-- The texts of a list of pieces and of a refusal, as bytes, and what a text of digits is worth. Definitions only; the laws are in
-- proofs/Digits.antt, proofs/Lengths.antt and proofs/Determined.antt.
use Rattle.std.specs.Prelude.{cond, List, [], ◌∷◌, ◌++◌, ℕ, zero, suc, ◌+◌, ◌-◌, ◌*◌, ◌/◌, ◌%◌, ◌^◌, ltb, length, Float}
use Rattle.bits.specs.Pattern.{to_pattern}

-- ---- a number: the 16 hexadecimal digits of its bit pattern
-- a digit: `0` to `9`, `A` to `F`
unfoldable pub hex_digit : ℕ → ℕ
hex_digit d = cond (ltb d 10) (48 + d) (55 + d)

-- the last k digits of n, the most significant first; a digit is four bits
unfoldable pub hex : ℕ → ℕ → List ℕ
hex zero n = []
hex (suc k) n = hex_digit (n / 2 ^ (4 * k) % 16) ∷ hex k n

unfoldable pub number_text : Float → List ℕ
number_text x = hex 16 (to_pattern x)

-- ---- the line of a piece: single spaces (32) between its numbers, a newline (10) at its end
-- a number and the mark after it
unfoldable pub word_text : Float → ℕ → List ℕ
word_text x m = number_text x ++ (m ∷ [])

unfoldable pub line_text : Float → Float → Float → Float → List ℕ
line_text a b c d = word_text a 32 ++ (word_text b 32 ++ (word_text c 32 ++ word_text d 10))

-- four numbers a line; a rest of fewer has none
unfoldable pub lines_text : List Float → List ℕ
lines_text [] = []
lines_text (a ∷ []) = []
lines_text (a ∷ (b ∷ [])) = []
lines_text (a ∷ (b ∷ (c ∷ []))) = []
lines_text (a ∷ (b ∷ (c ∷ (d ∷ l)))) = line_text a b c d ++ lines_text l

-- ---- the first line: a name, a number in decimal, a newline
-- a number under 1,000, with no leading zero
unfoldable pub decimal_text : ℕ → List ℕ
decimal_text n =
    cond (ltb n 10) (hex_digit n ∷ [])
    (cond (ltb n 100) (hex_digit (n / 10) ∷ (hex_digit (n % 10) ∷ [])) (hex_digit (n / 100) ∷ (hex_digit (n / 10 % 10) ∷ (hex_digit (n % 10) ∷ []))))

unfoldable pub head_text : List ℕ → ℕ → List ℕ
head_text name n = name ++ (decimal_text n ++ (10 ∷ []))

-- `pieces `
abbrev pub PIECES : List ℕ
PIECES = 112 ∷ (105 ∷ (101 ∷ (99 ∷ (101 ∷ (115 ∷ (32 ∷ []))))))

-- `refused `
abbrev pub REFUSED : List ℕ
REFUSED = 114 ∷ (101 ∷ (102 ∷ (117 ∷ (115 ∷ (101 ∷ (100 ∷ (32 ∷ [])))))))

-- ---- the two texts
-- a list of pieces, four numbers each
unfoldable pub pieces_text : List Float → List ℕ
pieces_text l = head_text PIECES (length l / 4) ++ lines_text l

unfoldable pub refused_text : ℕ → List ℕ
refused_text n = head_text REFUSED n

-- ---- a refusal and its place, with the words between
abbrev pub refused_where : List ℕ → ℕ → ℕ → List ℕ
refused_where words n place = REFUSED ++ (decimal_text n ++ head_text words place)

-- ` at `, before the number of an entry, counted from zero
abbrev pub AT : List ℕ
AT = 32 ∷ (97 ∷ (116 ∷ (32 ∷ [])))

unfoldable pub refused_at_text : ℕ → ℕ → List ℕ
refused_at_text n entry = refused_where AT n entry

-- ` at line `, before the number of a line, counted from 1
abbrev pub AT-LINE : List ℕ
AT-LINE = 32 ∷ (97 ∷ (116 ∷ (32 ∷ (108 ∷ (105 ∷ (110 ∷ (101 ∷ (32 ∷ []))))))))

unfoldable pub refused_at_line_text : ℕ → ℕ → List ℕ
refused_at_line_text n line = refused_where AT-LINE n line

-- ---- what digits are worth
unfoldable pub digit_value : ℕ → ℕ
digit_value d = cond (ltb d 58) (d - 48) (d - 55)

-- in the base b, the most significant first
unfoldable pub value : ℕ → List ℕ → ℕ
value b [] = 0
value b (d ∷ t) = digit_value d * b ^ length t + value b t
