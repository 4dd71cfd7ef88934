-- The text of a box: fewest digits, no spaces, never "-0". What the writer answers and leaves. Definitions only; the laws are in proofs/Written.antt,
-- proofs/Fewest.antt, proofs/Room.antt and proofs/Answers.antt; the round trip is in the crate bbox, proofs/Round.antt.
use Rattle.std.specs.Prelude.{cond, List, [], ◌∷◌, ◌++◌, ℕ, zero, suc, ◌+◌, ◌/◌, ◌%◌, ◌^◌, eqb, ℤ, pos, negsuc}
use Rattle.consts.specs.Refusal.{number, bad_box}
use Rattle.text.specs.Text.{decimal_text}
use Rattle.text.specs.Answers.{Written, refused_with, wrote, left}
use Rattle.bounds.specs.declared.bounds.Bounds.{Bounds}
use Rattle.bounds.specs.Bounds.{givable}

-- the first n decimals of a part f of 10 ^ n, and nothing once only zeros are left
unfoldable pub decimals : ℕ → ℕ → List ℕ
decimals zero f = []
decimals (suc n) f = cond (eqb f 0) [] ((48 + f / 10 ^ n) ∷ decimals n (f % 10 ^ n))

-- a point and the decimals, or nothing for a whole number
unfoldable pub frac_text : ℕ → List ℕ
frac_text f = cond (eqb f 0) [] (46 ∷ decimals 7 f)

unfoldable pub size_text : ℕ → List ℕ
size_text n = decimal_text (n / 10000000) ++ frac_text (n % 10000000)

unfoldable pub number_text : ℤ → List ℕ
number_text (pos n) = size_text n
number_text (negsuc n) = 45 ∷ size_text (suc n)

-- a number and the mark after it
unfoldable pub element_text : ℤ → ℕ → List ℕ
element_text z mark = number_text z ++ (mark ∷ [])

unfoldable pub text_of : Bounds → List ℕ
text_of b = 91 ∷ (element_text b.west 44 ++ (element_text b.south 44 ++ (element_text b.east 44 ++ element_text b.north 93)))

-- ---- the answer: 9 for a box that reading cannot give, then 6 where the output is too short for the text
unfoldable pub wrote_box : Bounds → ℕ → Written
wrote_box b room = cond (givable b) (wrote (text_of b) room) (refused_with (number bad_box))

unfoldable pub left_box : Bounds → List ℕ → List ℕ
left_box b out = cond (givable b) (left (text_of b) out) out
