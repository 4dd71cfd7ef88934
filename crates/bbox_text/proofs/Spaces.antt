-- No space is written: every byte of a box's text is above 32, the last of the spaces: digits, a point, a minus, commas and brackets. By the parts of the text.
-- Assumes nothing.
use mathlib.Core.Bool.{Bool, true, false, cond}
use mathlib.Core.List.{List, [], ◌∷◌, ◌++◌}
use Prim.Native.Nat.{ℕ, zero, suc, ◌+◌, ◌/◌, ◌%◌, ◌^◌, ◌<◌}
use native.Mathlib.Omega.{arith}
use lib.Dec.{eqb, ltb}
use lib.IntN.{ℤ, pos, negsuc}
use Rattle.entries.specs.Lists.{All}
use Rattle.text.specs.Text.{hex_digit, decimal_text}
use Rattle.bounds.specs.declared.bounds.Bounds.{Bounds}
use Rattle.bbox_text.specs.Text.{decimals, frac_text, size_text, number_text, element_text, text_of}

-- above the spaces
abbrev pub Over : ℕ → Type 0
Over c = 32 < c

over-append : (t u : List ℕ) → All Over t → All Over u → All Over (t ++ u)
over-append [] u h k = k
over-append (c ∷ t) u h k = (h.0, over-append t u h.1 k)

digit-over : (d : ℕ) → Over (hex_digit d)
unfolding hex_digit
digit-over d = go (ltb d 10)
  where
    go : (t : Bool) → Over (cond t (48 + d) (55 + d))
    go true = omega arith
    go false = omega arith

decimal-over : (n : ℕ) → All Over (decimal_text n)
unfolding decimal_text
decimal-over n = go (ltb n 10) (ltb n 100)
  where
    go : (t u : Bool) → All Over
        (cond t (hex_digit n ∷ []) (cond u (hex_digit (n / 10) ∷ (hex_digit (n % 10) ∷ [])) (hex_digit (n / 100) ∷ (hex_digit (n / 10 % 10) ∷ (hex_digit (n % 10) ∷ [])))))
    go true u = (digit-over n, tt)
    go false true = (digit-over (n / 10), (digit-over (n % 10), tt))
    go false false = (digit-over (n / 100), (digit-over (n / 10 % 10), (digit-over (n % 10), tt)))

decimals-over : (n f : ℕ) → All Over (decimals n f)
unfolding decimals
decimals-over zero f = tt
decimals-over (suc n) f = go (eqb f 0) (decimals-over n (f % 10 ^ n))
  where
    go : (t : Bool) → All Over (decimals n (f % 10 ^ n)) → All Over (cond t [] ((48 + f / 10 ^ n) ∷ decimals n (f % 10 ^ n)))
    go true h = tt
    go false h = (omega arith, h)

frac-over : (f : ℕ) → All Over (frac_text f)
unfolding frac_text
frac-over f = go (eqb f 0)
  where
    go : (t : Bool) → All Over (cond t [] (46 ∷ decimals 7 f))
    go true = tt
    go false = (omega arith, decimals-over 7 f)

size-over : (n : ℕ) → All Over (size_text n)
unfolding size_text
size-over n = over-append (decimal_text (n / 10000000)) (frac_text (n % 10000000)) (decimal-over (n / 10000000)) (frac-over (n % 10000000))

number-over : (z : ℤ) → All Over (number_text z)
unfolding number_text
number-over (pos n) = size-over n
number-over (negsuc n) = (omega arith, size-over (suc n))

element-over : (z : ℤ) (mark : ℕ) → Over mark → All Over (element_text z mark)
unfolding element_text
element-over z mark h = over-append (number_text z) (mark ∷ []) (number-over z) (h, tt)

comma-over : (z : ℤ) (t : List ℕ) → All Over t → All Over (element_text z 44 ++ t)
comma-over z t h = over-append (element_text z 44) t (element-over z 44 (omega arith)) h

pub text-over : (b : Bounds) → All Over (text_of b)
unfolding text_of
text-over b =
    let n : List ℕ = element_text b.north 93 in
    let e : List ℕ = element_text b.east 44 ++ n in
    let s : List ℕ = element_text b.south 44 ++ e in
    (omega arith, comma-over b.west s (comma-over b.south e (comma-over b.east n (element-over b.north 93 (omega arith)))))
