-- Worked examples of writing, computed from the definitions that the contract cites. Assumes nothing.
use mathlib.Core.Path.{◌≡◌, refl}
use mathlib.Core.List.{[], ◌∷◌}
use lib.IntN.{ℤ, pos, neg_ℤ}
use Rattle.text.specs.Text.{hex_digit, decimal_text}
use Rattle.bounds.specs.declared.bounds.Bounds.{Bounds}
use Rattle.bbox_text.specs.Text.{decimals, frac_text, size_text, number_text, element_text, text_of}

-- west, south, east and north in ten-millionths of a degree
abbrev box : ℤ → ℤ → ℤ → ℤ → Bounds
box w s e n = record { west = w; south = s; east = e; north = n }

-- `[-180,-0.0000001,180,90]`
pub paper-text : text_of (box (neg_ℤ (pos 1800000000)) (neg_ℤ (pos 1)) (pos 1800000000) (pos 900000000))
    ≡ (91 ∷ (45 ∷ (49 ∷ (56 ∷ (48 ∷ (44
    ∷ (45 ∷ (48 ∷ (46 ∷ (48 ∷ (48 ∷ (48 ∷ (48 ∷ (48 ∷ (48 ∷ (49 ∷ (44
    ∷ (49 ∷ (56 ∷ (48 ∷ (44 ∷ (57 ∷ (48 ∷ (93 ∷ []))))))))))))))))))))))))
unfolding text_of element_text number_text size_text frac_text decimals decimal_text hex_digit
paper-text = refl

-- `[0,10.5,99.05,10.5]`
pub zeros-left-out : text_of (box (pos 0) (pos 105000000) (pos 990500000) (pos 105000000))
    ≡ (91 ∷ (48 ∷ (44 ∷ (49 ∷ (48 ∷ (46 ∷ (53 ∷ (44
    ∷ (57 ∷ (57 ∷ (46 ∷ (48 ∷ (53 ∷ (44 ∷ (49 ∷ (48 ∷ (46 ∷ (53 ∷ (93 ∷ [])))))))))))))))))))
unfolding text_of element_text number_text size_text frac_text decimals decimal_text hex_digit
zeros-left-out = refl
