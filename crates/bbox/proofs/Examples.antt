-- Worked examples of reading, computed from the definitions that the contract cites. Assumes nothing.
use mathlib.Core.Path.{◌≡◌, refl}
use mathlib.Core.List.{[], ◌∷◌}
use lib.IntN.{ℤ, pos, neg_ℤ}
use Rattle.bounds.specs.declared.bounds.Bounds.{Bounds}
use Rattle.bbox.specs.declared.reader.Answer.{Answer}
use Rattle.bounds.specs.Bounds.{within, in_limits, is_westmost, is_eastmost, whole_circle, seam_read, placed}
use Rattle.bbox_text.specs.Grammar.{is_digit, is_space, signed}
use Rattle.bbox.specs.Reading.{turn_of, turns_of, whole_of, got_of, fraction_of, point_of, magnitude_of, number_of}
use Rattle.bbox.specs.Reading.{skip_of, spaces_of, mark_of, element_of, then_of, four_of, zeros_under, judged_of, read_of}

-- west, south, east and north in ten-millionths of a degree
abbrev box : ℤ → ℤ → ℤ → ℤ → Bounds
box w s e n = record { west = w; south = s; east = e; north = n }

abbrev accepted : Bounds → Answer
accepted b = record { refusal = 0; value = b }

-- `[ -180,-90,180,90.0 ]`: the whole sphere
pub whole-sphere : read_of (91 ∷ (32 ∷ (45 ∷ (49 ∷ (56 ∷ (48 ∷ (44 ∷ (45 ∷ (57 ∷ (48 ∷ (44 ∷ (49 ∷ (56 ∷ (48 ∷ (44 ∷ (57 ∷ (48 ∷ (46 ∷ (48 ∷ (32 ∷ (93 ∷ [])))))))))))))))))))))
    ≡ accepted (box (neg_ℤ (pos 1800000000)) (neg_ℤ (pos 900000000)) (pos 1800000000) (pos 900000000))
unfolding read_of judged_of four_of then_of element_of mark_of spaces_of skip_of is_space number_of magnitude_of point_of
    fraction_of got_of signed whole_of turns_of turn_of is_digit in_limits within whole_circle is_westmost is_eastmost seam_read placed
whole-sphere = refl

-- `[180,0,-180,1]`: one meridian
pub seam-alone : read_of (91 ∷ (49 ∷ (56 ∷ (48 ∷ (44 ∷ (48 ∷ (44 ∷ (45 ∷ (49 ∷ (56 ∷ (48 ∷ (44 ∷ (49 ∷ (93 ∷ []))))))))))))))
    ≡ accepted (box (pos 1800000000) (pos 0) (pos 1800000000) (pos 10000000))
unfolding read_of judged_of four_of then_of element_of mark_of spaces_of skip_of is_space number_of magnitude_of point_of
    fraction_of got_of signed whole_of turns_of turn_of is_digit in_limits within whole_circle is_westmost is_eastmost seam_read placed
seam-alone = refl

-- `[-180,-0,1.5,-0.0]`: -180 read as 180, minus zero as zero
pub minus-zero : read_of (91 ∷ (45 ∷ (49 ∷ (56 ∷ (48 ∷ (44 ∷ (45 ∷ (48 ∷ (44 ∷ (49 ∷ (46 ∷ (53 ∷ (44 ∷ (45 ∷ (48 ∷ (46 ∷ (48 ∷ (93 ∷ []))))))))))))))))))
    ≡ accepted (box (pos 1800000000) (pos 0) (pos 15000000) (pos 0))
unfolding read_of judged_of four_of then_of element_of mark_of spaces_of skip_of is_space number_of magnitude_of point_of
    fraction_of got_of signed whole_of turns_of turn_of is_digit in_limits within whole_circle is_westmost is_eastmost seam_read placed
minus-zero = refl

-- `[0.0000001,-0.0000001,0,0]`
pub smallest : read_of (91 ∷ (48 ∷ (46 ∷ (48 ∷ (48 ∷ (48 ∷ (48 ∷ (48 ∷ (48 ∷ (49 ∷ (44 ∷ (45 ∷ (48 ∷ (46 ∷ (48 ∷ (48 ∷ (48 ∷ (48 ∷ (48 ∷ (48 ∷ (49
    ∷ (44 ∷ (48 ∷ (44 ∷ (48 ∷ (93 ∷ []))))))))))))))))))))))))))
    ≡ accepted (box (pos 1) (neg_ℤ (pos 1)) (pos 0) (pos 0))
unfolding read_of judged_of four_of then_of element_of mark_of spaces_of skip_of is_space number_of magnitude_of point_of
    fraction_of got_of signed whole_of turns_of turn_of is_digit in_limits within whole_circle is_westmost is_eastmost seam_read placed
smallest = refl

-- `[00,0,0,0]`
pub leading-zero : read_of (91 ∷ (48 ∷ (48 ∷ (44 ∷ (48 ∷ (44 ∷ (48 ∷ (44 ∷ (48 ∷ (93 ∷ [])))))))))) ≡ zeros_under 8
unfolding read_of judged_of four_of then_of element_of mark_of spaces_of skip_of is_space number_of magnitude_of point_of
    fraction_of got_of signed whole_of turns_of turn_of is_digit in_limits within whole_circle is_westmost is_eastmost seam_read placed
leading-zero = refl

-- `[0.00000000,0,0,0]`
pub eighth-decimal : read_of (91 ∷ (48 ∷ (46 ∷ (48 ∷ (48 ∷ (48 ∷ (48 ∷ (48 ∷ (48 ∷ (48 ∷ (48 ∷ (44 ∷ (48 ∷ (44 ∷ (48 ∷ (44 ∷ (48 ∷ (93 ∷ []))))))))))))))))))
    ≡ zeros_under 8
unfolding read_of judged_of four_of then_of element_of mark_of spaces_of skip_of is_space number_of magnitude_of point_of
    fraction_of got_of signed whole_of turns_of turn_of is_digit in_limits within whole_circle is_westmost is_eastmost seam_read placed
eighth-decimal = refl

-- `[181,0,0,0`: out of range, but no array
pub bad-text-first : read_of (91 ∷ (49 ∷ (56 ∷ (49 ∷ (44 ∷ (48 ∷ (44 ∷ (48 ∷ (44 ∷ (48 ∷ [])))))))))) ≡ zeros_under 8
unfolding read_of judged_of four_of then_of element_of mark_of spaces_of skip_of is_space number_of magnitude_of point_of
    fraction_of got_of signed whole_of turns_of turn_of is_digit in_limits within whole_circle is_westmost is_eastmost seam_read placed
bad-text-first = refl

-- `[180.0000001,0,0,0]`
pub out_of_range : read_of (91 ∷ (49 ∷ (56 ∷ (48 ∷ (46 ∷ (48 ∷ (48 ∷ (48 ∷ (48 ∷ (48 ∷ (48 ∷ (49 ∷ (44 ∷ (48 ∷ (44 ∷ (48 ∷ (44 ∷ (48 ∷ (93 ∷ [])))))))))))))))))))
    ≡ zeros_under 9
unfolding read_of judged_of four_of then_of element_of mark_of spaces_of skip_of is_space number_of magnitude_of point_of
    fraction_of got_of signed whole_of turns_of turn_of is_digit in_limits within whole_circle is_westmost is_eastmost seam_read placed
out_of_range = refl

-- `[0,1,0,0]`
pub south-above : read_of (91 ∷ (48 ∷ (44 ∷ (49 ∷ (44 ∷ (48 ∷ (44 ∷ (48 ∷ (93 ∷ []))))))))) ≡ zeros_under 9
unfolding read_of judged_of four_of then_of element_of mark_of spaces_of skip_of is_space number_of magnitude_of point_of
    fraction_of got_of signed whole_of turns_of turn_of is_digit in_limits within whole_circle is_westmost is_eastmost seam_read placed
south-above = refl
