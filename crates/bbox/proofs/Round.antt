-- Reading what was written gives the same box, and nothing shorter reads as that box. By the grammar: the written text is an array of it (bbox_text,
-- Written.antt), the reader accepts every array with its meaning (Exactly.antt), and no array of it is shorter (bbox_text, Fewest.antt). Assumes nothing.
use mathlib.Core.Path.{◌≡◌, sym, ap, ◌∙◌, subst}
use mathlib.Core.Bool.{true}
use mathlib.Core.List.{List}
use Prim.Native.Nat.{ℕ, ◌≤◌}
use native.Mathlib.Omega.{arith}
use lib.ListN.{length}
use Rattle.bounds.specs.declared.bounds.Bounds.{Bounds}
use Rattle.bbox.specs.declared.reader.Answer.{Answer}
use Rattle.bounds.specs.Bounds.{givable}
use Rattle.bbox.specs.Reading.{read_of}
use Rattle.bbox_text.specs.Text.{text_of}
use Rattle.bounds.proofs.Boxes.{given-limits, given-settled, settled-stays}
use Rattle.bbox.proofs.Exactly.{read-array}
use Rattle.bbox.proofs.Given.{Accepted, accepted-is}
use Rattle.bbox_text.proofs.Written.{array_written}
use Rattle.bbox_text.proofs.Fewest.{fewest-array, placed-short}

-- a box as an accepted reading
abbrev accepted : Bounds → Answer
accepted b = record { refusal = 0; value = b }

pub round_trip : (b : Bounds) → givable b ≡ true → read_of (text_of b) ≡ record { refusal = 0; value = b }
round_trip b h = simp (given-limits b h) at (read-array (text_of b) b (array_written b h)) ∙ ap accepted (settled-stays b (given-settled b h))

-- a text determines its box
pub same_text : (b c : Bounds) → givable b ≡ true → givable c ≡ true → text_of b ≡ text_of c → b ≡ c
same_text b c h k e = ap (λ (a : Answer). a.value) (sym (round_trip b h) ∙ ap read_of e ∙ round_trip c k)

-- no text that reads as a box is shorter than the text that is written for it
pub fewest : (s : List ℕ) → (read_of s).refusal ≡ 0 → length (text_of (read_of s).value) ≤ length s
fewest s h =
    let a : Accepted s = accepted-is s h in
    subst (λ (r : Answer). length (text_of r.value) ≤ length s) (sym a.is)
    (omega (arith, placed-short a.box a.limits, fewest-array s a.box a.array))
