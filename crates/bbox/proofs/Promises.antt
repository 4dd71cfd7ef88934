-- What document 02 (T-01) promises of the text of a box, in its order and words, each as one theorem with all that it asks in its own signature. Each is a law of the
-- modules beside this one, or of the crates bounds and bbox_text. Assumes nothing.
use mathlib.Core.Path.{◌≡◌, refl, sym, ap, ◌∙◌, subst}
use mathlib.Core.Bool.{Bool, true, false, cond}
use mathlib.Core.List.{List, [], ◌∷◌}
use mathlib.Core.Logic.{◌↔◌}
use Prim.Native.Nat.{ℕ, ◌≤◌, ◌<◌}
use native.Mathlib.Omega.{arith}
use borrow.Author.Tests.{lt-leb, leb-false}
use lib.Dec.{leb}
use lib.ListN.{length}
use lib.IntN.{ℤ, pos, neg_ℤ, nat_abs}
use lib.Signed.{lt_z}
use Rattle.consts.specs.Refusal.{number, accepted, no_room, bad_text, bad_box}
use Rattle.entries.specs.Lists.{All}
use Rattle.text.specs.Answers.{Written}
use Rattle.text.specs.Answers.{refused_with, wrote, Stands}
use Rattle.bounds.specs.declared.bounds.Bounds.{Bounds}
use Rattle.bbox.specs.declared.reader.Answer.{Answer}
use Rattle.bbox.specs.Reading.{Numbers}
use Rattle.bbox_text.specs.Grammar.{Number, Array}
use Rattle.bounds.specs.Bounds.{HALF, in_limits, is_westmost, is_eastmost, whole_circle, seam_read, placed, givable}
use Rattle.bbox.specs.Reading.{four_of, zeros_under, read_of}
use Rattle.bbox_text.specs.Text.{number_text, text_of, wrote_box, left_box}
use Rattle.bbox.proofs.Exactly as exactly
use Rattle.bounds.proofs.Boxes as boxes
use Rattle.bounds.proofs.Boxes.{InLimits}
use Rattle.bbox.proofs.Given as given
use Rattle.bbox_text.proofs.Written as written
use Rattle.bbox_text.proofs.Fewest as fewest
use Rattle.bbox_text.proofs.Spaces as spaces
use Rattle.bbox_text.proofs.Room as room
use Rattle.bbox.proofs.Round as round
use Rattle.bbox_text.proofs.Answers as answers

-- ---- "a reader .. of that four-number array: optional minus, one to three digits without a needless leading zero, optional point with one to seven digits, no
-- exponent, JSON spaces when reading": the texts of the grammar, with their four numbers, and no other text
pub reads-arrays : (s : List ℕ) (b : Bounds) → Array s b ↔ (four_of s ≡ Numbers b)
reads-arrays s b = (exactly.accepted s b, exactly.only-arrays s b)

-- no text has two meanings
pub one-meaning : (s : List ℕ) (b c : Bounds) → Array s b → Array s c → b ≡ c
one-meaning s b c x y = exactly.one-meaning s b c x y

-- ---- "A box is held as whole ten-millionths of a degree, checked to be within 180 and 90 with south not above north"
pub box_read : (s : List ℕ) (b : Bounds) → Array s b → in_limits b ≡ true → read_of s ≡ record { refusal = number accepted; value = placed b }
box_read s b x h = exactly.read-array s b x ∙ simp h

pub within-180-and-90 : (b : Bounds) → in_limits b ≡ true → InLimits b
within-180-and-90 b h = boxes.limits b h

-- ---- "Only -180 with 180 is the whole circle; every other -180 is read as 180"
pub whole-circle-stays : (b : Bounds) → whole_circle b ≡ true → placed b ≡ b
unfolding placed
whole-circle-stays b h = simp h

pub every-other-180 : (b : Bounds) → whole_circle b ≡ false → placed b ≡ record { west = seam_read b.west; south = b.south; east = seam_read b.east; north = b.north }
unfolding placed
every-other-180 b h = simp h

-- within the limits the tests tell -180 and 180
pub is-180 : (b : Bounds) → in_limits b ≡ true
    → (is_westmost b.west ≡ true → b.west ≡ neg_ℤ (pos HALF)) × (is_westmost b.east ≡ true → b.east ≡ neg_ℤ (pos HALF)) × (is_eastmost b.east ≡ true → b.east ≡ pos HALF)
is-180 b h = let l = boxes.limits b h in (boxes.westmost b.west l.west, boxes.westmost b.east l.east, boxes.eastmost b.east l.east)

-- the boxes that reading gives are those, and each of them is given, for its own text
pub gives-exactly : (b : Bounds) → (givable b ≡ true) ↔ ((s : List ℕ) × (read_of s ≡ record { refusal = number accepted; value = b }))
gives-exactly b = ((λ h. (text_of b, round.round_trip b h)), back)
  where
    back : (s : List ℕ) × (read_of s ≡ record { refusal = number accepted; value = b }) → givable b ≡ true
    back (s, e) = subst (λ (a : Answer). givable a.value ≡ true) e (given.reads-given s (ap (λ (a : Answer). a.refusal) e))

-- ---- "The writer uses the fewest digits, no spaces": the text is one of the grammar, and no text that reads as the box is shorter, nor one of any of its numbers
pub written-array : (b : Bounds) → givable b ≡ true → Array (text_of b) b
written-array b h = written.array_written b h

pub fewest-bytes : (s : List ℕ) → (read_of s).refusal ≡ number accepted → length (text_of (read_of s).value) ≤ length s
fewest-bytes s h = round.fewest s h

pub fewest-digits : (t : List ℕ) (z : ℤ) → Number t z → length (number_text z) ≤ length t
fewest-digits t z n = fewest.fewest-number t z n

-- each byte is above 32, the last of the spaces
pub no-spaces : (b : Bounds) → All (λ c. 32 < c) (text_of b)
no-spaces b = spaces.text-over b

-- "and never "-0""
pub never-minus-zero : (z : ℤ) → nat_abs z < 10000000000 → number_text z ≡ 45 ∷ (48 ∷ []) → ⊥
never-minus-zero z h e = written.no-minus-zero z h e

pub minus-below-zero : (z : ℤ) (t : List ℕ) → number_text z ≡ 45 ∷ t → lt_z z (pos 0) ≡ true
minus-below-zero z t e = written.minus-below z t e

-- ---- "Reading what was written gives the same box, proved"
pub same-box-again : (b : Bounds) → givable b ≡ true → read_of (text_of b) ≡ record { refusal = number accepted; value = b }
same-box-again b h = round.round_trip b h

-- ---- "Refusals: 8 for bad text": exactly where the text is no array
pub bad-text : (s : List ℕ) → ((read_of s).refusal ≡ number bad_text) ↔ ((b : Bounds) → Array s b → ⊥)
bad-text s = (exactly.bad-text-only s, (λ h. ap (λ (a : Answer). a.refusal) (exactly.bad-text s h)))

-- "then 9 for a number out of range, south above north"
pub bad-box : (s : List ℕ) (b : Bounds) → Array s b → ((read_of s).refusal ≡ number bad_box) ↔ (in_limits b ≡ false)
bad-box s b x = ((λ h. go (in_limits b) (sym e ∙ h)), (λ h. e ∙ ap (λ (t : Bool). (answer t).refusal) h))
  where
    answer : Bool → Answer
    answer t = cond t (record { refusal = number accepted; value = placed b }) (zeros_under (number bad_box))

    e : (read_of s).refusal ≡ (answer (in_limits b)).refusal
    e = ap (λ (a : Answer). a.refusal) (exactly.read-array s b x)

    go : (t : Bool) → (answer t).refusal ≡ number bad_box → t ≡ false
    go true e = absurd (omega arith)
    go false e = refl

-- "or, for the writer, a box that reading cannot give, then 6 for too short an output text"
abbrev answer_of : Bool → Bool → ℕ → Written
answer_of g f n = cond g (cond f (record { refusal = number accepted; count = n }) (refused_with (number no_room))) (refused_with (number bad_box))

nine : (g f : Bool) (n : ℕ) → (answer_of g f n).refusal ≡ number bad_box → g ≡ false
nine true true n e = absurd (omega arith)
nine true false n e = absurd (omega arith)
nine false f n e = refl

six : (g f : Bool) (n : ℕ) → (answer_of g f n).refusal ≡ number no_room → (g ≡ true) × (f ≡ false)
six true true n e = absurd (omega arith)
six true false n e = (refl, refl)
six false f n e = absurd (omega arith)

pub cannot-give : (b : Bounds) (space : ℕ) → ((wrote_box b space).refusal ≡ number bad_box) ↔ (givable b ≡ false)
unfolding wrote_box wrote
cannot-give b space = ((λ h. nine (givable b) (leb (length (text_of b)) space) (length (text_of b)) h), (λ h. rw h refl))

pub too_short : (b : Bounds) (space : ℕ) → ((wrote_box b space).refusal ≡ number no_room) ↔ ((givable b ≡ true) × (space < length (text_of b)))
unfolding wrote_box wrote
too_short b space = (there, (λ h. rw (h.0, lt-leb (length (text_of b)) space h.1) refl))
  where
    there : (answer_of (givable b) (leb (length (text_of b)) space) (length (text_of b))).refusal ≡ number no_room → (givable b ≡ true) × (space < length (text_of b))
    there h = let s = six (givable b) (leb (length (text_of b)) space) (length (text_of b)) h in (s.0, leb-false (length (text_of b)) space s.1)

-- 51 bytes are always enough, and no fewer
pub room-for-box : (b : Bounds) (space : ℕ) → givable b ≡ true → 51 ≤ space → wrote_box b space ≡ record { refusal = number accepted; count = length (text_of b) }
room-for-box b space g h = answers.enough b space g h

pub longest-text : (b : Bounds) × (givable b ≡ true) × (length (text_of b) ≡ 51)
longest-text = (room.long, room.long-given, room.long-room)

-- ---- "a refused reading answers four zeros, a refused writing writes nothing"; an accepted writing leaves the text, and every byte after it as it was
pub four-zeros : (s : List ℕ) → ((read_of s).refusal ≡ 0 → ⊥) → read_of s ≡ zeros_under (read_of s).refusal
four-zeros s h = given.zeros s h

pub writes_nothing : (b : Bounds) (out : List ℕ) → ((wrote_box b (length out)).refusal ≡ 0 → ⊥) → left_box b out ≡ out
writes_nothing b out h = answers.box-unaltered b out h

pub box-stands : (b : Bounds) (out : List ℕ) → (wrote_box b (length out)).refusal ≡ 0 → Stands (text_of b) (wrote_box b (length out)) out (left_box b out)
box-stands b out h = answers.box-stands b out h
