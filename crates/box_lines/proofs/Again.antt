-- What goes out reads back as the boxes that went out: no byte of a box's text is a newline (bbox_text), so each line ends where its text does, and a
-- text reads back as its box (bbox). So it is with every input that is written item by item (lists, Written.antt). Assumes nothing.
use mathlib.Core.Path.{◌≡◌, refl, ap, ◌∙◌}
use mathlib.Core.Bool.{false}
use mathlib.Core.List.{List, [], ◌∷◌, ◌++◌, append_assoc}
use Prim.Native.Nat.{ℕ, ◌≤◌, ◌<◌}
use native.Mathlib.Omega.{arith}
use borrow.Author.Tests.{ne_eqb}
use lib.Dec.{eqb}
use lib.ListN.{length, length-append}
use Rattle.entries.specs.Inputs.{Items}
use Rattle.entries.proofs.Written.{Reads, each, written}
use Rattle.entries.specs.Lists.{All}
use Rattle.bounds.specs.declared.bounds.Bounds.{Bounds}
use Rattle.bbox.specs.declared.reader.Answer.{Answer}
use Rattle.bbox.specs.Reading.{read_of}
use Rattle.bbox_text.specs.Text.{text_of}
use Rattle.bbox_text.proofs.Spaces.{Over, text-over}
use Rattle.bbox.proofs.Round.{round_trip}
use Rattle.box_lines.specs.Lines.{line_of, after_line, Boxes, LINES, to_lines, lines_of}
use Rattle.box_lines.specs.Answers.{Given, box_text, box_line, box_lines}
use Rattle.box_lines.proofs.Held.{some-boxes}

-- ---- such a text as a line
module _ (rest : List ℕ) where
  line-over : (t : List ℕ) → All Over t → line_of (t ++ (10 ∷ rest)) ≡ t
  unfolding line_of
  line-over [] h = refl
  line-over (c ∷ t) h =
      let f : eqb c 10 ≡ false = ne_eqb c 10 (λ e. omega (arith, h.0, e)) in
      simp f (ap (λ (u : List ℕ). c ∷ u) (line-over t h.1))

  after-over : (t : List ℕ) → All Over t → after_line (t ++ (10 ∷ rest)) ≡ rest
  unfolding after_line
  after-over [] h = refl
  after-over (c ∷ t) h =
      let f : eqb c 10 ≡ false = ne_eqb c 10 (λ e. omega (arith, h.0, e)) in
      simp f (after-over t h.1)

-- ---- lines of boxes
line-text : (b : Bounds) → Given b → (rest : List ℕ) → box_line b ++ rest ≡ text_of b ++ (10 ∷ rest)
unfolding box_line box_text
line-text b g rest = simp g (append_assoc (text_of b) (10 ∷ []) rest)

-- each line is read as its box, whatever follows
module _ (b : Bounds) (g : Given b) (rest : List ℕ) where
  some-line : 0 < length (box_line b ++ rest)
  some-line = omega (arith, ap length (line-text b g rest), length-append (text_of b) (10 ∷ rest))

  line_read : read_of (line_of (box_line b ++ rest)) ≡ record { refusal = 0; value = b }
  line_read = ap (λ (t : List ℕ). read_of (line_of t)) (line-text b g rest) ∙ ap read_of (line-over rest (text_of b) (text-over b)) ∙ round_trip b g

  line-number : (read_of (line_of (box_line b ++ rest))).refusal ≡ 0
  line-number = ap (λ (a : Answer). a.refusal) line_read

  line-box : (read_of (line_of (box_line b ++ rest))).value ≡ b
  line-box = ap (λ (a : Answer). a.value) line_read

  line-rest : after_line (box_line b ++ rest) ≡ rest
  line-rest = ap after_line (line-text b g rest) ∙ after-over rest (text_of b) (text-over b)

reads : Reads LINES Given box_line (λ (b : Bounds). b)
reads = record { some = some-line; number_is = line-number; item-is = line-box; rest-is = line-rest }

each-box : (l : List Bounds) → each (λ (b : Bounds). b) l ≡ l
each-box [] = refl
each-box (b ∷ l) = ap (λ (m : List Bounds). b ∷ m) (each-box l)

pub again : (l : List Bounds) → All Given l → 0 < length l → length l ≤ 512 → lines_of (box_lines l) ≡ Boxes l
unfolding lines_of box_lines
again l g p h =
    ap to_lines (written LINES Given box_line (λ (b : Bounds). b) reads l g h) ∙ ap (λ (m : List Bounds). to_lines (Items m)) (each-box l) ∙ some-boxes l p
