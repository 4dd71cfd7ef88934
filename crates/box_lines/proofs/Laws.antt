-- What the lines come to: no line is told only of an empty text; boxes are those of the lines, all of them, boxes that reading can give, at least one and at most
-- 512; a fault stands on the line that is told, and no line before it has one; too many lines are told only where none of the first 512 has a fault and there is
-- another. All from what an input comes to (lists, Inputs.antt). What goes out for boxes is their common region, and reads back as it (Common.antt, Again.antt). Assumes nothing.
use mathlib.Core.Path.{◌≡◌, refl, sym, ap, ◌∙◌, subst}
use mathlib.Core.Logic.{◌⊎◌, inl, inr}
use mathlib.Core.Bool.{Bool, true, false, cond}
use mathlib.Core.List.{List, [], ◌∷◌}
use Prim.Native.Nat.{ℕ, zero, suc, ◌+◌, ◌≤◌, ◌<◌}
use native.Mathlib.Omega.{arith}
use borrow.Author.Tests.{eqb-true, eqb-false}
use lib.Dec.{eqb}
use lib.ListN.{length}
use Rattle.entries.specs.Inputs as inputs
use Rattle.entries.specs.Inputs.{Input, read_from, input_of}
use Rattle.entries.proofs.Inputs as reading
use Rattle.region.specs.CommonRegion.{CommonRegion}
use Rattle.consts.specs.Refusal.{number, bad_list, bad_text}
use Rattle.entries.specs.Lists.{All}
use Rattle.text.specs.Text.{refused_text}
use Rattle.bounds.specs.declared.bounds.Bounds.{Bounds}
use Rattle.bbox.specs.Reading.{read_of}
use Rattle.bbox.proofs.Given.{reads-given}
use Rattle.box_lines.specs.Lines.{line_of, after_line, Lines, NoLine, Boxes, Fault, TooMany, LINES, to_lines, lines_of}
use Rattle.box_lines.specs.Answers.{Given, rects, common_boxes, box_lines, answer_of, answer_text}
use Rattle.box_lines.proofs.Common.{all-given, common-boxes, at_most}
use Rattle.box_lines.proofs.Again.{again}

-- ---- the lines of a text, counted from 0: the text from the line i on, and that line; what the first n lines are read as
abbrev pub rest_at : ℕ → List ℕ → List ℕ
rest_at = reading.rest_at LINES

abbrev pub line_at : ℕ → List ℕ → List ℕ
line_at i s = line_of (rest_at i s)

abbrev pub boxes_at : ℕ → List ℕ → List Bounds
boxes_at = reading.items_at LINES

-- ---- what is told of a text
-- every line is a box
pub record Lined (s : List ℕ) (l : List Bounds) : Type 0 where
  pub given : All Given l
  pub some : 0 < length l
  pub few : length l ≤ 512
  pub are : l ≡ boxes_at (length l) s
  pub read : (i : ℕ) → i < length l → (read_of (line_at i s)).refusal ≡ 0
  pub ended : length (rest_at (length l) s) ≡ 0

-- the line that the refusal n and the number k, counted from 1, tell: it is there and is refused with n, and none before it is refused
pub record FirstFault (s : List ℕ) (n k : ℕ) : Type 0 where
  pub line : ℕ
  pub is : k ≡ line + 1
  pub few : line < 512
  pub there : 0 < length (rest_at line s)
  pub refuses : (read_of (line_at line s)).refusal ≡ n
  pub not-zero : n ≡ 0 → ⊥
  pub before : (i : ℕ) → i < line → (read_of (line_at i s)).refusal ≡ 0

-- 512 lines are boxes, and there is another
pub record Over (s : List ℕ) : Type 0 where
  pub read : (i : ℕ) → i < 512 → (read_of (line_at i s)).refusal ≡ 0
  pub there : 0 < length (rest_at 512 s)

abbrev Means : List ℕ → Lines → Type 0
Means s NoLine = s ≡ []
Means s (Boxes l) = Lined s l
Means s (Fault n k) = FirstFault s n k
Means s TooMany = Over s

given-items : (n : ℕ) (s : List ℕ) → ((i : ℕ) → i < n → reading.ReadAt LINES s i) → All Given (boxes_at n s)
given-items zero s h = tt
given-items (suc n) s h = (reads-given (line_of s) (h 0 (omega arith)).1, given-items n (after_line s) (λ i p. h (suc i) (omega (arith, p))))

no_bytes : (s : List ℕ) → length s ≡ 0 → s ≡ []
no_bytes [] e = refl
no_bytes (b ∷ s) e = absurd (omega arith)

module _ (s : List ℕ) where
  items-mean : (l : List Bounds) → 0 < length l → reading.AllItems LINES 512 s l → Lined s l
  items-mean l h a =
      record {
        given = subst (All Given) (sym a.are) (given-items (length l) s a.read);
        some = h;
        few = a.few;
        are = a.are;
        read = λ i p. (a.read i p).1;
        ended = a.ended;
      }

  fault-means : (n k : ℕ) → reading.FirstFault LINES 512 s n k → (t : Bool) → eqb k 512 ≡ t → Means s (cond t TooMany (Fault n (k + 1)))
  fault-means n k f true e =
      let z : k ≡ 512 = eqb-true k 512 e in
      record { read = λ i p. (f.before i (omega (arith, p, z))).1; there = subst (λ (j : ℕ). 0 < length (rest_at j s)) z f.there }
  fault-means n k f false e = go f.own
    where
      go : ((k < 512) × (n ≡ (read_of (line_at k s)).refusal) × (n ≡ 0 → ⊥)) ⊎ ((k ≡ 512) × (n ≡ number bad_list)) → FirstFault s n (k + 1)
      go (inl o) =
          record { line = k; is = refl; few = o.0; there = f.there; refuses = sym o.1; not-zero = o.2; before = λ i p. (f.before i p).1 }
      go (inr o) = absurd (eqb-false k 512 e o.0)

  means : (x : Input Bounds) → input_of LINES s ≡ x → Means s (to_lines x)
  means (inputs.Items []) e = no_bytes s (reading.all-items LINES s [] e).ended
  means (inputs.Items (b ∷ l)) e = items-mean (b ∷ l) (omega arith) (reading.all-items LINES s (b ∷ l) e)
  means (inputs.Fault n k) e = fault-means n k (reading.first-fault LINES s n k e) (eqb k 512) refl

from_first : (s : List ℕ) (r : Lines) → lines_of s ≡ r → Means s r
unfolding lines_of
from_first s r e = subst (Means s) e (means s (input_of LINES s) refl)

-- ---- no line
-- is told of the empty text alone
pub no_text : (s : List ℕ) → lines_of s ≡ NoLine → s ≡ []
no_text s e = from_first s NoLine e

-- ---- boxes
-- the boxes that were read are those of the lines, every one of them, boxes that reading can give, at most 512
pub lines-given : (s : List ℕ) (l : List Bounds) → lines_of s ≡ Boxes l → Lined s l
lines-given s l e = from_first s (Boxes l) e

-- and at least one: no answer but a refusal comes of no line
pub some-line : (s : List ℕ) (l : List Bounds) → lines_of s ≡ Boxes l → 0 < length l
some-line s l e = (lines-given s l e).some

-- ---- faults
-- the first fault is told
pub first-fault : (s : List ℕ) (n k : ℕ) → lines_of s ≡ Fault n k → FirstFault s n k
first-fault s n k e = from_first s (Fault n k) e

-- 512 lines have no fault, and there is a 513th
pub too_many : (s : List ℕ) → lines_of s ≡ TooMany → Over s
too_many s e = from_first s TooMany e

-- ---- what goes out
-- for boxes their common region, which reads back as it, if there is any
pub answer-boxes : (s : List ℕ) (l : List Bounds) → lines_of s ≡ Boxes l
    → (answer_text s ≡ box_lines (common_boxes l)) × CommonRegion (rects l) (rects (common_boxes l)) × (0 < length (common_boxes l) → lines_of (answer_text s) ≡ Boxes (common_boxes l))
unfolding answer_text answer_of
answer-boxes s l e =
    let r : Lined s l = lines-given s l e in
    let g = r.given in
    let a : answer_text s ≡ box_lines (common_boxes l) = ap answer_of e in
    (a, common-boxes l g, λ p. ap lines_of a ∙ again (common_boxes l) (all-given l g) p (omega (arith, r.few, at_most l g r.some)))

-- for no line `refused 8`, without a line's number
pub no_line : answer_text [] ≡ refused_text (number bad_text)
unfolding answer_text answer_of lines_of input_of read_from
no_line = refl
