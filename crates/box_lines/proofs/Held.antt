-- What has been read of a text s when u is left of it: k boxes, whose whole numbers stand behind the globe's. One more line, a fault, one line too many and
-- the end are the turns of the input (lists, Inputs.antt). Assumes nothing.
use mathlib.Core.Path.{◌≡◌, refl, sym, ap, ◌∙◌, subst}
use mathlib.Core.List.{List, [], ◌∷◌, ◌++◌}
use Prim.Native.Nat.{ℕ, ◌+◌, ◌≤◌, ◌<◌}
use native.Mathlib.Omega.{arith}
use native.Mathlib.Nat.{not-suc-le-zero}
use borrow.Author.Tests.{eq-eqb, ne_eqb, true-eqb, eqb-false}
use mathlib.Core.Bool.{true, false}
use lib.Dec.{eqb}
use lib.ListN.{length, length-append}
use lib.IntN.{ℤ}
use Rattle.consts.specs.declared.refusal.Refusal.{Refusal}
use Rattle.consts.specs.Refusal.{code}
use Rattle.consts.proofs.Codes.{refuses}
use Rattle.entries.specs.Inputs as inputs
use Rattle.entries.proofs.Inputs as reading
use Rattle.entries.specs.Lists.{All}
use Rattle.bounds.specs.declared.bounds.Bounds.{Bounds}
use Rattle.bbox.specs.declared.reader.Answer.{Answer}
use Rattle.bbox.specs.Reading.{zeros_under, read_of}
use Rattle.bbox.proofs.Given.{reads-given}
use Rattle.box_lines.specs.Lines.{line_of, after_line, NoLine, Boxes, Fault, TooMany, LINES, to_lines, lines_of}
use Rattle.box_lines.specs.Answers.{GLOBE, Given, wholes}
use Rattle.box_lines.specs.Inside.{Gathered}
use Rattle.box_lines.proofs.Taken.{length-wholes}

pub record Held (s : List ℕ) (l : List ℤ) (u : List ℕ) (k : ℕ) : Type 0 where
  pub boxes : List Bounds
  pub rest : reading.Held LINES s boxes u
  pub many : length boxes ≡ k
  pub few : k ≤ 512
  pub given : All Given boxes
  pub are : l ≡ wholes (GLOBE ∷ boxes)
  -- before the first line the whole text is left
  pub first : k ≡ 0 → u ≡ s

-- ---- one box more
wholes-more : (l : List Bounds) (b : Bounds) → wholes l ++ wholes (b ∷ []) ≡ wholes (l ++ (b ∷ []))
unfolding wholes
wholes-more [] b = refl
wholes-more (a ∷ l) b = ap (λ (t : List ℤ). a.south ∷ (a.north ∷ (a.west ∷ (a.east ∷ t)))) (wholes-more l b)

all_more : (l : List Bounds) (b : Bounds) → All Given l → Given b → All Given (l ++ (b ∷ []))
all_more [] b h g = (g, tt)
all_more (a ∷ l) b h g = (h.0, all_more l b h.1 g)

-- ---- the first line, and the next
pub starts : (s : List ℕ) (l : List ℤ) (u : List ℕ) (k : ℕ) → l ≡ wholes (GLOBE ∷ []) → u ≡ s → k ≡ 0 → Held s l u k
starts s l u k e f z =
    record {
      boxes = [];
      rest = subst (reading.Held LINES s []) (sym f) (reading.starts LINES s);
      many = sym z;
      few = omega (arith, z);
      given = tt;
      are = e;
      first = λ _. f;
    }

pub no_line : (s : List ℕ) → true ≡ eqb (length s) 0 → lines_of s ≡ NoLine
unfolding lines_of
no_line s e = ap to_lines (reading.ends LINES s [] s (reading.starts LINES s) (true-eqb (length s) 0 e))

pub some-boxes : (l : List Bounds) → 0 < length l → to_lines (inputs.Items l) ≡ Boxes l
some-boxes [] h = absurd (not-suc-le-zero h)
some-boxes (b ∷ l) h = refl

module _ (s : List ℕ) (l : List ℤ) (u : List ℕ) (k : ℕ) (h : Held s l u k) where
  -- room for one more
  pub room : k < 512 → length l + 4 ≤ 2052
  room q = omega (arith, q, h.many, ap length h.are, length-wholes (GLOBE ∷ h.boxes))

  pub good : (b : Bounds) (m : List ℤ) (v : List ℕ) (j : ℕ) → 0 < length u → k < 512 → record { refusal = 0; value = b } ≡ read_of (line_of u)
      → m ≡ l ++ wholes (b ∷ []) → v ≡ after_line u → j ≡ k + 1 → Held s m v j
  good b m v j p q e f w i =
      let zero : (read_of (line_of u)).refusal ≡ 0 = ap (λ (a : Answer). a.refusal) (sym e) in
      let g : Given b = subst (λ (a : Answer). Given a.value) (sym e) (reads-given (line_of u) zero) in
      let n = reading.good LINES s h.boxes u h.rest (omega (arith, h.many, q)) p zero in
      record {
        boxes = h.boxes ++ (b ∷ []);
        rest = subst (reading.Held LINES s (h.boxes ++ (b ∷ []))) (sym w)
            (subst (λ (a : Answer). reading.Held LINES s (h.boxes ++ (a.value ∷ [])) (after_line u)) (sym e) n);
        many = length-append h.boxes (b ∷ []) ∙ ap (λ (n : ℕ). n + 1) h.many ∙ sym i;
        few = omega (arith, q, i);
        given = all_more h.boxes b h.given g;
        are = f ∙ ap (λ (t : List ℤ). t ++ wholes (b ∷ [])) h.are ∙ wholes-more (GLOBE ∷ h.boxes) b;
        first = λ z. absurd (omega (arith, z, i));
      }

  pub bad : (r : Refusal) → 0 < length u → k < 512 → zeros_under (code r) ≡ read_of (line_of u) → lines_of s ≡ Fault (code r) (k + 1)
  unfolding lines_of
  bad r p q e =
      let n : (read_of (line_of u)).refusal ≡ 0 → ⊥ = λ z. refuses r (ap (λ (a : Answer). a.refusal) e ∙ z) in
      ap to_lines (reading.bad LINES s h.boxes u h.rest (omega (arith, h.many, q)) p n)
      ∙ ap (λ (j : ℕ). to_lines (inputs.Fault (read_of (line_of u)).refusal j)) h.many
      ∙ simp (ne_eqb k 512 (λ z. omega (arith, z, q))) (ap (λ (a : Answer). Fault a.refusal (k + 1)) (sym e))

  pub over : 0 < length u → k ≡ 512 → lines_of s ≡ TooMany
  unfolding lines_of
  over p e = ap to_lines (reading.over LINES s h.boxes u h.rest (h.many ∙ e) p) ∙ simp (eq-eqb (length h.boxes) 512 (h.many ∙ e))

  -- nothing is left
  pub ends : eqb (length s) 0 ≡ false → length u ≡ 0 → Gathered s l
  unfolding lines_of
  ends p e =
      let some : k ≡ 0 → ⊥ = λ z. omega (arith, eqb-false (length s) 0 p, e, ap length (h.first z)) in
      record {
        boxes = h.boxes;
        read = ap to_lines (reading.ends LINES s h.boxes u h.rest e) ∙ some-boxes h.boxes (omega (arith, h.many, some));
        holds = record { given = h.given; few = omega (arith, h.many, h.few); are = h.are };
      }
