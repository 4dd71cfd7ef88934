-- The lines of a list of pieces, four numbers at a time. Assumes nothing.
use mathlib.Core.Path.{◌≡◌, refl, ap, ◌∙◌}
use mathlib.Core.List.{List, [], ◌∷◌, ◌++◌, append_assoc}
use Prim.Native.Nat.{ℕ, zero, suc, ◌+◌, ◌*◌, ◌≤◌, ◌<◌}
use native.Mathlib.Omega.{arith}
use lib.ListN.{length, take, drop, get_or}
use lib.Seq.{drop-cons, drop-drop}
use Rattle.std.proofs.Common.{append-nil}
use lib.Ieee.{Float, nan}
use Rattle.std.specs.Simd.{first_chunks}
use Rattle.text.specs.Text.{word_text, line_text, lines_text}

pub four-at : (l : List Float) (i : ℕ) → i + 4 ≤ length l
    → drop i l ≡ get_or l i nan ∷ (get_or l (i + 1) nan ∷ (get_or l (i + 2) nan ∷ (get_or l (i + 3) nan ∷ drop (i + 4) l)))
four-at l i h =
    let a : i + 1 ≡ suc i = omega arith in
    let b : i + 2 ≡ suc (suc i) = omega arith in
    let c : i + 3 ≡ suc (suc (suc i)) = omega arith in
    let d : i + 4 ≡ suc (suc (suc (suc i))) = omega arith in
    let p : i < length l = omega arith in
    let q : suc i < length l = omega arith in
    let r : suc (suc i) < length l = omega arith in
    let s : suc (suc (suc i)) < length l = omega arith in
    rw (a, b, c, d, drop-cons l i nan, drop-cons l (suc i) nan, drop-cons l (suc (suc i)) nan, drop-cons l (suc (suc (suc i))) nan)

-- one more line
pub lines_more : (l : List Float) (i : ℕ) → 4 * i + 4 ≤ length l
    → lines_text (take (4 * i) l) ++ lines_text (take 4 (drop (4 * i) l)) ≡ lines_text (take (4 * (i + 1)) l)
unfolding lines_text
lines_more l zero h = refl
lines_more [] (suc i) h = absurd (omega arith)
lines_more (a ∷ []) (suc i) h = absurd (omega arith)
lines_more (a ∷ (b ∷ [])) (suc i) h = absurd (omega arith)
lines_more (a ∷ (b ∷ (c ∷ []))) (suc i) h = absurd (omega arith)
lines_more (a ∷ (b ∷ (c ∷ (d ∷ l)))) (suc i) h =
    let e : 4 * suc i ≡ suc (suc (suc (suc (4 * i)))) = omega arith in
    let f : 4 * (suc i + 1) ≡ suc (suc (suc (suc (4 * (i + 1))))) = omega arith in
    simp (e, f, append_assoc) (ap (λ (t : List ℕ). line_text a b c d ++ t) (lines_more l i (omega arith)))

-- the one line of a piece
pub one_line : (l : List Float) → length l ≡ 4
    → lines_text l ≡ word_text (get_or l 0 nan) 32 ++ word_text (get_or l 1 nan) 32 ++ word_text (get_or l 2 nan) 32 ++ word_text (get_or l 3 nan) 10
unfolding lines_text line_text
one_line [] h = absurd (omega arith)
one_line (a ∷ []) h = absurd (omega arith)
one_line (a ∷ (b ∷ [])) h = absurd (omega arith)
one_line (a ∷ (b ∷ (c ∷ []))) h = absurd (omega arith)
one_line (a ∷ (b ∷ (c ∷ (d ∷ [])))) h = simp (append_assoc, append-nil)
one_line (a ∷ (b ∷ (c ∷ (d ∷ (e ∷ l))))) h = absurd (omega arith)

-- piece i of them
pub piece-at : (k i : ℕ) (l : List Float) → i < k → get_or (first_chunks 4 k l) i [] ≡ take 4 (drop (4 * i) l)
piece-at zero i l h = absurd (omega (arith, h))
piece-at (suc k) zero l h = refl
piece-at (suc k) (suc i) l h =
    let e : 4 + 4 * i ≡ 4 * suc i = omega arith in
    piece-at k i (drop 4 l) (omega (arith, h)) ∙ ap (take 4) (drop-drop (4 * i) 4 l ∙ ap (λ (n : ℕ). drop n l) e)
