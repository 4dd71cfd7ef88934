-- The text determines the pieces: two lists of whole pieces with the same text are the same list, number by number. The texts are cut where their parts
-- end, since parts of the same kind are equally long; equal digits are equal doubles. `fits` holds of every f64. Assumes nothing.
use mathlib.Core.Path.{◌≡◌, refl, sym, ap, ◌∙◌}
use mathlib.Core.Bool.{true}
use mathlib.Core.List.{List, [], ◌∷◌, ◌++◌}
use Prim.Native.Nat.{ℕ, zero, suc, ◌+◌, ◌*◌, ◌/◌, ◌%◌, ◌≤◌}
use native.Mathlib.Omega.{arith}
use lib.ListN.{length, take, drop, get_or, length-drop, drop_of_length-le}
use lib.Seq.{take_at, drop_at, get_or-drop}
use lib.Ieee.{Float, nan, binary64, fits}
use Rattle.text.specs.Text.{number_text, word_text, line_text, lines_text, head_text, PIECES, pieces_text}
use Rattle.entries.specs.Lists.{whole}
use Rattle.text.proofs.Lengths.{length-number, length-word, length-line, few-digits, length-pieces}
use Rattle.text.proofs.Lines.{four-at}
use Rattle.text.proofs.Digits.{same_number}
use Rattle.text.proofs.Answered.{whole_is}

-- every number of a list is an f64
abbrev pub Doubles : List Float → Type 0
Doubles l = (i : ℕ) → fits binary64 (get_or l i nan) ≡ true

-- two texts are cut at the same place
cut : (n : ℕ) (s t u v : List ℕ) → length s ≡ n → length u ≡ n → s ++ t ≡ u ++ v → (s ≡ u) × (t ≡ v)
cut n s t u v p q e =
    (sym (take_at s t n p) ∙ ap (take n) e ∙ take_at u v n q, sym (drop_at s t n p) ∙ ap (drop n) e ∙ drop_at u v n q)

same_word : (x y : Float) (m : ℕ) → fits binary64 x ≡ true → fits binary64 y ≡ true → word_text x m ≡ word_text y m → x ≡ y
unfolding word_text
same_word x y m h k e = same_number x y h k (cut 16 (number_text x) (m ∷ []) (number_text y) (m ∷ []) (length-number x) (length-number y) e).0

same-words : (x y : Float) (m : ℕ) (t u : List ℕ) → fits binary64 x ≡ true → fits binary64 y ≡ true → word_text x m ++ t ≡ word_text y m ++ u → (x ≡ y) × (t ≡ u)
same-words x y m t u h k e =
    let c : (word_text x m ≡ word_text y m) × (t ≡ u) = cut 17 (word_text x m) t (word_text y m) u (length-word x m) (length-word y m) e in
    (same_word x y m h k c.0, c.1)

same_line : (a b c d a' b' c' d' : Float) → fits binary64 a ≡ true → fits binary64 b ≡ true → fits binary64 c ≡ true → fits binary64 d ≡ true
    → fits binary64 a' ≡ true → fits binary64 b' ≡ true → fits binary64 c' ≡ true → fits binary64 d' ≡ true
    → line_text a b c d ≡ line_text a' b' c' d' → (a ≡ a') × (b ≡ b') × (c ≡ c') × (d ≡ d')
unfolding line_text
same_line a b c d a' b' c' d' fa fb fc fd fa' fb' fc' fd' e =
    let u : List ℕ = word_text c 32 ++ word_text d 10 in
    let u' : List ℕ = word_text c' 32 ++ word_text d' 10 in
    let p : (a ≡ a') × (word_text b 32 ++ u ≡ word_text b' 32 ++ u') = same-words a a' 32 (word_text b 32 ++ u) (word_text b' 32 ++ u') fa fa' e in
    let q : (b ≡ b') × (u ≡ u') = same-words b b' 32 u u' fb fb' p.1 in
    let r : (c ≡ c') × (word_text d 10 ≡ word_text d' 10) = same-words c c' 32 (word_text d 10) (word_text d' 10) fc fc' q.1 in
    (p.0, q.0, r.0, same_word d d' 10 fd fd' r.1)

-- a list of four numbers and more, and its text
first-line : (l : List Float) → 4 ≤ length l → lines_text l ≡ line_text (get_or l 0 nan) (get_or l 1 nan) (get_or l 2 nan) (get_or l 3 nan) ++ lines_text (drop 4 l)
unfolding lines_text
first-line l h = ap lines_text (four-at l 0 h)

after-four : (l : List Float) → Doubles l → Doubles (drop 4 l)
after-four l f i = rw (get_or-drop 4 l i nan) (f (4 + i))

same_lines : (k : ℕ) (l m : List Float) → length l ≡ 4 * k → length m ≡ 4 * k → Doubles l → Doubles m → lines_text l ≡ lines_text m → l ≡ m
same_lines zero l m p q f g e = drop_of_length-le l {i = 0} (omega arith) ∙ sym (drop_of_length-le m {i = 0} (omega arith))
same_lines (suc k) l m p q f g e =
    let x : ℕ → Float = λ i. get_or l i nan in
    let y : ℕ → Float = λ i. get_or m i nan in
    let h : 4 ≤ length l = omega arith in
    let j : 4 ≤ length m = omega arith in
    let c : (line_text (x 0) (x 1) (x 2) (x 3) ≡ line_text (y 0) (y 1) (y 2) (y 3)) × (lines_text (drop 4 l) ≡ lines_text (drop 4 m)) =
    cut 68 (line_text (x 0) (x 1) (x 2) (x 3)) (lines_text (drop 4 l)) (line_text (y 0) (y 1) (y 2) (y 3)) (lines_text (drop 4 m))
    (length-line (x 0) (x 1) (x 2) (x 3)) (length-line (y 0) (y 1) (y 2) (y 3))
    (sym (first-line l h) ∙ e ∙ first-line m j) in
    let s : (x 0 ≡ y 0) × (x 1 ≡ y 1) × (x 2 ≡ y 2) × (x 3 ≡ y 3) = same_line (x 0) (x 1) (x 2) (x 3) (y 0) (y 1) (y 2) (y 3) (f 0) (f 1) (f 2) (f 3) (g 0) (g 1) (g 2) (g 3) c.0 in
    let r : drop 4 l ≡ drop 4 m = same_lines k (drop 4 l) (drop 4 m) (length-drop 4 l ∙ omega arith) (length-drop 4 m ∙ omega arith) (after-four l f) (after-four m g) c.1 in
    four-at l 0 h ∙ ap (λ (v : Float). v ∷ (x 1 ∷ (x 2 ∷ (x 3 ∷ drop 4 l)))) s.0 ∙ ap (λ (v : Float). y 0 ∷ (v ∷ (x 2 ∷ (x 3 ∷ drop 4 l)))) s.1
    ∙ ap (λ (v : Float). y 0 ∷ (y 1 ∷ (v ∷ (x 3 ∷ drop 4 l)))) s.2 ∙ ap (λ (v : Float). y 0 ∷ (y 1 ∷ (y 2 ∷ (v ∷ drop 4 l)))) s.3
    ∙ ap (λ (v : List Float). y 0 ∷ (y 1 ∷ (y 2 ∷ (y 3 ∷ v)))) r ∙ sym (four-at m 0 j)

-- the counts of pieces are equal, since a line is longer than a count; then the first lines are, and the lines
pub same-pieces : (l m : List Float) → whole 4 512 l ≡ true → whole 4 512 m ≡ true → Doubles l → Doubles m → pieces_text l ≡ pieces_text m → l ≡ m
unfolding pieces_text
same-pieces l m w z f g e =
    let s : (length l % 4 ≡ 0) × (length l ≤ 2048) = whole_is l w in
    let t : (length m % 4 ≡ 0) × (length m ≤ 2048) = whole_is m z in
    let a : ℕ = length l / 4 in
    let b : ℕ = length m / 4 in
    let k : a ≡ b = omega (arith, ap length e, length-pieces l, length-pieces m, few-digits a, few-digits b) in
    let h : head_text PIECES b ++ lines_text l ≡ head_text PIECES b ++ lines_text m = ap (λ (n : ℕ). head_text PIECES n ++ lines_text l) (sym k) ∙ e in
    same_lines a l m (omega arith) (omega arith) f g (cut (length (head_text PIECES b)) (head_text PIECES b) (lines_text l) (head_text PIECES b) (lines_text m) refl refl h).1
