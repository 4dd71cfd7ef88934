-- `text::text::put_line`: the four words, each right behind the ones before it. Assumes nothing.
use mathlib.Core.Path.{◌≡◌, refl, sym, ap, ◌∙◌}
use mathlib.Core.List.{List, ◌++◌}
use Prim.Native.Nat.{ℕ}
use native.Mathlib.Omega.{arith}
use lib.ListN.{length, get_or, length-append}
use lib.Ieee.{Float, nan}
use Rattle.text.specs.Text.{word_text}
use Rattle.text.specs.Inside.{onto}
use Rattle.text.proofs.Lengths.{length-word}
use Rattle.text.proofs.Lines.{one_line}
use Rattle.text.proofs.Puts.{onto_then}
use Rattle.text.proofs.text.put_line.Goals as goal

pub returns : goal.returns
returns c =
    let o : List ℕ = c.args.out.now in
    let l : List Float = c.args.piece.now in
    let s : List ℕ = word_text (get_or l 0 nan) 32 in
    let t : List ℕ = word_text (get_or l 1 nan) 32 in
    let u : List ℕ = word_text (get_or l 2 nan) 32 in
    let v : List ℕ = word_text (get_or l 3 nan) 10 in
    let a : length s ≡ 17 = length-word (get_or l 0 nan) 32 in
    let b : length (s ++ t) ≡ 34 = simp length-append (omega (arith, a, length-word (get_or l 1 nan) 32)) in
    let d : length (s ++ t ++ u) ≡ 51 = simp length-append (omega (arith, a, length-word (get_or l 1 nan) 32, length-word (get_or l 2 nan) 32)) in
    let e = onto_then 17 _ s t o _ _ a (omega (arith, length-word (get_or l 1 nan) 32)) c.put_word.ensures refl c.put_word-2.ensures in
    let f = onto_then 34 _ (s ++ t) u o _ _ b (omega (arith, length-word (get_or l 2 nan) 32)) e refl c.put_word-3.ensures in
    onto_then 51 _ (s ++ t ++ u) v o _ _ d (omega (arith, length-word (get_or l 3 nan) 10)) f refl c.put_word-4.ensures
    ∙ ap (λ (w : List ℕ). onto w o) (sym (one_line l (omega arith)))
