-- `text::text::put_lines`: the line of a piece stands right behind those of the pieces before it. Assumes nothing.
use mathlib.Core.Path.{◌≡◌, refl, ap, ◌∙◌}
use mathlib.Core.List.{List, []}
use Prim.Native.Nat.{ℕ, ◌+◌, ◌*◌, ◌/◌, ◌≤◌, ◌<◌}
use native.Mathlib.Omega.{arith}
use lib.ListN.{length, take, drop, get_or, length-drop}
use lib.Seq.{length-take-le}
use lib.Ieee.{Float}
use Rattle.text.specs.Text.{lines_text}
use Rattle.text.specs.Inside.{onto}
use Rattle.text.proofs.Lengths.{length-lines}
use Rattle.text.proofs.Lines.{lines_more, piece-at}
use Rattle.text.proofs.Puts.{onto_then}
use Rattle.text.proofs.text.put_lines.Goals as goal

pub loop-i-preserved : goal.loop-i-preserved
loop-i-preserved c =
    let l : List Float = c.args.list.now in
    let o : List ℕ = c.args.out.now in
    let i : ℕ = c.loop-i.i in
    let s : List ℕ = lines_text (take (4 * i) l) in
    let t : List ℕ = lines_text (take 4 (drop (4 * i) l)) in
    let h : i < length l / 4 = omega (arith, c.as_chunks.ensures.front_len) in
    let e = ap (λ (x : List (List Float)). get_or x i []) c.as_chunks.ensures.front ∙ piece-at (length l / 4) i l h in
    let k : 4 * i + 4 ≤ length l = omega arith in
    let m : length (take (4 * i) l) ≡ 4 * i = length-take-le (4 * i) l (omega arith) in
    let n : length (take 4 (drop (4 * i) l)) ≡ 4 = length-take-le 4 (drop (4 * i) l) (simp length-drop (omega arith)) in
    let a : length s ≡ 68 * i = omega (arith, length-lines (take (4 * i) l)) in
    let b : 68 * i + length t ≤ length o = omega (arith, length-lines (take 4 (drop (4 * i) l))) in
    onto_then (68 * i) _ s t o _ _ a b c.loop-i.invariant refl (rw e at c.put_line.ensures)
    ∙ ap (λ (w : List ℕ). onto w o) (lines_more l i k)
