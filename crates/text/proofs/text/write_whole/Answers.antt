-- `text::text::write_whole`: the lines stand right behind the first line. Assumes nothing.
use mathlib.Core.Path.{◌≡◌, refl, ◌∙◌}
use mathlib.Core.List.{List}
use Prim.Native.Nat.{ℕ, ◌+◌, ◌*◌, ◌/◌, ◌≤◌}
use native.Mathlib.Omega.{arith}
use lib.ListN.{length}
use lib.Ieee.{Float}
use Rattle.text.specs.Text.{lines_text, head_text, PIECES, pieces_text}
use Rattle.text.proofs.Answered.{left-fits}
use Rattle.text.proofs.Lengths.{length-head, length-lines, length-pieces}
use Rattle.text.proofs.Puts.{onto_then}
use Rattle.text.proofs.text.write_whole.Goals as goal

pub returns-clause-out_after : goal.returns-clause-out_after
unfolding pieces_text
returns-clause-out_after c =
    let l : List Float = c.args.list.now in
    let o : List ℕ = c.args.out.now in
    let t : List ℕ = head_text PIECES (length l / 4) in
    let e : length t ≡ 8 + c.width-head.result = omega (arith, length-head PIECES (length l / 4), c.width-head.ensures.value) in
    let r : 8 + c.width-head.result + 17 * length l ≤ length o = c.in_ok-test_room.ensures.room in
    let f : length (pieces_text l) ≤ length o = omega (arith, length-pieces l, c.width-head.ensures.value) in
    onto_then _ _ t (lines_text l) o _ _ e (omega (arith, length-lines l)) c.put_head.ensures refl c.put_lines.ensures ∙ left-fits (pieces_text l) o f
