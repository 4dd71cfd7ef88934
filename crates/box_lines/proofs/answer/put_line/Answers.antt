-- `box_lines::answer::put_line`: what the writer leaves in 51 bytes is the box's text (`text`), and the newline is behind it. Assumes nothing.
use Rattle.std.proofs.Common.{◌≡◌}
use mathlib.Core.Path.{refl, sym, ap, ◌∙◌}
use mathlib.Core.List.{List, [], ◌∷◌, ◌++◌, append_assoc}
use Prim.Native.Nat.{ℕ, ◌+◌, ◌≤◌}
use native.Mathlib.Omega.{arith}
use lib.ListN.{length, take}
use lib.Seq.{length-take-le}
use Rattle.box_lines.specs.Answers.{box_text, box_line}
use Rattle.box_lines.proofs.Lined.{counted, text, box-short, fitted}
use Rattle.box_lines.proofs.answer.put_line.Goals as goal

pub slice_bounds-line-end : goal.slice_bounds-line-end
slice_bounds-line-end c =
    let n = counted c.args.b _ refl c.write.result c.write.new.out c.write.ensures.value c.write.ensures.out_after in
    omega (arith, c.unwrap_or-n.ensures, n, box-short c.args.b, c.write.auto.out)

pub slice_bounds-try_extend_from_slice-end : goal.slice_bounds-try_extend_from_slice-end
slice_bounds-try_extend_from_slice-end c =
    let n = counted c.args.b _ refl c.write.result c.write.new.out c.write.ensures.value c.write.ensures.out_after in
    sym (length-take-le c.unwrap_or-n.result c.write.new.out (omega (arith, c.unwrap_or-n.ensures, n, box-short c.args.b, c.write.auto.out)))

pub returns-clause-items : goal.returns-clause-items
unfolding box_line
returns-clause-items c =
    let t : List ℕ = c.args.t.now.items in
    let e : take c.unwrap_or-n.result c.write.new.out ≡ box_text c.args.b =
    ap (λ (n : ℕ). take n c.write.new.out) c.unwrap_or-n.ensures ∙ text c.args.b _ refl c.write.result c.write.new.out c.write.ensures.value c.write.ensures.out_after in
    let x = c.try_extend_from_slice.ensures in
    let room : length t + length (take c.unwrap_or-n.result c.write.new.out) ≤ 26624 = omega (arith, c.requires, ap length e, box-short c.args.b) in
    c.push.ensures.items
    ∙ ap (λ (l : List ℕ). l ++ (10 ∷ [])) (fitted c.try_extend_from_slice.result x.ok (x.variant.1 room) ∙ ap (λ (l : List ℕ). t ++ l) e)
    ∙ append_assoc t (box_text c.args.b) (10 ∷ [])
