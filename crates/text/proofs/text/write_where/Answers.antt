-- `text::text::write_where`: the three texts, each right behind the one before it. Assumes nothing.
use mathlib.Core.Path.{◌≡◌, refl, ◌∙◌}
use mathlib.Core.List.{List, ◌++◌}
use Prim.Native.Nat.{ℕ, ◌+◌, ◌≤◌}
use native.Mathlib.Omega.{arith}
use borrow.Author.Tests.{lt-ltb}
use lib.ListN.{length}
use Rattle.text.specs.Text.{REFUSED, decimal_text, head_text, refused_where}
use Rattle.text.proofs.Answered.{left-fits}
use Rattle.text.proofs.Lengths.{length-head, length-where}
use Rattle.text.proofs.Puts.{onto_then}
use Rattle.text.proofs.text.write_where.Goals as goal

pub returns-clause-out_after : goal.returns-clause-out_after
returns-clause-out_after c =
    let o : List ℕ = c.args.out.now in
    let s : List ℕ = decimal_text c.args.n in
    let t : List ℕ = head_text c.args.words.now c.args.place in
    let u : List ℕ = refused_where c.args.words.now c.args.n c.args.place in
    let r : 8 + c.width-at.result + length c.args.words.now + c.width.result + 1 ≤ length o = c.in_ok-test_room.ensures.room in
    let h : length u ≤ length o = omega (arith, length-where c.args.words.now c.args.n c.args.place, c.width.ensures.value, c.width-at.ensures.value) in
    let e : length (REFUSED ++ s) ≡ 8 + c.width-at.result = omega (arith, c.width-at.ensures.value) in
    let f = onto_then 8 _ REFUSED s o _ _ refl (omega (arith, c.width-at.ensures.value)) c.put_text.ensures refl c.put_decimal.ensures in
    let g : 8 + c.width-at.result + length t ≤ length o = omega (arith, length-head c.args.words.now c.args.place, c.width.ensures.value) in
    simp (lt-ltb c.args.place 1000 c.if-place-ge1000.false)
    (onto_then _ _ (REFUSED ++ s) t o _ _ e g f refl c.put_head.ensures ∙ left-fits u o h)
