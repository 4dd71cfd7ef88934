-- `bbox_text::writer::put_number`: by the sign of the number (`number-below`, `number-above`). Assumes nothing.
use mathlib.Core.Path.{◌≡◌, sym, ap, ◌∙◌}
use mathlib.Core.Bool.{true, false}
use mathlib.Core.List.{List, ◌++◌, append_assoc}
use Prim.Native.Nat.{ℕ}
use native.Mathlib.Omega.{arith}
use lib.ListN.{length, length-append}
use lib.IntN.{ℤ, pos, nat_abs}
use lib.Signed.{lt_z}
use mir.Syntax.{w64}
use mir.ValLaws.{to_z-of_z}
use Rattle.bbox_text.specs.Text.{size_text, number_text}
use Rattle.bbox_text.proofs.Grown.{number-below, number-above}
use Rattle.bbox_text.proofs.Room.{number_fits}
use Rattle.bbox_text.proofs.writer.put_number.Goals.{then-minus, else-minus, After-unsigned_abs}
use Rattle.bbox_text.proofs.writer.put_number.Goals as goal

-- the number's size, and its sign
size-is : (c : After-unsigned_abs) → c.unsigned_abs.result ≡ nat_abs c.args.z
size-is c = c.unsigned_abs.ensures.value ∙ ap nat_abs (to_z-of_z w64 c.args.z c.ranges.z)

-- what is there and the size are the whole
joined : (c : After-unsigned_abs) → c.if-minus.t.items ++ size_text c.unsigned_abs.result ≡ c.args.t.now.items ++ number_text c.args.z
joined c =
    let z : ℤ = c.args.z in
    let e = to_z-of_z w64 z c.ranges.z in
    let s : List ℕ = c.args.t.now.items in
    rw (size-is c)
    (elim c.if-minus.branch [
      | then-minus w ↦
          let h : lt_z z (pos 0) ≡ true = ap (λ (k : ℤ). lt_z k (pos 0)) (sym e) ∙ w.if-minus.true in
          simp (w.t-is, w.push.ensures.items, append_assoc) (ap (λ (l : List ℕ). s ++ l) (number-below z h))
      | else-minus w ↦
          let h : lt_z z (pos 0) ≡ false = ap (λ (k : ℤ). lt_z k (pos 0)) (sym e) ∙ w.if-minus.false in
          simp w.t-is (ap (λ (l : List ℕ). s ++ l) (number-above z h))
    ])

pub push-requires : goal.push-requires
push-requires c = (omega arith, omega arith)

pub put_size-requires : goal.put_size-requires
put_size-requires c =
    let h = number_fits c.args.z c.requires.0 in
    (omega (arith, size-is c, c.requires.0), omega (arith, h, c.requires.1, simp length-append at (ap length (joined c))))

pub returns-clause-text : goal.returns-clause-text
returns-clause-text c = c.put_size.ensures ∙ joined (goal.at.returns-clause-text c).After-unsigned_abs

pub returns-clause-bound : goal.returns-clause-bound
returns-clause-bound c =
    let e = c.put_size.ensures ∙ joined (goal.at.returns-clause-bound c).After-unsigned_abs in
    omega (arith, number_fits c.args.z c.requires.0, simp length-append at (ap length e))
