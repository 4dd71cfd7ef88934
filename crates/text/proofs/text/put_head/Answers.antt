-- `text::text::put_head`: the name, the decimal right behind it and the newline behind both. Assumes nothing.
use mathlib.Core.Path.{◌≡◌, refl, ap, ◌∙◌}
use mathlib.Core.List.{List, [], ◌∷◌, ◌++◌, append_assoc}
use Prim.Native.Nat.{ℕ, ◌+◌}
use native.Mathlib.Omega.{arith}
use lib.ListN.{length, length-append}
use Rattle.text.specs.Text.{decimal_text, head_text}
use Rattle.text.specs.Inside.{onto}
use Rattle.text.proofs.Puts.{onto_then, onto_byte}
use Rattle.text.proofs.text.put_head.Goals as goal

pub returns : goal.returns
unfolding head_text
returns c =
    let o : List ℕ = c.args.out.now in
    let s : List ℕ = c.args.name.now in
    let t : List ℕ = decimal_text c.args.n in
    let e : length (s ++ t) ≡ length s + c.width.result = simp length-append (omega (arith, c.width.ensures.value)) in
    let f = onto_then (length s) _ s t o _ _ refl (omega arith) c.put_text.ensures refl c.put_decimal.ensures in
    onto_byte _ 10 (s ++ t) o _ e (omega (arith, c.width.ensures.value)) f ∙ ap (λ (w : List ℕ). onto w o) (append_assoc s t (10 ∷ []))
