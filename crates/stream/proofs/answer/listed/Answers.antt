-- `stream::answer::listed`: the list is accepted and its pieces fit (`listing`), so the text is that of the common region. Assumes nothing.
use mathlib.Core.Path.{◌≡◌, refl, sym, ap, ◌∙◌, subst}
use mathlib.Core.List.{List}
use Prim.Native.Nat.{ℕ, ◌*◌}
use native.Mathlib.Omega.{arith}
use lib.ListN.{length}
use lib.Seq.{length-take-le}
use lib.Ieee.{Float}
use Rattle.std.specs.Prelude.{Result, Ok}
use Rattle.entries.specs.declared.records.Fault.{Fault}
use Rattle.region.specs.Answers.{told_pieces, Promised}
use Rattle.region.proofs.Listings.{IsListed}
use Rattle.stream.specs.Inside.{Taken}
use Rattle.stream.proofs.Answers.{accepted-list, listing, wrote-listed, left-listed}
use Rattle.stream.proofs.answer.listed.Goals as goal

pub unwrap-n-requires : goal.unwrap-n-requires
unwrap-n-requires c = accepted-list _ _ c.common_region.result _ c.requires refl c.common_region.ensures

-- what is listed, of a result that is known
are : (l out o : List Float) (x : Result ℕ Fault) (n : ℕ) → Taken l → length out ≡ 2048 → Promised l out (told_pieces x) o → x ≡ Ok n → IsListed l n o
are l out o x n t e p is = listing l out (told_pieces (Ok n)) o t e (subst (λ (y : Result ℕ Fault). Promised l out (told_pieces y) o) is p)

pub overflow_mul-pieces : goal.overflow_mul-pieces
overflow_mul-pieces c =
    let i = are _ _ _ _ c.unwrap-n.result c.requires refl c.common_region.ensures c.unwrap-n.ensures in
    omega (arith, i.few)

pub slice_bounds-pieces-end : goal.slice_bounds-pieces-end
slice_bounds-pieces-end c =
    let i = are _ _ _ _ c.unwrap-n.result c.requires refl c.common_region.ensures c.unwrap-n.ensures in
    omega (arith, i.few, c.common_region.auto.out)

pub slice_bounds-write_pieces-end : goal.slice_bounds-write_pieces-end
slice_bounds-write_pieces-end c =
    let i = are _ _ _ _ c.unwrap-n.result c.requires refl c.common_region.ensures c.unwrap-n.ensures in
    sym (length-take-le (4 * c.unwrap-n.result) c.common_region.new.out (omega (arith, i.few, c.common_region.auto.out)))

pub returns-clause-value : goal.returns-clause-value
returns-clause-value c =
    let i = are _ _ _ _ c.unwrap-n.result c.requires refl c.common_region.ensures c.unwrap-n.ensures in
    c.write_pieces.ensures.value ∙ wrote-listed _ _ _ i _

pub returns-clause-out_after : goal.returns-clause-out_after
returns-clause-out_after c =
    let i = are _ _ _ _ c.unwrap-n.result c.requires refl c.common_region.ensures c.unwrap-n.ensures in
    c.write_pieces.ensures.out_after ∙ left-listed _ _ _ i _
