-- `lists::rects::first_refused`: a refused entry is the first, and where all are accepted none is told; by the crate entries (FirstLaws.antt). Assumes nothing.
use mathlib.Core.Path.{◌≡◌, refl, sym, ap, ◌∙◌}
use mathlib.Core.List.{List}
use Prim.Native.Nat.{ℕ, ◌*◌, ◌<◌}
use native.Mathlib.Omega.{arith}
use lib.Ieee.{Float}
use lib.ListN.{length, get_or}
use Rattle.consts.proofs.Codes.{refuses}
use Rattle.s2.specs.declared.rect.Rect.{Rect}
use Rattle.s2.specs.Reading.{read_one}
use Rattle.entries.proofs.FirstLaws.{one-passed, all-passed, one-stopped}
use Rattle.lists.specs.Rects.{rects_of, rect_at}
use Rattle.lists.specs.Refused.{of_rect}
use Rattle.lists.proofs.RectLists.{length-rects, rect-entry}
use Rattle.lists.proofs.rects.first_refused.Goals as goal

-- what was read at the entry k is that entry's own number
own : (l : List Float) (k n : ℕ) → n ≡ (read_one (rect_at l (4 * k))).refusal → (r : Rect) → k < length (rects_of l) → of_rect (get_or (rects_of l) k r) ≡ n
own l k n e r h = ap of_rect (rect-entry l k r h) ∙ sym e

pub returns-in-Err : goal.returns-in-Err
returns-in-Err c =
    let l = c.args.list.now in
    let k = c.loop-entry.entry in
    let more : k < length (rects_of l) = omega (arith, length-rects l, c.loop-entry-test.true, c.loop-entry.invariant.1) in
    sym (one-stopped of_rect (rects_of l) k _ more c.loop-entry.invariant.0 (λ r. own l k _ c.in-Err.ensures.refusal r more) (refuses c.in-Err.refusal))

pub loop-entry-preserved : goal.loop-entry-preserved
loop-entry-preserved c =
    let l = c.args.list.now in
    let k = c.loop-entry.entry in
    let more : k < length (rects_of l) = omega (arith, length-rects l, c.loop-entry-test.true, c.loop-entry.invariant.1) in
    (one-passed of_rect (rects_of l) k (rect_at l 0) more c.loop-entry.invariant.0 (own l k 0 c.in_default.ensures.refusal (rect_at l 0) more), refl)

pub returns : goal.returns
returns c =
    let l = c.args.list.now in
    sym (all-passed of_rect (rects_of l) c.loop-entry.entry (omega (arith, length-rects l, c.loop-entry-test.false)) c.loop-entry.invariant.0)
