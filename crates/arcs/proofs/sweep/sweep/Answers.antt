-- `arcs::sweep::sweep`: FULL is replaced by the first arc, which then is the piece to sweep (proofs/Lasts.antt). Assumes
-- nothing.
use mathlib.Core.Path.{◌≡◌, sym, ap, ◌∙◌}
use mathlib.Core.Bool.{true, not, ◌&&◌}
use mathlib.Core.List.{List, [], ◌∷◌}
use native.Mathlib.Omega.{arith}
use lib.ListN.{length, get_or}
use lib.Ieee.{nan, binary64, fits, lt}
use lib.Ieee.Bits.{is_true}
use Rattle.std.proofs.Common.{length-drop}
use Rattle.order.proofs.Ranks.{and_l, and_r}
use Rattle.consts.specs.Constants.{NEG-PI}
use Rattle.s1.specs.declared.interval.Interval.{Interval}
use Rattle.s1.specs.Circle.{ends}
use Rattle.arcs.specs.Clipping.{steps}
use Rattle.std.proofs.lemmas.Bool.{not-true}
use Rattle.arcs.proofs.Turns.{first_as, left_is, clipped-turn}
use Rattle.arcs.proofs.Lasts.{full-first}
use Rattle.arcs.proofs.sweep.sweep.Goals as goal

pub returns-then-is_full-a : goal.returns-then-is_full-a
returns-then-is_full-a c =
    let w = c.args in
    let a = get_or w.arcs.now 0 (ends nan nan) in
    let l = lt NEG-PI a.lo in
    let p = c.if-is_full-a.true in
    let q = and_l (c.is_full.result && l) (not c.is_empty.result) p in
    let d : fits binary64 a.lo ≡ true = search is_true in
    let e = full-first w.x a d (sym c.is_full.ensures ∙ and_l c.is_full.result l q) (and_r c.is_full.result l q)
    (sym c.is_empty.ensures ∙ not-true c.is_empty.result (and_r (c.is_full.result && l) (not c.is_empty.result) p)) in
    let r = left_is w.arcs.now 1 in
    first_as c.sweep_from-then-is_full-a.ensures (ap (λ (t : List Interval). steps (a ∷ []) t) r ∙ clipped-turn w.arcs.now 0 (ends nan nan) c.requires.some (w.x ∷ []) (a ∷ []) (sym e))
    (omega (arith, ap length r, length-drop 1 w.arcs.now))
