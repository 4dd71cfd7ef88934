-- `arcs::clip::clip_rest`: the return where a piece starts with the arc, which proofs/Turns.antt has; what is left of the cut stands before the pieces that
-- were not lent to it. Assumes nothing.
use mathlib.Core.Path.{◌≡◌, sym, ap, ◌∙◌}
use mathlib.Core.Bool.{Bool, not, ◌&&◌, true}
use mathlib.Core.List.{List, ◌++◌}
use native.Mathlib.Omega.{arith}
use lib.ListN.{drop, take}
use Rattle.std.proofs.Common.{length-take}
use Rattle.std.proofs.lemmas.List.{take-append-le}
use Rattle.s1.specs.declared.interval.Interval.{Interval}
use Rattle.s1.specs.Circle.{ends}
use Rattle.arcs.specs.Clipping.{insert}
use Rattle.arcs.proofs.Turns.{clip-open, end-held}
use Rattle.arcs.proofs.clip.clip_rest.Goals as goal

pub returns : goal.returns
returns c =
    let w = c.args in
    let found : List Interval = take w.n w.pieces.now in
    let t = c.cut_all-c.ensures in
    let n = c.cut_all-c.result.n in
    let new = c.cut_all-c.new.found in
    let e : take n (new ++ drop w.n w.pieces.now) ≡ take n new = take-append-le n _ _ (omega (arith, t.few, c.cut_all-c.auto.found)) in
    let held = end-held w.a.lo w.a.hi c.in-Some.end found (sym c.in-Some.is ∙ t.end_is) in
    record {
      is = c.put.ensures.is ∙ ap (λ (l : List Interval). insert (ends w.a.lo c.sooner-hi.result) l) e
          ∙ clip-open found w.a c.is_empty.result _ c.is_empty.ensures (sym held.0) c.in-Some.end c.sooner-hi.result (take n new) held.1 t.is c.sooner-hi.ensures
          (ap (λ (e : Bool). not e && true) c.if-is_empty.false);
      few = omega (arith, c.put.ensures.few, t.few, length-take w.n w.pieces.now);
    }
