-- `arcs::meeting::meet_in`: what is left of the piece x once all arcs have clipped it: as they came where there are none or `try_few` got through them all,
-- else as they lie after `sort`. Assumes nothing.
use mathlib.Core.Path.{◌≡◌, refl, sym, ap, ◌∙◌}
use mathlib.Core.List.{List, [], ◌∷◌}
use native.Mathlib.Omega.{arith}
use lib.ListN.{length}
use borrow.Author.Tests.{eqb-true}
use Rattle.s1.specs.declared.interval.Interval.{Interval}
use Rattle.arcs.specs.Clipping.{steps}
use Rattle.sort.specs.Permutations.{same}
use Rattle.arcs.proofs.Turns.{first_one}
use Rattle.arcs.proofs.meeting.meet_in.Goals as goal

-- by no arcs, the piece is left
none-clips : (p arcs : List Interval) → length arcs ≡ 0 → p ≡ steps p arcs
unfolding steps
none-clips p [] h = refl
none-clips p (a ∷ arcs) h = absurd (omega arith)

pub returns-then-is_empty : goal.returns-then-is_empty
returns-then-is_empty c =
    let w = c.args in
    record {
      others = w.arcs.now;
      permuted = same;
      is = first_one w.pieces.now w.x (omega (arith, c.requires.holds)) ∙ none-clips (w.x ∷ []) w.arcs.now (eqb-true (length w.arcs.now) 0 (sym c.is_empty.ensures ∙ c.if-is_empty.true));
      few = omega arith;
    }

pub returns-in-Some : goal.returns-in-Some
returns-in-Some c =
    let w = c.args in
    let t = c.in-Some.ensures in
    record {
      others = w.arcs.now;
      permuted = same;
      is = t.is ∙ ap (λ (l : List Interval). steps l w.arcs.now) (first_one w.pieces.now w.x (omega (arith, c.requires.holds)));
      few = t.few;
    }
