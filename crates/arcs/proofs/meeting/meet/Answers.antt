-- `arcs::meeting::meet`: without room nothing is done; where x does not rise there is nothing in common; and what is left of x by arcs that have been read, in
-- whatever order, is what they have in common (proofs/Rising.antt). Assumes nothing.
use mathlib.Core.Path.{◌≡◌, refl, sym, ap, ◌∙◌}
use mathlib.Core.Bool.{Bool, true, false, cond, ◌&&◌, false≢true}
use mathlib.Core.List.{List, [], ◌∷◌}
use native.Mathlib.Omega.{arith}
use lib.Ieee.{le}
use Rattle.order.proofs.Ranks.{and_l, and_r}
use Rattle.s1.specs.declared.interval.Interval.{Interval}
use Rattle.arcs.specs.Clipping.{common}
use Rattle.arcs.specs.Kinds.{rises, met}
use Rattle.arcs.proofs.Turns.{room_of}
use Rattle.arcs.proofs.Rising.{left-common}
use Rattle.arcs.proofs.meeting.meet.Goals as goal

-- ---- what is met, by whether x rises
met-none : (x : Interval) (l : List Interval) → le x.lo x.hi ≡ false → [] ≡ met x l
unfolding met rises
met-none x l e = sym (ap (λ (t : Bool). cond t (common (x ∷ l)) []) e)

met_some : (x : Interval) (l p : List Interval) → rises x ≡ true → p ≡ common (x ∷ l) → p ≡ met x l
unfolding met
met_some x l p e h = h ∙ sym (ap (λ (t : Bool). cond t (common (x ∷ l)) []) e)

rises-as : (x : Interval) → le x.lo x.hi ≡ true → rises x ≡ true
unfolding rises
rises-as x h = h

-- nothing is found without room, or where x does not rise
none_found : (a b : Bool) → a && b ≡ false → a ≡ true → b ≡ false
none_found a b h e = sym (ap (λ (t : Bool). t && b) e) ∙ h

pub meet_in-requires : goal.meet_in-requires
meet_in-requires c =
    room_of c.args.arcs.now c.args.pieces.now (sym c.has_room.ensures ∙ and_l c.has_room.result _ c.if-has_room-x.true)

pub returns-then-has_room-x : goal.returns-then-has_room-x
returns-then-has_room-x c =
    let w = c.args in
    let t = c.if-has_room-x.true in
    let yes = sym c.has_room.ensures ∙ and_l c.has_room.result _ t in
    let up = rises-as w.x (and_r c.has_room.result (le w.x.lo w.x.hi) t) in
    let m = c.meet_in.ensures in
    let arcs = w.arcs.now in
    record {
      found = λ h a. met_some w.x arcs _ up (m.is ∙ left-common w.x arcs m.others up (a up) m.permuted);
      few = λ h. m.few;
      none = λ h. absurd (false≢true (sym h ∙ yes));
    }

pub returns : goal.returns
returns c =
    let w = c.args in
    let e = c.has_room.ensures in
    record {
      found = λ h a. met-none w.x w.arcs.now (none_found c.has_room.result (le w.x.lo w.x.hi) c.if-has_room-x.false (e ∙ h));
      few = λ h. omega arith;
      none = λ h. (refl, refl, refl);
    }
