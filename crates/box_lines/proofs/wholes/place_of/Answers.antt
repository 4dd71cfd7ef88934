-- `box_lines::wholes::place_of`: it looks in two parts, the one behind the other (`parted`). Assumes nothing.
use mathlib.Core.Path.{◌≡◌, refl, sym, ap, ◌∙◌}
use mathlib.Core.Bool.{Bool}
use mathlib.Core.List.{List, ◌++◌}
use Prim.Native.Nat.{ℕ}
use lib.ListN.{length}
use lib.Ieee.{Float}
use Rattle.std.specs.Prelude.{Option, Some, None}
use Rattle.std.specs.List.{position}
use Rattle.box_lines.proofs.Radians.{or_behind, parted}
use Rattle.box_lines.proofs.wholes.place_of.Goals as goal

-- the place in both parts is that in the whole
module _ (p : Float → Bool) (l xs ys : List Float) (e : l ≡ xs ++ ys) (r q : Option ℕ) (f : r ≡ position p xs) (g : q ≡ position p ys) where
  whole : or_behind (length xs) r q ≡ position p l
  whole =
      ap (λ (r : Option ℕ). or_behind (length xs) r q) f ∙ ap (or_behind (length xs) (position p xs)) g ∙ sym (parted p xs ys) ∙ ap (position p) (sym e)

pub returns-in-Some : goal.returns-in-Some
returns-in-Some c = whole _ _ _ _ c.split_at.ensures.by_index.0 (Some c.in-Some.i) _ (sym c.in-Some.is ∙ c.position_of.ensures) refl

pub returns-in_err-i : goal.returns-in_err-i
returns-in_err-i c =
    c.from_residual.ensures
    ∙ whole _ _ _ _ c.split_at.ensures.by_index.0 None None (sym c.in_default.is ∙ c.position_of.ensures) (sym c.in_err-i.was ∙ c.position_of-2.ensures)

pub returns : goal.returns
returns c =
    whole _ _ _ _ c.split_at.ensures.by_index.0 None (Some c.in_ok-i.i) (sym c.in_default.is ∙ c.position_of.ensures) (sym c.in_ok-i.was ∙ c.position_of-2.ensures)
