-- `lists::rects::first_refused`: the loop keeps that the entries so far are accepted; what a turn comes to is told by the crate entries (FirstLaws.antt). Assumes nothing.
use mathlib.Core.Path.{◌≡◌}
use Prim.Native.Nat.{◌/◌}
use lib.ListN.{length, take}
use Rattle.entries.specs.Lists.{All}
use Rattle.lists.specs.Rects.{rects_of}
use Rattle.lists.specs.Refused.{of_rect}
use Rattle.entries.proofs.FirstLaws.{Good}
use Rattle.lists.proofs.rects.first_refused.Given as goal

-- all entries before this one are accepted
abbrev pub invariant-loop-entry : goal.invariant-loop-entry
invariant-loop-entry l = All (Good of_rect) (take l.entry (rects_of l.list)) × (l.n ≡ length l.list / 4)
