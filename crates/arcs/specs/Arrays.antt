-- What `meet` answers, and what it leaves in the two arrays that it is lent: the arcs in one, room for the pieces in the other. Definitions only.
use Rattle.std.specs.Prelude.{◌≡◌, Bool, true, false, ◌&&◌, List, ◌∷◌, ℕ, ◌+◌, ◌≤◌, length, take, leb, ltb}
use Rattle.s1.specs.declared.interval.Interval.{Interval}
use Rattle.arcs.specs.CommonArcs.{AreRead}
use Rattle.arcs.specs.Kinds.{rises, met}

-- n arcs are at most 512, and there is room for more than one piece more than arcs
unfoldable pub room : ℕ → ℕ → Bool
room n pieces = leb n 512 && ltb (n + 1) pieces

-- what `meet` promises of its answer r, where the arrays are arcs and pieces before it, and arcs' and pieces' after it
pub record Met (arcs pieces : List Interval) (x : Interval) (r : ℕ) (arcs' pieces' : List Interval) : Type 0 where
  -- with room, of arcs that have been read, the first r are the common pieces
  pub found : room (length arcs) (length pieces) ≡ true → (rises x ≡ true → AreRead (x ∷ arcs)) → take r pieces' ≡ met x arcs
  pub few : room (length arcs) (length pieces) ≡ true → r ≤ length arcs + 1
  -- with none, nothing is found or altered
  pub none : room (length arcs) (length pieces) ≡ false → (r ≡ 0) × (arcs' ≡ arcs) × (pieces' ≡ pieces)
