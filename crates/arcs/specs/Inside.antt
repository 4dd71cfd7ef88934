-- What the functions of this crate promise each other. Nothing here needs to be believed: it stands among the definitions only because a contract can cite
-- nothing else, and what it comes to is what `meet` promises (specs/Arrays.antt), which is proved from it. Definitions only; the laws are in proofs/.
use Rattle.std.specs.Prelude.{◌≡◌, Bool, true, false, ◌&&◌, cond, List, [], ◌∷◌, ◌++◌, Option, Some, None, ℕ, ◌+◌, ◌≤◌, ◌<◌, length, take, drop, Float}
use Rattle.std.specs.Float.{binary64}
use Rattle.std.specs.Float.Ieee.{fits, lt, le}
use Rattle.order.specs.Choice.{min, max}
use Rattle.consts.specs.Constants.{PI, NEG-PI}
use Rattle.s1.specs.declared.interval.Interval.{Interval}
use Rattle.s1.specs.Circle.{ends}
use Rattle.s1.specs.Places.{holds}
use Rattle.entries.specs.Lists.{All}
use Rattle.arcs.specs.declared.clip.Cut.{Cut}
use Rattle.arcs.specs.declared.sweep.Swept.{Swept}
use Rattle.arcs.specs.Clipping.{cut, steps}
use Rattle.sort.specs.Permutations.{Permuted}

-- ---- room for m pieces, and for one more with each arc: not too many to count
pub record Room (m : ℕ) (arcs pieces : List Interval) : Type 0 where
  pub most : m + length arcs ≤ 1000
  pub holds : m + length arcs < length pieces

-- ---- clipping
-- the eastern end of the last piece that holds s; o where none does
unfoldable pub end_found : Float → Option Float → List Interval → Option Float
end_found s o [] = o
end_found s o (x ∷ l) = end_found s (cond (holds x s false) (Some x.hi) o) l

-- the first of l are the pieces found cut by the arc i
pub record IsCut (i : Interval) (found : List Interval) (c : Cut) (l : List Interval) : Type 0 where
  pub is : take c.n l ≡ cut i found
  pub end_is : c.end ≡ end_found i.lo None found
  pub few : c.n ≤ length found

-- the first n of l are the pieces p, and no more than most
pub record Firsts (n : ℕ) (l p : List Interval) (most : ℕ) : Type 0 where
  pub is : take n l ≡ p
  pub few : n ≤ most

-- ---- meeting
-- the first m of l are what is left of the piece x by the arcs, in another order
pub record IsMet (arcs : List Interval) (x : Interval) (m : ℕ) (l : List Interval) : Type 0 where
  pub others : List Interval
  pub permuted : Permuted arcs others
  pub is : take m l ≡ steps (x ∷ []) others
  pub few : m ≤ length arcs + 1

-- ---- sweeping: one piece clipped by arcs that cross the seam. The gap of such an arc is what it leaves out, between its eastern and its western end. The
-- front are the first of the pieces found, which such an arc leaves as they are where it ends no earlier than they do
-- the piece does not lead over the seam, and ends at b or before it
unfoldable pub settles : Interval → Float → Bool
settles p b = le p.lo p.hi && le p.hi b

-- such a piece, of doubles
pub record Settled (b : Float) (p : Interval) : Type 0 where
  pub lo-double : fits binary64 p.lo ≡ true
  pub hi-double : fits binary64 p.hi ≡ true
  pub is-settled : settles p b ≡ true

-- the arc leads over the seam to b or a later end, which is not the seam itself: it is neither FULL nor EMPTY, and neither is a piece that ends at b or
-- before it
unfoldable pub spares : Interval → Float → Bool
spares a b = le b a.hi && lt a.hi a.lo && (lt NEG-PI a.hi && le a.lo PI)

-- the answer r tells whether it is so of doubles
pub record Spared (a : Interval) (b : Float) (r : Bool) : Type 0 where
  pub lo-double : fits binary64 a.lo ≡ true
  pub hi-double : fits binary64 a.hi ≡ true
  pub b-double : fits binary64 b ≡ true
  pub is : r ≡ spares a b

-- the piece x goes on past the gap of such an arc: to the arc's western end or farther, or over the seam and no farther than the arc does
unfoldable pub passes : Interval → Interval → Bool
passes a x = cond (le x.lo x.hi) (le a.lo x.hi) (lt x.hi x.lo && le x.hi a.hi)

-- the answer r tells whether the piece, of doubles, does
pub record Passed (a x : Interval) (r : Bool) : Type 0 where
  pub lo-double : fits binary64 x.lo ≡ true
  pub hi-double : fits binary64 x.hi ≡ true
  pub is : r ≡ passes a x

-- what such a piece comes to: it is parted by the gap where it starts before it, and goes on from where the arc starts
unfoldable pub parted : Interval → Interval → List Interval
parted a x = cond (le x.lo a.hi) (ends x.lo a.hi ∷ ends (max x.lo a.lo) x.hi ∷ []) (ends (max x.lo a.lo) x.hi ∷ [])

-- what is left of a piece that does not lead over the seam and ends before the gap does
unfoldable pub closed : Interval → Interval → List Interval
closed a x = cond (le x.lo a.hi) (ends x.lo (min x.hi a.hi) ∷ []) []

-- the sweep of the piece start by the arcs stopped at s: the first of l are settled, and with the piece after them they still have to be clipped by the
-- arcs that are left
pub record IsSwept (arcs : List Interval) (start : Interval) (s : Swept) (l : List Interval) : Type 0 where
  pub is : steps (take s.f l ++ (s.x ∷ [])) (drop s.k arcs) ≡ steps (start ∷ []) arcs
  pub settled : All (Settled s.b) (take s.f l)
  pub part : lt NEG-PI s.x.lo ≡ true
  pub up_to : s.k ≤ length arcs
  pub few : s.f ≤ s.k

-- the first r arcs leave settled pieces as they are
pub record Skipped (arcs : List Interval) (b : Float) (r : ℕ) : Type 0 where
  pub is : (l : List Interval) → All (Settled b) l → steps l (drop r arcs) ≡ steps l arcs
  pub up_to : r ≤ length arcs

-- the piece x after the first f of l, closed by the arc a and then clipped by the arcs: the first r of l'
pub record IsEnded (arcs : List Interval) (a x : Interval) (f : ℕ) (l : List Interval) (r : ℕ) (l' : List Interval) : Type 0 where
  pub is : All (Settled a.hi) (take f l ++ closed a x) → take r l' ≡ steps (take f l ++ closed a x) arcs
  pub few : r ≤ f + 1 + length arcs
