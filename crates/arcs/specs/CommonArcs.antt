-- What the common pieces of arcs are, over longitude places. An arc is a circle interval. Nothing here says how they are found; that at most one list meets
-- it is proved in proofs/Unique.antt, and that the list found meets it in proofs/Clipping.antt. Definitions only.
use Rattle.std.specs.Prelude.{◌≡◌, Bool, true, false, ◌&&◌, ◌||◌, List, [], ◌∷◌, Float}
use Rattle.std.specs.Float.Ieee.{lt}
use Rattle.consts.specs.Reading.{plain}
use Rattle.s1.specs.declared.interval.Interval.{Interval}
use Rattle.s1.specs.Circle.{is_empty}
use Rattle.s1.specs.Places.{Place, Valid, holds, Meets}
use Rattle.entries.specs.Lists.{All, Pairs}

-- the place lies in every arc of the list; in one of them
unfoldable pub every_holds : List Interval → Float → Bool → Bool
every_holds [] p g = true
every_holds (i ∷ l) p g = holds i p g && every_holds l p g

unfoldable pub some_holds : List Interval → Float → Bool → Bool
some_holds [] p g = false
some_holds (i ∷ l) p g = holds i p g || some_holds l p g

-- no place lies in both
abbrev pub ArcsApart : Interval → Interval → Type 0
ArcsApart x y = (p : Float) (g : Bool) → Place p g → holds x p g ≡ true → holds y p g ≡ true → ⊥

-- j holds places that every arc holds, and no others
abbrev pub CommonArc : List Interval → Interval → Type 0
CommonArc arcs j = (p : Float) (g : Bool) → Place p g → holds j p g ≡ true → every_holds arcs p g ≡ true

-- no circle interval of common places holds places of both
abbrev pub ArcsUnjoined : List Interval → Interval → Interval → Type 0
ArcsUnjoined arcs x y = (j : Interval) → Valid j → CommonArc arcs j → Meets j x → Meets j y → ⊥

-- the western end of x lies below that of y
abbrev pub LowerArc : Interval → Interval → Type 0
LowerArc x y = lt x.lo y.lo ≡ true

-- neither end is a negative zero
abbrev pub PlainArc : Interval → Type 0
PlainArc x = (plain x.lo ≡ x.lo) × (plain x.hi ≡ x.hi)

-- arcs as they are read: valid, with no negative zero
pub record AreRead (arcs : List Interval) : Type 0 where
  pub valid : All Valid arcs
  pub plain : All PlainArc arcs

pub record CommonArcs (arcs found : List Interval) : Type 0 where
  -- the pieces are valid and not empty
  pub valid : All Valid found
  pub non-empty : All (λ x. is_empty x ≡ false) found
  -- a place lies in one of them exactly when it lies in every arc
  pub exact : (p : Float) (g : Bool) → Place p g → some_holds found p g ≡ every_holds arcs p g
  -- no place lies in two
  pub apart : Pairs ArcsApart found
  -- no two can be joined
  pub unjoined : Pairs (ArcsUnjoined arcs) found
  -- western ends rise
  pub rising : Pairs LowerArc found
  -- no negative zero is written
  pub plain : All PlainArc found
