-- How the common pieces of arcs are found: the pieces found so far, in rising order, are clipped by the next arc. At first there is one piece, FULL.
-- Definitions only; that `common` lists what specs/CommonArcs.antt describes, and nothing else does, is proved in proofs/Laws.antt.
use Rattle.std.specs.Prelude.{Bool, false, not, ◌&&◌, ◌||◌, cond, List, [], ◌∷◌, Float}
use Rattle.std.specs.Float.Ieee.{lt, le}
use Rattle.s1.specs.declared.interval.Interval.{Interval}
use Rattle.s1.specs.Circle.{ends, FULL, is_full, is_empty}
use Rattle.s1.specs.Places.{holds}
use Rattle.arcs.specs.CommonArcs.{some_holds}

-- going east from s, x is met no later than y
unfoldable pub before : Float → Float → Float → Bool
before s x y = cond (le s x) (lt y s || le x y) (lt y s && le x y)

-- of x and y, the one that is met first going east from s
unfoldable pub sooner : Float → Float → Float → Float
sooner s x y = cond (before s x y) x y

-- into pieces of rising western ends; of two with one western end the first stays
unfoldable pub insert : Interval → List Interval → List Interval
insert x [] = x ∷ []
insert x (y ∷ l) = cond (lt x.lo y.lo) (x ∷ y ∷ l) (cond (lt y.lo x.lo) (y ∷ insert x l) (y ∷ l))

-- the pieces that start in the arc i, each cut at the arc's end
unfoldable pub cut : Interval → List Interval → List Interval
cut i [] = []
cut i (x ∷ l) = cond (holds i x.lo false) (ends x.lo (sooner x.lo x.hi i.hi) ∷ cut i l) (cut i l)

-- the eastern end of the piece that holds s; e where none does
unfoldable pub end_at : Float → Float → List Interval → Float
end_at s e [] = e
end_at s e (x ∷ l) = end_at s (cond (holds x s false) x.hi e) l

-- what the pieces found have in common with the arc i, none of them FULL: the pieces that start in i, and one that starts with i where a piece holds
-- its western end. (The lo of EMPTY is PI, which a piece may hold: EMPTY starts none.)
unfoldable pub clip : List Interval → Interval → List Interval
clip found i =
    cond (not (is_empty i) && some_holds found i.lo false)
    (insert (ends i.lo (sooner i.lo (end_at i.lo i.hi found) i.hi)) (cut i found))
    (cut i found)

-- the piece FULL, which is then the only one
unfoldable pub whole : List Interval → Bool
whole [] = false
whole (x ∷ l) = is_full x

-- one arc more: FULL leaves the pieces as they are, and is itself replaced by the arc
unfoldable pub step : List Interval → Interval → List Interval
step found i = cond (is_full i) found (cond (whole found) (cond (is_empty i) [] (i ∷ [])) (clip found i))

unfoldable pub steps : List Interval → List Interval → List Interval
steps found [] = found
steps found (i ∷ l) = steps (step found i) l

-- the common pieces of the arcs
unfoldable pub common : List Interval → List Interval
common arcs = steps (FULL ∷ []) arcs
