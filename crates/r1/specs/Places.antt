-- Line intervals over places, in document 01's words: for a line interval by itself a place is a double in reach, and the interval holds the places from
-- lo to hi, both included. Definitions only; the laws are in proofs/Places.antt.
use Rattle.std.specs.Prelude.{◌≡◌, Bool, true, false, ◌&&◌, ◌||◌, ◌⊎◌, Float}
use Rattle.std.specs.Float.{binary64}
use Rattle.std.specs.Float.Ieee.{fits, le}
use Rattle.consts.specs.Reading.{in_reach}
use Rattle.r1.specs.declared.interval.Interval.{Interval}
use Rattle.r1.specs.Line.{interior_contains}

-- a place: a double in reach
pub record Place (p : Float) : Type 0 where
  pub is-double : fits binary64 p ≡ true
  pub in-reach : in_reach p ≡ true

-- an interval within the limits: both ends are doubles in reach
pub record InReach (i : Interval) : Type 0 where
  pub lo-place : Place i.lo
  pub hi-place : Place i.hi

-- the interval has a number out of reach
abbrev pub OutOfReach : Interval → Type 0
OutOfReach i = (in_reach i.lo ≡ false) ⊎ (in_reach i.hi ≡ false)

-- i holds the place p: it lies from lo to hi, both included
unfoldable pub holds : Interval → Float → Bool
holds i p = le i.lo p && le p i.hi

-- i holds each place that o holds
abbrev pub Inside : Interval → Interval → Type 0
Inside i o = (p : Float) → Place p → holds o p ≡ true → holds i p ≡ true

-- each place that o holds lies strictly between the ends of i
abbrev pub StrictlyInside : Interval → Interval → Type 0
StrictlyInside i o = (p : Float) → Place p → holds o p ≡ true → interior_contains i p ≡ true

-- some place is held by both
abbrev pub Meets : Interval → Interval → Type 0
Meets i o = (p : Float) × Place p × (holds i p ≡ true) × (holds o p ≡ true)

-- q lies on the way from p to x, ends included
abbrev pub on_the_way : Float → Float → Float → Bool
on_the_way p x q = (le p q && le q x) || (le x q && le q p)

-- q is the place of i that lies nearest to p: i holds it, and it lies on the way from p to every place that i holds
pub record Nearest (i : Interval) (p q : Float) : Type 0 where
  pub is-place : Place q
  pub held : holds i q ≡ true
  pub on-the-way : (x : Float) → Place x → holds i x ≡ true → on_the_way p x q ≡ true

-- no place is held
abbrev pub Nothing : Interval → Type 0
Nothing i = (p : Float) → Place p → holds i p ≡ true → ⊥
