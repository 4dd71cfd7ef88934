-- Places of the circle, and what an interval holds: document 01's "Places", and the meaning that s1interval.h gives to an interval.
-- A longitude place is a double above -PI up to PI, or the gap between two neighbouring doubles, including the gap just above -PI. Here it is a double
-- `at` with a mark: the double itself, or, where the mark `gap` is true, the gap just above it. -PI is the place PI, so it is no place of its own.
-- Definitions only; the laws are in proofs/Places.antt.
use Rattle.std.specs.Prelude.{◌≡◌, Bool, true, not, ◌&&◌, ◌||◌, cond, Float}
use Rattle.std.specs.Float.Ieee as Ieee
use Rattle.std.specs.Float.{binary64}
use Rattle.std.specs.Float.Ieee.{fits}
use Rattle.consts.specs.Constants.{PI, NEG-PI}
use Rattle.s1.specs.declared.interval.Interval.{Interval}
use Rattle.s1.specs.Circle.{is_inverted, is_valid}
use Rattle.s1.specs.Reading.{on_circle}

-- a double above -PI up to PI; the gap just above a double from -PI on and below PI
abbrev pub place : Float → Bool → Bool
place at gap = cond gap (Ieee.le NEG-PI at && Ieee.lt at PI) (Ieee.lt NEG-PI at && Ieee.le at PI)

-- the interval holds the place: it is met going east from lo to hi, ends included; the gap above hi is not. Where lo > hi the way leads over the seam;
-- EMPTY, [PI, -PI], holds none
abbrev pub holds : Interval → Float → Bool → Bool
holds i at gap =
    let below = cond gap (Ieee.lt at i.hi) (Ieee.le at i.hi) in
    cond (is_inverted i) ((Ieee.le i.lo at || below) && not (Ieee.eq i.lo PI && Ieee.eq i.hi NEG-PI)) (Ieee.le i.lo at && below)

-- the place lies strictly between the interval's ends: it is held and is neither end; FULL, [-PI, PI], has no ends
abbrev pub strictly_holds : Interval → Float → Bool → Bool
strictly_holds i at gap =
    holds i at gap && (gap || not (Ieee.eq at i.lo || Ieee.eq at i.hi) || (Ieee.eq i.lo NEG-PI && Ieee.eq i.hi PI))

-- a place
pub record Place (at : Float) (gap : Bool) : Type 0 where
  pub is-double : fits binary64 at ≡ true
  pub is-place : place at gap ≡ true

-- a valid interval of doubles
pub record Valid (i : Interval) : Type 0 where
  pub lo-double : fits binary64 i.lo ≡ true
  pub hi-double : fits binary64 i.hi ≡ true
  pub is-valid : is_valid i ≡ true

-- a point of the circle, which is a double of size at most PI
pub record OnCircle (p : Float) : Type 0 where
  pub is-double : fits binary64 p ≡ true
  pub on-circle : on_circle p ≡ true

-- i holds each place that o holds
abbrev pub Inside : Interval → Interval → Type 0
Inside i o = (p : Float) (g : Bool) → Place p g → holds o p g ≡ true → holds i p g ≡ true

-- each place that o holds lies strictly inside i
abbrev pub StrictlyInside : Interval → Interval → Type 0
StrictlyInside i o = (p : Float) (g : Bool) → Place p g → holds o p g ≡ true → strictly_holds i p g ≡ true

-- some place is held by both
abbrev pub Meets : Interval → Interval → Type 0
Meets i o = (p : Float) × (g : Bool) × Place p g × (holds i p g ≡ true) × (holds o p g ≡ true)

-- some place strictly inside i is held by o
abbrev pub StrictlyMeets : Interval → Interval → Type 0
StrictlyMeets i o = (p : Float) × (g : Bool) × Place p g × (strictly_holds i p g ≡ true) × (holds o p g ≡ true)

-- no place is held, or every place is
abbrev pub Nothing : Interval → Type 0
Nothing i = (p : Float) (g : Bool) → Place p g → holds i p g ≡ true → ⊥

abbrev pub Everything : Interval → Type 0
Everything i = (p : Float) (g : Bool) → Place p g → holds i p g ≡ true
