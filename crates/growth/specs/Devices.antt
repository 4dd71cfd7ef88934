-- Devices of the proofs: points that a box holds already, in the order in which they are tested, how many points are refused, and what the functions of src/
-- promise each other of them. A call with a point that is held changes nothing (proofs/Held.antt). No public contract cites these: nothing here needs to be
-- believed. Definitions only.
use Rattle.std.specs.Prelude.{◌≡◌, Bool, true, ◌&&◌, cond, List, [], ◌∷◌, ℕ, suc, ◌+◌, ◌<◌, ◌≤◌, ◌*◌, ◌/◌, ◌%◌, Option, None, Some, length, drop, Float}
use Rattle.std.specs.Float.Ieee.{le}
use Rattle.std.specs.declared.ops.Range.{Range}
use Rattle.consts.specs.Constants.{PI, NEG-PI}
use Rattle.consts.specs.Refusal.{given}
use Rattle.s1.specs.declared.interval.Interval.{Interval as Circle}
use Rattle.s2.specs.declared.latlng.LatLng.{LatLng}
use Rattle.s2.specs.declared.rect.Rect.{Rect}
use Rattle.s2.specs.declared.rect.Answer.{Answer}
use Rattle.s2.specs.Reading.{NoMinusRect}
use Rattle.s2.specs.Places.{Valid, DoublePoint}
use Rattle.entries.specs.Lists.{All, whole}
use Rattle.lists.specs.Points.{points_of}
use Rattle.lists.specs.Refused.{of_point}
use Rattle.growth.specs.declared.calls.Called.{Called}
use Rattle.growth.specs.RunningBox.{running}
use Rattle.growth.specs.Growth.{start_of}

-- the arc, which is not EMPTY, holds the longitude, which is of size at most PI
unfoldable pub is_on : Circle → Float → Bool
is_on i p = cond (le i.lo i.hi) (le i.lo p && le p i.hi) (cond (le i.lo p) (le p PI) (le NEG-PI p && le p i.hi))

-- the rectangle holds the point
unfoldable pub is_held : Rect → LatLng → Bool
is_held q p = le q.lat.lo p.lat && le p.lat q.lat.hi && is_on q.lng p.lng

-- how many of the points are refused
unfoldable pub bad_in : List LatLng → ℕ
bad_in [] = 0
bad_in (p ∷ l) = given (of_point p) (bad_in l) (suc (bad_in l))

-- the start has been read, a its reading: where it is accepted, the list is of whole points and the start valid. The numbers of the list are doubles
pub record Started (r : Rect) (l : List Float) (a : Answer) : Type 0 where
  pub is : a ≡ start_of r l
  pub good : a.refusal ≡ 0 → (whole 2 4096 l ≡ true) × Valid r
  pub points : All DoublePoint (points_of l)

-- the calls with the whole points from the number i on are to be made on the box q, which is valid and has been read
pub record Growing (l : List Float) (i : ℕ) (q : Rect) : Type 0 where
  pub up_to : i ≤ length l
  pub at-point : i % 2 ≡ 0
  pub whole : length l % 2 ≡ 0
  pub valid : Valid q
  pub no_minus : NoMinusRect q

-- the calls on q with the points from the number first on come to the same as those from r on
pub record HeldUntil (l : List Float) (first : ℕ) (q : Rect) (r : ℕ) : Type 0 where
  pub box : running q (points_of (drop r l)) ≡ running q (points_of (drop first l))
  pub bad : bad_in (points_of (drop r l)) ≡ bad_in (points_of (drop first l))
  pub from : first ≤ r
  pub up_to : r ≤ length l
  pub whole : r % 2 ≡ 0

-- the calls with the whole points whose numbers are left, up to the last, are to be made on the box q
pub record Left (l : List Float) (left : Range ℕ) (q : Rect) : Type 0 where
  pub growing : Growing l (2 * left.start) q
  pub last : left.end ≡ length l / 2

-- the points that were left and no longer are change nothing
pub record Passed (l : List Float) (was : Range ℕ) (q : Rect) (left : Range ℕ) : Type 0 where
  pub held : HeldUntil l (2 * was.start) q (2 * left.start)
  pub end : left.end ≡ was.end

-- k is the number of a point: those before it that were left change nothing, and those after it are left now
pub record Found (l : List Float) (was : Range ℕ) (q : Rect) (left : Range ℕ) (k : ℕ) : Type 0 where
  pub held : HeldUntil l (2 * was.start) q (2 * k)
  pub room : 2 * k + 1 < length l
  pub start : left.start ≡ k + 1
  pub end : left.end ≡ was.end

-- the next of the points left that the box does not hold; where there is none, the calls that are left change nothing
abbrev pub Beyond : List Float → Range ℕ → Rect → Range ℕ → Option ℕ → Type 0
Beyond l was q left None = HeldUntil l (2 * was.start) q (length l)
Beyond l was q left (Some k) = Found l was q left k

-- the calls up to the number i have been made: the box is q, and so many were refused; with those that are left they come to the whole
pub record SoFar (l : List Float) (start q : Rect) (refused i : ℕ) : Type 0 where
  pub box : running start (points_of l) ≡ running q (points_of (drop i l))
  pub bad : bad_in (points_of l) ≡ refused + bad_in (points_of (drop i l))
  pub few : refused ≤ i
  pub left : Growing l i q

-- the box after all calls, and how many of them were refused
pub record AfterCalls (l : List Float) (start : Rect) (a : Called) : Type 0 where
  pub box : a.value ≡ running start (points_of l)
  pub bad : a.refused ≡ bad_in (points_of l)
