-- What documents 01 and 02 promise of growth by a list and of the running box, in their order and words, each as one theorem with all that it asks in its own
-- signature. Each is a law of proofs/Laws.antt or proofs/RunningBox.antt. The numbers handed in are doubles, as all numbers are that a program hands in
-- (`Doubles`, `DoublePoint`). Assumes nothing.
use mathlib.Core.Path.{◌≡◌, refl, sym, ◌∙◌}
use mathlib.Core.Bool.{Bool, true, false}
use mathlib.Core.List.{List, [], ◌∷◌, ◌++◌}
use mathlib.Core.Logic.{◌⊎◌, ◌↔◌}
use Prim.Native.Nat.{ℕ, ◌*◌, ◌%◌, ◌<◌}
use native.Mathlib.Omega.{arith}
use lib.ListN.{length}
use lib.Ieee.{Float}
use Rattle.consts.specs.Refusal.{number, accepted, bad_point, bad_list, of_entry}
use Rattle.s2.specs.declared.latlng.LatLng.{LatLng}
use Rattle.s2.specs.declared.rect.Rect.{Rect}
use Rattle.s2.specs.Zone.{at, is_lat_lng}
use Rattle.s2.specs.Reading.{as_read, NoMinusRect}
use Rattle.s2.specs.Refusals.{RectReason}
use Rattle.s2.specs.Answers.{rect_answer, empty_under, add}
use Rattle.s2.specs.Places.{place_of, holds, Inside, Doubles, DoublePoint, Valid, ValidPoint}
use Rattle.entries.specs.Lists.{Mem, All, whole}
use Rattle.lists.specs.Points.{points_of}
use Rattle.lists.specs.Refused.{of_rect}
use Rattle.lists.proofs.Promises.{point-list-refused}
use Rattle.growth.specs.RunningBox.{after, running, accepted_of, EdgesFrom}
use Rattle.growth.specs.Growth.{under, grow, no_calls, ran}
use Rattle.growth.proofs.RunningBox as box
use Rattle.growth.proofs.Laws as laws
use Rattle.growth.proofs.Laws.{Grown}

-- ---- "Negative zero coming in is read as zero, and no negative zero is written": not by growth of a rectangle r by a list l, nor by a running box of which a
-- call was accepted
pub no-negative-zero : (r : Rect) (l : List Float) → Doubles r → All DoublePoint (points_of l)
    → ((grow r l).refusal ≡ number accepted → NoMinusRect (grow r l).value) × ((ran r l).refusal ≡ number accepted → ((ran r l).accepted ≡ 0 → ⊥) → NoMinusRect (ran r l).value)
no-negative-zero r l d e = (laws.growth-plain r l d e, laws.ran-plain r l d e)

-- ---- the numbers of growth, "given exactly when", and their results
-- 1, 21, 22, 23 of the start, each for its own reason: the standard empty. The list is looked at first (5)
pub start-refused : (r : Rect) (l : List Float) {n : ℕ} {f : Rect → Bool} → RectReason n f → ((grow r l).refusal ≡ n) ↔ ((whole 2 4096 l ≡ true) × (f r ≡ true))
start-refused r l {n} w =
    let s = laws.of-start r l n (laws.own-not w 0 (unfold of_entry in refl)) (laws.own-not w 3 (unfold of_entry in refl)) in
    let o = laws.start-own r l w in
    ((λ h. o.0 (s.0 h)), (λ h. s.1 (o.1 h)))

pub start-refused-result : (r : Rect) (l : List Float) → whole 2 4096 l ≡ true → (of_rect r ≡ number accepted → ⊥) → grow r l ≡ empty_under (of_rect r)
start-refused-result r l w h = laws.start-refused r l w h

-- 3, "a point is no valid latlng": "the rectangle handed in", every bit of it. One bad point refuses the whole list, after the start's own numbers
pub bad-point : (r : Rect) (l : List Float) → Doubles r → ((grow r l).refusal ≡ number bad_point) ↔ ((whole 2 4096 l ≡ true) × Valid r × ((p : LatLng) × Mem p (points_of l) × (is_lat_lng p ≡ false)))
bad-point r l d = laws.bad-exactly r l d

pub bad-point-result : (r : Rect) (l : List Float) → whole 2 4096 l ≡ true → Valid r → (p : LatLng) → Mem p (points_of l) → is_lat_lng p ≡ false → grow r l ≡ under (number bad_point) r
bad-point-result r l w v p m h = laws.bad-point r l w v p m h

-- 5, "an input list's length is not a multiple of the record, or over .. 4,096 points": "the rectangle in", every bit of it. It comes before all others
pub bad-list : (r : Rect) (l : List Float) → ((grow r l).refusal ≡ number bad_list) ↔ ((length l % 2 ≡ 0 → ⊥) ⊎ (2 * 4096 < length l))
bad-list r l =
    let s = laws.of-start r l 5 (λ z. omega (arith, z)) (λ z. omega (arith, z)) in
    let o = laws.start-5 r l in
    ((λ h. (point-list-refused l).0 (o.0 (s.0 h))), (λ h. s.1 (o.1 ((point-list-refused l).1 h))))

pub bad-list-result : (r : Rect) (l : List Float) → (length l % 2 ≡ 0 → ⊥) ⊎ (2 * 4096 < length l) → grow r l ≡ under (number bad_list) r
bad-list-result r l h = laws.list-refused r l ((point-list-refused l).1 h)

-- 0: else it is accepted
pub accepted-when : (r : Rect) (l : List Float) → Doubles r → All DoublePoint (points_of l)
    → ((grow r l).refusal ≡ number accepted) ↔ ((whole 2 4096 l ≡ true) × Valid r × All ValidPoint (points_of l))
accepted-when r l d e = (there, back)
  where
    there : (grow r l).refusal ≡ number accepted → (whole 2 4096 l ≡ true) × Valid r × All ValidPoint (points_of l)
    there h = let a = (laws.accepted-exactly r l d e).0 h in (a.whole, a.start, a.points)

    back : (whole 2 4096 l ≡ true) × Valid r × All ValidPoint (points_of l) → (grow r l).refusal ≡ number accepted
    back h = (laws.accepted-exactly r l d e).1 (record { whole = h.0; start = h.1; points = h.2 })

-- ---- "Growth by an accepted list equals growth by its points one by one, first to last": the running box, every call of which is accepted. By no point it is
-- the start as it is read
pub one_by_one : (r : Rect) (l : List Float) → Doubles r → All DoublePoint (points_of l) → (grow r l).refusal ≡ number accepted
    → (grow r l ≡ rect_answer (as_read (running r (points_of l)))) × (accepted_of r (points_of l) ≡ points_of l)
one_by_one r l d e h = let a = (laws.accepted-exactly r l d e).0 h in (laws.accepted-is r l a, box.all-accepted r (points_of l) a.start a.points)

pub growth-runs : (r : Rect) (l : List Float) → Doubles r → All DoublePoint (points_of l) → (grow r l).refusal ≡ number accepted
    → (points_of l ≡ [] → ⊥) → grow r l ≡ rect_answer (running r (points_of l))
growth-runs r l d e h n = laws.growth-runs r l ((laws.accepted-exactly r l d e).0 h) n

-- for a list of one point it is the rectangle's own growth by that point, whatever the numbers are
pub by-one-point : (r : Rect) (a b : Float) → grow r (a ∷ (b ∷ [])) ≡ add r (at a b)
by-one-point r a b = laws.one-point r a b

-- an accepted growth is valid, and holds every place of the start and each of the points
pub growth-holds : (r : Rect) (l : List Float) → Doubles r → All DoublePoint (points_of l) → (grow r l).refusal ≡ number accepted → Grown (grow r l).value r (points_of l)
growth-holds r l d e h = laws.growth-holds r l ((laws.accepted-exactly r l d e).0 h)

-- ---- T-04, "What the running box means": "over any list of growth calls on one valid starting rectangle, refused points included as no change"
-- what a call is, on any box: growth by the point where that is accepted, and no change where it is refused
pub one-call : (b : Rect) (p : LatLng)
    → ((add b p).refusal ≡ number accepted → (running b (p ∷ []) ≡ (add b p).value) × (accepted_of b (p ∷ []) ≡ p ∷ []))
    × (((add b p).refusal ≡ number accepted → ⊥) → (running b (p ∷ []) ≡ b) × (accepted_of b (p ∷ []) ≡ []))
one-call b p = (box.one-accepted b p, box.one-refused b p)

-- and many calls: what comes later goes on from the box that is there. So the two say all of a running box
pub in_parts : (start : Rect) (before later : List LatLng)
    → (running start (before ++ later) ≡ running (running start before) later) × (accepted_of start (before ++ later) ≡ accepted_of start before ++ accepted_of (running start before) later)
in_parts start before later = (box.run-append start before later, box.accepted-append start before later)

-- "the box holds all places it ever held": cut the list of calls anywhere; a place held after the first part is held after the whole
pub once-in-never-out : (start : Rect) (before later : List LatLng) → Valid start → All DoublePoint (before ++ later) → Inside (running start (before ++ later)) (running start before)
once-in-never-out start before later v d = box.once-in start before later v d

-- so also each place of the start
pub start-stays-in : (start : Rect) (calls : List LatLng) → Valid start → All DoublePoint calls → Inside (running start calls) start
start-stays-in start calls v d = box.run_holds start calls v d

-- "and every accepted point": the accepted ones are the valid ones
pub accepted-held : (start : Rect) (calls : List LatLng) → Valid start → All DoublePoint calls → (p : LatLng) → Mem p (accepted_of start calls) → holds (running start calls) (place_of p) ≡ true
accepted-held start calls v d p m = let k = box.among start calls v d m in box.point-held start calls v d k.0 k.1

pub accepted-exactly : (start : Rect) (calls : List LatLng) → Valid start → All DoublePoint calls → (p : LatLng) → Mem p (accepted_of start calls) ↔ (Mem p calls × ValidPoint p)
accepted-exactly start calls v d p = ((λ m. box.among start calls v d m), (λ k. box.taken-up start calls v d k.0 k.1))

-- "each of its edges is an edge of the start or a coordinate of an accepted point, -PI being read as PI"
pub edges-from : (start : Rect) (calls : List LatLng) → Valid start → All DoublePoint calls → EdgesFrom start (running start calls) (accepted_of start calls)
edges-from start calls v d = box.edges-from start calls v d

-- a refused call changes no bit of any box, and leaving out all refused calls gives the same box
pub refused-changes-nothing : (b : Rect) (p : LatLng) → ((add b p).refusal ≡ number accepted → ⊥) → after b p ≡ b
refused-changes-nothing b p h = box.refused-call b p h

pub refused-left-out : (start : Rect) (calls : List LatLng) → running start (accepted_of start calls) ≡ running start calls
refused-left-out start calls = box.left_out start calls

-- it stays valid
pub stays-valid : (start : Rect) (calls : List LatLng) → Valid start → All DoublePoint calls → Valid (running start calls)
stays-valid start calls v d = box.run-valid start calls v d

-- ---- the running box by value: its numbers are those of the length and of the start, with the results of growth and no call accepted
pub running-refused : (r : Rect) (l : List Float) {n : ℕ} {f : Rect → Bool} → RectReason n f
    → (((ran r l).refusal ≡ n) ↔ ((whole 2 4096 l ≡ true) × (f r ≡ true))) × ((whole 2 4096 l ≡ true) × (f r ≡ true) → ran r l ≡ no_calls (empty_under n))
running-refused r l {n} {f} w = (((λ h. (laws.start-own r l w).0 (sym (laws.ran-number r l) ∙ h)), (λ h. laws.ran-number r l ∙ (laws.start-own r l w).1 h)), result)
  where
    result : (whole 2 4096 l ≡ true) × (f r ≡ true) → ran r l ≡ no_calls (empty_under n)
    result h = laws.ran-own r l w h.0 h.1

pub running-bad-list : (r : Rect) (l : List Float)
    → (((ran r l).refusal ≡ number bad_list) ↔ ((length l % 2 ≡ 0 → ⊥) ⊎ (2 * 4096 < length l))) × ((length l % 2 ≡ 0 → ⊥) ⊎ (2 * 4096 < length l) → ran r l ≡ no_calls (under (number bad_list) r))
running-bad-list r l =
    let o = laws.start-5 r l in
    let n = laws.ran-number r l in
    (((λ h. (point-list-refused l).0 (o.0 (sym n ∙ h))), (λ h. n ∙ o.1 ((point-list-refused l).1 h))), (λ h. laws.ran-list-refused r l ((point-list-refused l).1 h)))

-- else it is accepted, whatever the points are: how many of the calls were, and the box after them
pub running-accepted : (r : Rect) (l : List Float) → Doubles r
    → (((ran r l).refusal ≡ number accepted) ↔ ((whole 2 4096 l ≡ true) × Valid r))
    × (whole 2 4096 l ≡ true → Valid r → ran r l ≡ record { refusal = number accepted; accepted = length (accepted_of r (points_of l)); value = running r (points_of l) })
running-accepted r l d =
    let o = laws.start-0 r l d in
    let n = laws.ran-number r l in
    (((λ h. o.0 (sym n ∙ h)), (λ h. n ∙ o.1 h)), laws.ran-are r l)

-- where every call was refused, it keeps its bits
pub running-keeps-bits : (r : Rect) (l : List Float) → whole 2 4096 l ≡ true → Valid r → (ran r l).accepted ≡ 0 → (ran r l).value ≡ r
running-keeps-bits r l w v h = laws.ran-kept r l w v h
