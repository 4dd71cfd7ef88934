-- What documents 01 and 02 promise of the scan worker, in their order and words, each as one theorem with all that it asks in its own signature. Each is a law
-- of proofs/Laws.antt. The numbers handed in are doubles, as all numbers are that a program hands in (`Doubles`, `DoublePoint`). Assumes nothing.
use mathlib.Core.Path.{◌≡◌, refl, ap}
use mathlib.Core.List.{List, [], foldl}
use lib.Ieee.{Float}
use Rattle.consts.specs.Refusal.{number, accepted}
use Rattle.s2.specs.declared.latlng.LatLng.{LatLng}
use Rattle.s2.specs.declared.rect.Rect.{Rect}
use Rattle.s2.specs.declared.rect.Answer.{Answer}
use Rattle.s2.specs.Reading.{NoMinusRect}
use Rattle.s2.specs.Answers.{add}
use Rattle.s2.specs.Places.{Doubles, DoublePoint}
use Rattle.entries.specs.Lists.{All}
use Rattle.lists.specs.Points.{points_of}
use Rattle.growth.specs.RunningBox.{running}
use Rattle.growth.specs.Growth.{grow}
use Rattle.scan.specs.Scan.{enlarge, enlarge_all}
use Rattle.scan.proofs.Laws as laws

-- ---- "Negative zero coming in is read as zero, and no negative zero is written": by neither way of the worker, of a box b by a list l or by a point p
pub no-negative-zero : (b : Rect) (l : List Float) (p : LatLng) → Doubles b → All DoublePoint (points_of l)
    → ((enlarge_all b l).refusal ≡ number accepted → NoMinusRect (enlarge_all b l).value) × ((enlarge b p).refusal ≡ number accepted → NoMinusRect (enlarge b p).value)
no-negative-zero b l p d e = (laws.list-plain b l d e, laws.point-plain b p)

-- ---- "No refusal alters a lent number": the worker's box keeps every bit under each number but 0, and the number is growth's
pub lent-box-stays : (b : Rect) (p : LatLng) → ((enlarge b p).refusal ≡ 0 → ⊥) → (enlarge b p).value ≡ b
unfolding enlarge
lent-box-stays b p h = ap (λ (a : Answer). a.value) (laws.point-refused b p h)

pub lent-box-stays-by-list : (b : Rect) (l : List Float) → ((enlarge_all b l).refusal ≡ 0 → ⊥) → (enlarge_all b l).value ≡ b
unfolding enlarge_all
lent-box-stays-by-list b l h = ap (λ (a : Answer). a.value) (laws.list-refused b l h)

-- ---- "The scan worker keeps one running box, and each point enlarges that same box; the same growth by value comes first"
-- by a point and by a list: growth's number, and under 0 growth's rectangle in the box
pub worker-grows : (b : Rect) (p : LatLng) → (add b p).refusal ≡ number accepted → enlarge b p ≡ add b p
worker-grows b p h = laws.point-accepted b p h

pub worker-grows-by-list : (b : Rect) (l : List Float) → (grow b l).refusal ≡ number accepted → enlarge_all b l ≡ grow b l
worker-grows-by-list b l h = laws.list-accepted b l h

-- and whatever the number is, it is growth's
pub worker-numbers : (b : Rect) (p : LatLng) (l : List Float) → ((enlarge b p).refusal ≡ (add b p).refusal) × ((enlarge_all b l).refusal ≡ (grow b l).refusal)
unfolding enlarge enlarge_all
worker-numbers b p l = (refl, refl)

-- ---- T-04: the worker's box is the running box. After any calls with points, each on the box that the one before left, refused ones among them
pub worker-runs : (start : Rect) (calls : List LatLng) → foldl (λ (b : Rect) (p : LatLng). (enlarge b p).value) start calls ≡ running start calls
worker-runs start calls = laws.calls-run start calls

-- and after a call with a list that is accepted (and has points: by none the box is as it is read)
pub worker-runs-by-list : (b : Rect) (l : List Float) → Doubles b → All DoublePoint (points_of l) → (enlarge_all b l).refusal ≡ number accepted → (points_of l ≡ [] → ⊥)
    → (enlarge_all b l).value ≡ running b (points_of l)
worker-runs-by-list b l d e h n = laws.list-runs b l d e h n
