-- What documents 01 and 02 promise of lists, in their order and words, each as one theorem with all that it asks in its own signature. Each is a law of the modules
-- beside this one. Assumes nothing.
use mathlib.Core.Path.{◌≡◌, refl, ap}
use mathlib.Core.Bool.{Bool, true, false, ◌||◌, cond}
use mathlib.Core.List.{List, [], ◌∷◌, ◌++◌}
use mathlib.Core.Logic.{◌⊎◌, ◌↔◌}
use Prim.Native.Nat.{ℕ, ◌+◌, ◌*◌, ◌%◌, ◌≤◌, ◌<◌}
use native.Mathlib.Omega.{arith}
use lib.Dec.{eqb}
use lib.ListN.{length, take, drop, get_or}
use lib.Ieee.{Float, nan}
use Rattle.consts.specs.Refusal.{number, accepted, bad_point, of_entry}
use Rattle.r1.specs.Line as line
use Rattle.s1.specs.Circle as circle
use Rattle.s2.specs.declared.latlng.LatLng.{LatLng}
use Rattle.s2.specs.declared.rect.Rect.{Rect}
use Rattle.s2.specs.Zone.{at, box, is_lat_lng}
use Rattle.s2.specs.Reading.{read_point}
use Rattle.s2.specs.Refusals.{RectReason}
use Rattle.s2.specs.Places.{Valid, ValidPoint, Doubles, DoublePoint}
use Rattle.s2.proofs.Readings.{point-bad}
use Rattle.s2.proofs.Refusals.{number-when, own-number}
use Rattle.entries.specs.Lists.{All, whole}
use Rattle.lists.specs.Rects.{rects_of, numbers_of, put_rect, as_read_all}
use Rattle.lists.specs.Points.{points_of, lat_lngs_of}
use Rattle.entries.specs.First.{First, first_of}
use Rattle.lists.specs.Refused.{of_rect, of_point, first_refused, first_bad}
use Rattle.entries.specs.Inputs.{Form, Items, Fault, input_of}
use Rattle.entries.proofs.Lengths.{not-whole-when}
use Rattle.lists.proofs.RectLists as rects
use Rattle.lists.proofs.PointLists as points
use Rattle.entries.proofs.FirstLaws.{IsFirst, none_told, none-when, first-told, first-when}
use Rattle.lists.proofs.Doubles.{rects-accepted, points-accepted}
use Rattle.entries.proofs.Inputs as inputs

-- ---- "Negative zero coming in is read as zero": what has been read has none, and is read as it stands
pub read-once : (rs : List Rect) → as_read_all (as_read_all rs) ≡ as_read_all rs
read-once rs = rects.read_again (as_read_all rs) (rects.read_all rs)

-- ---- "Point lists hold latitude then longitude"
pub point-lists : (l : List Float) (k : ℕ) (p : LatLng) → k < length (points_of l) → get_or (points_of l) k p ≡ at (get_or l (2 * k) nan) (get_or l (2 * k + 1) nan)
point-lists l k p h = points.point-entry l k p h

-- either way undoes the other
pub points-there-and-back : (ps : List LatLng) → points_of (lat_lngs_of ps) ≡ ps
points-there-and-back ps = points.points-latlngs ps

pub points-back-and-there : (l : List Float) → length l % 2 ≡ 0 → lat_lngs_of (points_of l) ≡ l
points-back-and-there l h = points.latlngs-points l h

-- ---- "rectangle lists hold lat.lo, lat.hi, lng.lo, lng.hi"
pub rectangle-lists : (l : List Float) (k : ℕ) (r : Rect) → k < length (rects_of l)
    → get_or (rects_of l) k r ≡ box (line.ends (get_or l (4 * k) nan) (get_or l (4 * k + 1) nan)) (circle.ends (get_or l (4 * k + 2) nan) (get_or l (4 * k + 3) nan))
rectangle-lists l k r h = rects.rect-entry l k r h

pub rectangles-there-and-back : (rs : List Rect) → rects_of (numbers_of rs) ≡ rs
rectangles-there-and-back rs = rects.rects-numbers rs

pub rectangles-back-and-there : (l : List Float) → length l % 4 ≡ 0 → numbers_of (rects_of l) ≡ l
rectangles-back-and-there l h = rects.numbers-rects l h

-- what is put into a list stands there, and all else stays; where there is no room nothing is put
pub put-there : (i : ℕ) (r : Rect) (l : List Float) → i + 4 ≤ length l → put_rect i r l ≡ take i l ++ numbers_of (r ∷ []) ++ drop (i + 4) l
put-there i r l h = rects.put_is i r l h

pub put-nothing : (i : ℕ) (r : Rect) (l : List Float) → length l < i + 4 → put_rect i r l ≡ l
put-nothing i r l h = rects.no-room i r l h

-- ---- the numbers, "given exactly when"
-- 1, 21, 22 and 23 of an entry, each for the rectangle's own reason, and no other number but 0
pub entry-refused : {n : ℕ} {f : Rect → Bool} → RectReason n f → (r : Rect) → (of_rect r ≡ n) ↔ (f r ≡ true)
entry-refused w r = number-when w r

pub entry-numbers : (r : Rect) → eqb (of_rect r) 0 || of_entry (of_rect r) ≡ true
entry-numbers r = own-number r

-- 3, "a point is no valid latlng"
pub no-latlng : (p : LatLng) → (of_point p ≡ number bad_point) ↔ (is_lat_lng p ≡ false)
unfolding read_point
no-latlng p = (go (is_lat_lng p), point-bad p)
  where
    go : (t : Bool) → ◌≡◌ {A = ℕ} (cond t 0 3) 3 → t ≡ false
    go true e = absurd (omega (arith, e))
    go false e = refl

-- 5, "an input list's length is not a multiple of the record, or over 512 rectangles or 4,096 points"
pub rectangle-list-refused : (l : List Float) → (whole 4 512 l ≡ false) ↔ ((length l % 4 ≡ 0 → ⊥) ⊎ (4 * 512 < length l))
rectangle-list-refused l = not-whole-when 4 512 (length l)

pub point-list-refused : (l : List Float) → (whole 2 4096 l ≡ false) ↔ ((length l % 2 ≡ 0 → ⊥) ⊎ (2 * 4096 < length l))
point-list-refused l = not-whole-when 2 4096 (length l)

-- and so for every record and every limit
pub list-refused : {A : Type 0} (size limit : ℕ) (l : List A) → (whole size limit l ≡ false) ↔ ((length l % size ≡ 0 → ⊥) ⊎ (size * limit < length l))
list-refused size limit l = not-whole-when size limit (length l)

-- 0: no entry is refused exactly when each is valid
pub rectangles-accepted : (rs : List Rect) → All Doubles rs → (first_refused rs ≡ number accepted) ↔ All Valid rs
rectangles-accepted rs d = rects-accepted rs d

pub points-all-accepted : (ps : List LatLng) → All DoublePoint ps → (first_bad ps ≡ number accepted) ↔ All ValidPoint ps
points-all-accepted ps d = points-accepted ps d

-- ---- "Order: .. lists from their first entry": the number that is told is that of the first entry that is refused
-- "(document 02) For lists, 1 and these also report the entry's number from zero": and the entry is that one. All before it are accepted
pub first-refusal : {A : Type 0} (why : A → ℕ) (l : List A) → ((first_of why l).refusal ≡ 0 → ⊥) → IsFirst why l (first_of why l).refusal (first_of why l).entry
first-refusal why l h = first-when why l h

-- there is only one such entry
pub one-first : {A : Type 0} (why : A → ℕ) (l : List A) (n k : ℕ) → IsFirst why l n k → first_of why l ≡ record { refusal = n; entry = k }
one-first why l n k f = first-told why l n k f

-- the entry beside 0 is 0
pub none-beside-none : {A : Type 0} (why : A → ℕ) (l : List A) → (first_of why l).refusal ≡ 0 → (first_of why l).entry ≡ 0
none-beside-none why l h = ap (λ (f : First). f.entry) (none_told why l ((none-when why l).0 h))

-- ---- "The first fault in the stream decides", in every form of input
pub first-fault-decides : {B A : Type 0} (f : Form B A) (s : List B) (n k : ℕ) → input_of f s ≡ Fault n k → inputs.FirstFault f f.limit s n k
first-fault-decides f s n k e = inputs.first-fault f s n k e

-- and where there is none every item is told
pub every-item : {B A : Type 0} (f : Form B A) (s : List B) (l : List A) → input_of f s ≡ Items l → inputs.AllItems f f.limit s l
every-item f s l e = inputs.all-items f s l e
