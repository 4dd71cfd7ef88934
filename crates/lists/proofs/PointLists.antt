-- Points from and to numbers: either way undoes the other, entry by entry, at the front and from an entry on. By the definitions' own cases. Assumes nothing.
use mathlib.Core.Path.{◌≡◌, refl, sym, ap, ◌∙◌}
use mathlib.Core.List.{List, [], ◌∷◌, ◌++◌}
use Prim.Native.Nat.{ℕ, zero, suc, ◌+◌, ◌*◌, ◌/◌, ◌%◌, ◌≤◌, ◌<◌}
use native.Mathlib.Nat.{not-suc-le-zero}
use native.Mathlib.Numerals.{add-one}
use native.Mathlib.Omega.{arith}
use lib.ListN.{length, take, drop, get_or, get_or-eq_default}
use Rattle.std.proofs.lemmas.List.{get_or-drop}
use lib.Seq.{drop-cons, drop-length, drop-nil, take-nil}
use lib.Ieee.{Float, nan}
use Rattle.s2.specs.declared.latlng.LatLng.{LatLng}
use Rattle.s2.specs.Zone.{at}
use Rattle.lists.specs.Points.{points_of, point_at, lat_lngs_of}

-- ---- one point more
pub two : (l : List Float) (i : ℕ) → i + 1 < length l → points_of (drop i l) ≡ point_at l i ∷ points_of (drop (i + 2) l)
unfolding points_of
two l i h = rw (drop-cons l i nan (omega arith), drop-cons l (suc i) nan (omega arith)) (rw (add-one i, more i) refl)
  where
    more : (k : ℕ) → k + 2 ≡ suc (suc k)
    more k = omega arith

pub none_left : (l : List Float) → points_of (drop (length l) l) ≡ []
unfolding points_of
none_left l = rw (drop-length l) refl

-- past the end there is no number
pub past_end : (l : List Float) (i : ℕ) → length l ≤ i → point_at l i ≡ at nan nan
past_end l i h = rw (get_or-eq_default l nan h, get_or-eq_default l nan {n = i + 1} (omega arith)) refl

-- the point that what is left begins with
pub point_from : (l : List Float) (i : ℕ) → at (get_or (drop i l) 0 nan) (get_or (drop i l) 1 nan) ≡ point_at l i
point_from l i = rw (get_or-drop i l 0 nan, get_or-drop i l 1 nan, none i) refl
  where
    none : (i : ℕ) → i + 0 ≡ i
    none i = omega arith

-- ---- lengths
pub length-points : (l : List Float) → length (points_of l) ≡ length l / 2
unfolding points_of
length-points [] = refl
length-points (a ∷ []) = refl
length-points (a ∷ (b ∷ l)) = omega (arith, length-points l)

pub length-latlngs : (ps : List LatLng) → length (lat_lngs_of ps) ≡ 2 * length ps
unfolding lat_lngs_of
length-latlngs [] = refl
length-latlngs (p ∷ ps) = omega (arith, length-latlngs ps)

-- ---- there and back
pub points-latlngs : (ps : List LatLng) → points_of (lat_lngs_of ps) ≡ ps
unfolding lat_lngs_of points_of
points-latlngs [] = refl
points-latlngs (p ∷ ps) = ap (λ (l : List LatLng). p ∷ l) (points-latlngs ps)

pub latlngs-points : (l : List Float) → length l % 2 ≡ 0 → lat_lngs_of (points_of l) ≡ l
unfolding lat_lngs_of points_of
latlngs-points [] h = refl
latlngs-points (a ∷ []) h = absurd (omega arith)
latlngs-points (a ∷ (b ∷ l)) h = ap (λ (m : List Float). a ∷ (b ∷ m)) (latlngs-points l (omega arith))

-- ---- one list after another
pub latlngs-append : (ps qs : List LatLng) → lat_lngs_of (ps ++ qs) ≡ lat_lngs_of ps ++ lat_lngs_of qs
unfolding lat_lngs_of
latlngs-append [] qs = refl
latlngs-append (p ∷ ps) qs = ap (λ (m : List Float). p.lat ∷ (p.lng ∷ m)) (latlngs-append ps qs)

pub points-append : (ps : List LatLng) (l : List Float) → points_of (lat_lngs_of ps ++ l) ≡ ps ++ points_of l
unfolding lat_lngs_of points_of
points-append [] l = refl
points-append (p ∷ ps) l = ap (λ (m : List LatLng). p ∷ m) (points-append ps l)

-- ---- entries at the front, and from an entry on
twos : (k : ℕ) → 2 * suc k ≡ suc (suc (2 * k))
twos k = omega arith

pub points-take : (k : ℕ) (l : List Float) → points_of (take (2 * k) l) ≡ take k (points_of l)
unfolding points_of
points-take zero l = refl
points-take (suc k) [] = ap points_of (take-nil (2 * suc k))
points-take (suc k) (a ∷ []) = ap (λ (i : ℕ). points_of (take i (a ∷ []))) (twos k)
points-take (suc k) (a ∷ (b ∷ l)) =
    ap (λ (i : ℕ). points_of (take i (a ∷ (b ∷ l)))) (twos k) ∙ ap (λ (m : List LatLng). point_at (a ∷ (b ∷ l)) 0 ∷ m) (points-take k l)

pub points-drop : (k : ℕ) (l : List Float) → points_of (drop (2 * k) l) ≡ drop k (points_of l)
unfolding points_of
points-drop zero l = refl
points-drop (suc k) [] = ap points_of (drop-nil (2 * suc k))
points-drop (suc k) (a ∷ []) = ap (λ (i : ℕ). points_of (drop i (a ∷ []))) (twos k) ∙ ap points_of (drop-nil (suc (2 * k)))
points-drop (suc k) (a ∷ (b ∷ l)) = ap (λ (i : ℕ). points_of (drop i (a ∷ (b ∷ l)))) (twos k) ∙ points-drop k l

-- the entry k stands at the number 2 k
pub point-entry : (l : List Float) (k : ℕ) (p : LatLng) → k < length (points_of l) → get_or (points_of l) k p ≡ point_at l (2 * k)
unfolding points_of
point-entry [] k p h = absurd (not-suc-le-zero h)
point-entry (a ∷ []) k p h = absurd (not-suc-le-zero h)
point-entry (a ∷ (b ∷ l)) zero p h = refl
point-entry (a ∷ (b ∷ l)) (suc k) p h = point-entry l k p (omega arith) ∙ sym (rw (twos k, one k) refl)
  where
    one : (k : ℕ) → suc (suc (2 * k)) + 1 ≡ suc (suc (2 * k + 1))
    one k = omega arith
