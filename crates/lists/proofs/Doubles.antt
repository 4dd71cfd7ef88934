-- The numbers that a program hands in are doubles. A rectangle or a point of doubles is accepted exactly when it is valid, and so are all entries of a list. By the
-- definition's own cases. Assumes nothing.
use mathlib.Core.Path.{◌≡◌, refl, sym, ap, ◌∙◌}
use mathlib.Core.Bool.{Bool, true, false, cond}
use mathlib.Core.List.{List, [], ◌∷◌}
use mathlib.Core.Logic.{◌⊎◌, inl, inr, ◌↔◌}
use Prim.Native.Nat.{ℕ, suc}
use native.Mathlib.Omega.{arith}
use borrow.Author.Tests.{eqb-true, eqb-false}
use lib.ListN.{get_or}
use lib.Dec.{T, eqb}
use lib.Ieee.{Float, nan, binary64, fits}
use Rattle.order.proofs.Ranks.{and_l, and_r}
use Rattle.consts.specs.Refusal.{number, accepted, bad_point, first_refusal}
use Rattle.consts.specs.Reading.{in_reach}
use Rattle.s1.specs.Circle as circle
use Rattle.s2.specs.declared.latlng.LatLng.{LatLng}
use Rattle.s2.specs.declared.rect.Rect.{Rect}
use Rattle.s2.specs.Reading.{One}
use Rattle.s2.specs.Reading.{Pair}
use Rattle.s2.specs.Zone.{is_valid, valid_latitudes, is_lat_lng}
use Rattle.s2.specs.Reading.{rect_in_reach, read_point}
use Rattle.s2.specs.Places.{Doubles, DoublePoint, Valid, ValidPoint}
use Rattle.s2.proofs.Readings.{one_in, one_out, one-not-valid, point-in}
use Rattle.entries.specs.Lists.{Mem, first, later, All}
use Rattle.lists.specs.Rects.{rects_of}
use Rattle.lists.specs.Points.{points_of}
use Rattle.entries.specs.First.{first_number}
use Rattle.lists.specs.Refused.{of_rect, of_point, first_refused, first_bad}
use Rattle.entries.proofs.FirstLaws.{Good, none-when}

-- ---- a rectangle
pub valid-of : (r : Rect) → Doubles r → rect_in_reach r ≡ true → is_valid r ≡ true → Valid r
unfolding rect_in_reach is_valid
valid-of r d k h =
    let reach = and_l _ _ (and_l _ _ k) in
    record {
      lat-reach = record {
        lo-place = record { is-double = d.lat-lo; in-reach = and_l _ _ reach };
        hi-place = record { is-double = d.lat-hi; in-reach = and_r (in_reach r.lat.lo) _ reach };
      };
      lng-valid = record { lo-double = d.lng-lo; hi-double = d.lng-hi; is-valid = and_r (valid_latitudes r.lat) (circle.is_valid r.lng) (and_l _ _ h) };
      is-valid = h;
    }

pub accepted-valid : (r : Rect) → Doubles r → of_rect r ≡ 0 → Valid r
accepted-valid r d h = go (rect_in_reach r) (is_valid r) refl refl
  where
    go : (s t : Bool) → rect_in_reach r ≡ s → is_valid r ≡ t → Valid r
    go true true a b = valid-of r d a b
    go true false a b = absurd ((one-not-valid r a b).1 h)
    go false t a b = absurd (omega (arith, sym (one_out r a) ∙ h))

-- so a rectangle is valid, or it is refused
pub rect-decided : (r : Rect) → Doubles r → Valid r ⊎ (of_rect r ≡ 0 → ⊥)
rect-decided r d = go (eqb (of_rect r) 0) refl
  where
    go : (t : Bool) → eqb (of_rect r) 0 ≡ t → Valid r ⊎ (of_rect r ≡ 0 → ⊥)
    go true e = inl (accepted-valid r d (eqb-true (of_rect r) 0 e))
    go false e = inr (eqb-false (of_rect r) 0 e)

-- ---- a point
pub point-of : (p : LatLng) → DoublePoint p → is_lat_lng p ≡ true → ValidPoint p
point-of p d h = record { lat-double = d.lat-double; lng-double = d.lng-double; is-valid = h }

pub accepted-point : (p : LatLng) → DoublePoint p → of_point p ≡ 0 → ValidPoint p
unfolding read_point
accepted-point p d h = go (is_lat_lng p) refl h
  where
    go : (t : Bool) → is_lat_lng p ≡ t → ◌≡◌ {A = ℕ} (cond t 0 3) 0 → ValidPoint p
    go true a e = point-of p d a
    go false a e = absurd (omega (arith, e))

-- ---- the numbers of a list
is_true : (b : Bool) → T b → b ≡ true
is_true true t = refl
is_true false t = absurd t

pub all-doubles : (l : List Float) → ((i : ℕ) → T (fits binary64 (get_or l i nan))) → All Doubles (rects_of l)
unfolding rects_of
all-doubles [] f = tt
all-doubles (a ∷ []) f = tt
all-doubles (a ∷ (b ∷ [])) f = tt
all-doubles (a ∷ (b ∷ (c ∷ []))) f = tt
all-doubles (a ∷ (b ∷ (c ∷ (d ∷ l)))) f =
    (record { lat-lo = is_true _ (f 0); lat-hi = is_true _ (f 1); lng-lo = is_true _ (f 2); lng-hi = is_true _ (f 3) }, all-doubles l (λ i. f (suc (suc (suc (suc i))))))

pub all-double-points : (l : List Float) → ((i : ℕ) → T (fits binary64 (get_or l i nan))) → All DoublePoint (points_of l)
unfolding points_of
all-double-points [] f = tt
all-double-points (a ∷ []) f = tt
all-double-points (a ∷ (b ∷ l)) f = (record { lat-double = is_true _ (f 0); lng-double = is_true _ (f 1) }, all-double-points l (λ i. f (suc (suc i))))

-- ---- a list of rectangles: none is refused exactly when all are valid
good-valid : (rs : List Rect) → All Doubles rs → All (Good of_rect) rs → All Valid rs
good-valid [] d a = tt
good-valid (r ∷ l) d a = (accepted-valid r d.0 a.0, good-valid l d.1 a.1)

valid-good : (rs : List Rect) → All Valid rs → All (Good of_rect) rs
valid-good [] v = tt
valid-good (r ∷ l) v = (ap (λ (x : One). x.refusal) (one_in r v.0), valid-good l v.1)

pub rects-accepted : (rs : List Rect) → All Doubles rs → (first_refused rs ≡ 0) ↔ All Valid rs
rects-accepted rs d = ((λ e. good-valid rs d ((none-when of_rect rs).0 e)), (λ v. (none-when of_rect rs).1 (valid-good rs v)))

pub all_valid : (l : List Float) → ((i : ℕ) → T (fits binary64 (get_or l i nan))) → first_refused (rects_of l) ≡ 0 → All Valid (rects_of l)
all_valid l f h = (rects-accepted (rects_of l) (all-doubles l f)).0 h

-- ---- a list of points: the same, and else it is refused with 3
good-point : (ps : List LatLng) → All DoublePoint ps → All (Good of_point) ps → All ValidPoint ps
good-point [] d a = tt
good-point (p ∷ l) d a = (accepted-point p d.0 a.0, good-point l d.1 a.1)

valid-point : (ps : List LatLng) → All ValidPoint ps → All (Good of_point) ps
valid-point [] v = tt
valid-point (p ∷ l) v = (ap (λ (x : Pair). x.refusal) (point-in p v.0), valid-point l v.1)

pub points-accepted : (ps : List LatLng) → All DoublePoint ps → (first_bad ps ≡ 0) ↔ All ValidPoint ps
points-accepted ps d = ((λ e. good-point ps d ((none-when of_point ps).0 e)), (λ v. (none-when of_point ps).1 (valid-point ps v)))

pub good-points : (ps : List LatLng) → All ValidPoint ps → first_bad ps ≡ 0
good-points ps v = (none-when of_point ps).1 (valid-point ps v)

pub bad-among : {p : LatLng} {ps : List LatLng} → Mem p ps → is_lat_lng p ≡ false → first_bad ps ≡ number bad_point
unfolding first_number first_refusal read_point
bad-among first h = simp h
bad-among (later {y} {l} m) h = go (is_lat_lng y) (bad-among m h)
  where
    go : (t : Bool) → first_bad l ≡ number bad_point → first_refusal (cond t (number accepted) (number bad_point)) (first_bad l) ≡ number bad_point
    go true ih = ih
    go false ih = refl

-- a list of points is accepted, or one of them is bad
pub points-decided : (ps : List LatLng) → (first_bad ps ≡ number accepted) ⊎ ((p : LatLng) × Mem p ps × (is_lat_lng p ≡ false))
unfolding first_number first_refusal read_point
points-decided [] = inl refl
points-decided (p ∷ l) = go (is_lat_lng p) refl (points-decided l)
  where
    go : (t : Bool) → is_lat_lng p ≡ t → (first_bad l ≡ number accepted) ⊎ ((q : LatLng) × Mem q l × (is_lat_lng q ≡ false))
        → (first_refusal (cond t (number accepted) (number bad_point)) (first_bad l) ≡ number accepted) ⊎ ((q : LatLng) × Mem q (p ∷ l) × (is_lat_lng q ≡ false))
    go true e (inl ih) = inl ih
    go true e (inr ih) = inr (ih.0, later ih.1, ih.2)
    go false e ih = inr (p, first, e)
