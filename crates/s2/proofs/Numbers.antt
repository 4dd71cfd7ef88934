-- Which numbers an answer has: the corners in the stated order, and the edges of growth. Assumes nothing.
use mathlib.Core.Path.{◌≡◌, refl}
use mathlib.Core.Logic.{◌⊎◌, inl, inr}
use Prim.Native.Nat.{ℕ, ◌%◌}
use native.Mathlib.Nat.{mod-mod}
use Rattle.consts.specs.Reading.{plain}
use Rattle.r1.proofs.Ends.{read-add-ends}
use Rattle.s1.specs.Circle.{seam}
use Rattle.s1.proofs.Ends as circles
use Rattle.s2.specs.declared.latlng.LatLng.{LatLng}
use Rattle.s2.specs.declared.rect.Rect.{Rect}
use Rattle.s2.specs.Zone as zone
use Rattle.s2.specs.Zone.{at}
use Rattle.s2.specs.Reading.{as_read}
use Rattle.s2.specs.Answers.{lat_lng_answer, vertex, add}
use Rattle.s2.specs.Places.{Valid, ValidPoint, Edges}
use Rattle.s2.proofs.Accepted.{vertex-is, add_is}

-- ---- the corners
module _ (r : Rect) (v : Valid r) where
  pub vertex-lower-left : vertex r 0 ≡ lat_lng_answer (at (as_read r).lat.lo (as_read r).lng.lo)
  unfolding zone.vertex
  vertex-lower-left = vertex-is r v 0

  pub vertex-lower-right : vertex r 1 ≡ lat_lng_answer (at (as_read r).lat.lo (as_read r).lng.hi)
  unfolding zone.vertex
  vertex-lower-right = vertex-is r v 1

  pub vertex-upper-right : vertex r 2 ≡ lat_lng_answer (at (as_read r).lat.hi (as_read r).lng.hi)
  unfolding zone.vertex
  vertex-upper-right = vertex-is r v 2

  pub vertex-upper-left : vertex r 3 ≡ lat_lng_answer (at (as_read r).lat.hi (as_read r).lng.lo)
  unfolding zone.vertex
  vertex-upper-left = vertex-is r v 3

-- the number is reduced modulo 4
pub vertex-modulo : (r : Rect) (n : ℕ) → vertex r n ≡ vertex r (n % 4)
unfolding vertex zone.vertex
vertex-modulo r n = simp mod-mod

-- ---- growth
pub add-edges : (r : Rect) (p : LatLng) → Valid r → ValidPoint p → Edges r (add r p).value p
unfolding zone.add
add-edges r p v q =
    let a =
    read-add-ends (λ y. (y ≡ (as_read r).lat.lo) ⊎ (y ≡ plain p.lat)) (λ y. (y ≡ (as_read r).lat.hi) ⊎ (y ≡ plain p.lat)) (plain p.lat) (inr refl) (inr refl) (as_read r).lat (inl refl, inl refl) in
    let b =
    circles.read-add-ends (λ y. (y ≡ (as_read r).lng.lo) ⊎ (y ≡ seam (plain p.lng))) (λ y. (y ≡ (as_read r).lng.hi) ⊎ (y ≡ seam (plain p.lng))) (plain p.lng) (inr refl) (inr refl) (as_read r).lng (inl refl, inl refl) in
    rw (add_is r v p q) (record { south = a.0; north = a.1; west = b.0; east = b.1 })
