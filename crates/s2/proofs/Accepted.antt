-- The answers within the limits: accepted, and Rect's definition of the operands as they are read. Assumes nothing.
use mathlib.Core.Path.{◌≡◌}
use Prim.Native.Nat.{ℕ}
use Rattle.consts.specs.Refusal.{first_refusal}
use Rattle.s2.specs.declared.latlng.LatLng.{LatLng}
use Rattle.s2.specs.declared.rect.Rect.{Rect}
use Rattle.s2.specs.Zone as zone
use Rattle.s2.specs.Reading.{as_read, plain_point}
use Rattle.s2.specs.Answers.{rect_answer, lat_lng_answer, from_lat_lng, from_center_size, from_point_pair, vertex, expanded, polar_closure, union, intersection, add}
use Rattle.s2.specs.Places.{Valid, ValidPoint, Margins}
use Rattle.s2.proofs.Readings.{one_in, two_in, point-in, margins-in, with-margins-in}

module _ (r : Rect) (v : Valid r) where
  pub union-is : (o : Rect) → Valid o → union r o ≡ rect_answer (zone.union (as_read r) (as_read o))
  unfolding union
  union-is o w = simp (two_in r v o w)

  pub intersection-is : (o : Rect) → Valid o → intersection r o ≡ rect_answer (zone.intersection (as_read r) (as_read o))
  unfolding intersection
  intersection-is o w = simp (two_in r v o w)

  pub closure-is : polar_closure r ≡ rect_answer (zone.polar_closure (as_read r))
  unfolding polar_closure
  closure-is = simp (one_in r v)

  pub vertex-is : (n : ℕ) → vertex r n ≡ lat_lng_answer (zone.vertex (as_read r) n)
  unfolding vertex
  vertex-is n = simp (one_in r v)

  pub expanded-is : (m : LatLng) → Margins m → expanded r m ≡ rect_answer (zone.expanded (as_read r) (plain_point m))
  unfolding expanded
  expanded-is m n = simp (with-margins-in r v m n)

  pub add_is : (p : LatLng) → ValidPoint p → add r p ≡ rect_answer (zone.add (as_read r) (plain_point p))
  unfolding add
  add_is p q = simp (one_in r v, point-in p q)

module _ (p : LatLng) (q : ValidPoint p) where
  pub from-latlng-is : from_lat_lng p ≡ rect_answer (zone.from_lat_lng (plain_point p))
  unfolding from_lat_lng
  from-latlng-is = simp (point-in p q)

  pub center-size-is : (s : LatLng) → Margins s → from_center_size p s ≡ rect_answer (zone.from_center_size (plain_point p) (plain_point s))
  unfolding from_center_size first_refusal
  center-size-is s n = simp (point-in p q, margins-in s n)

  pub pair_is : (p' : LatLng) → ValidPoint p' → from_point_pair p p' ≡ rect_answer (zone.from_point_pair (plain_point p) (plain_point p'))
  unfolding from_point_pair first_refusal
  pair_is p' q' = simp (point-in p q, point-in p' q')
