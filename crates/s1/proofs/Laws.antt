-- The laws of the circle on operands that have been read, for the layers above, which read their own: what each choice answers is valid, and what the
-- tests and choices mean over places. Assumes nothing.
use mathlib.Core.Path.{◌≡◌, refl}
use mathlib.Core.Bool.{Bool, true, false, cond}
use mathlib.Core.Logic.{◌↔◌, ◌⊎◌, inl, inr}
use lib.Ieee.{Float, le}
use Rattle.order.proofs.Ranks.{or_at}
use Rattle.order.proofs.Choices.{same_test}
use Rattle.consts.specs.Constants.{PI}
use Rattle.s1.specs.declared.interval.Interval.{Interval}
use Rattle.s1.specs.Circle.{ends, positive_distance, seam, from_point_pair, is_full, is_empty, contains_interval, interior_contains, interior_contains_interval, intersects, interior_intersects, union, intersection, add, eq}
use Rattle.s1.specs.Places.{holds, strictly_holds, Place, Valid, Inside, StrictlyInside, Meets, StrictlyMeets, Nothing, Everything}
use Rattle.s1.proofs.Held as held
use Rattle.s1.proofs.Held.{at-PI, seam-stays}
use Rattle.s1.proofs.Limits.{OnCircle, seam-place}

module _ {i o : Interval} (v : Valid i) (w : Valid o) where
  -- ---- the tests
  pub contains-inside : (contains_interval i o ≡ true) ↔ Inside i o
  contains-inside = (λ h p g q k. held.contains-fwd v w q h k, held.contains-bwd v w at-PI)

  pub meets-shared : (intersects i o ≡ true) ↔ Meets i o
  meets-shared = (held.meets-fwd v w at-PI, λ m. held.meets-bwd v w m.2 m.3 m.4)

  pub same-places : (eq i o ≡ true) ↔ (Inside i o × Inside o i)
  same-places = (held.same-inside i o v w, λ H. held.inside-same i o v w H.0 H.1)

  -- ---- the interior tests
  pub strictly-contains-inside : (interior_contains_interval i o ≡ true) ↔ StrictlyInside i o
  strictly-contains-inside = (λ h p g q k. held.strict-fwd v w q h k, held.strict-bwd v w at-PI)

  pub strictly-meets-shared : (interior_intersects i o ≡ true) ↔ StrictlyMeets i o
  strictly-meets-shared = (held.strict-meets-fwd v w at-PI, λ m. held.strict-meets-bwd v w m.2 m.3 m.4)

  -- ---- the union
  pub read-union-valid : Valid (union i o)
  read-union-valid = held.read-union-valid i o v w

  pub read-union-holds : Inside (union i o) i × Inside (union i o) o
  read-union-holds = held.read-union-holds i o v w

  pub read-union-only : Meets i o → (p : Float) (g : Bool) → Place p g → holds (union i o) p g ≡ true → (holds i p g ≡ true) ⊎ (holds o p g ≡ true)
  read-union-only m p g q h = or_at _ _ (held.union-bwd v w q (meets-shared.1 m) h)

  -- ---- the intersection
  pub read-intersection-valid : Valid (intersection i o)
  read-intersection-valid = held.read-intersection-valid i o v w

  pub read-intersection-holds : (p : Float) (g : Bool) → Place p g → holds i p g ≡ true → holds o p g ≡ true → holds (intersection i o) p g ≡ true
  read-intersection-holds p g q h k = held.intersection-fwd v w q h k

  pub read-intersection-within : Inside i (intersection i o) ⊎ Inside o (intersection i o)
  read-intersection-within = go (or_at _ _ (held.intersection-in v w at-PI))
    where
      go : (contains_interval i (intersection i o) ≡ true) ⊎ (contains_interval o (intersection i o) ≡ true) → Inside i (intersection i o) ⊎ Inside o (intersection i o)
      go (inl h) = inl (λ p g q k. held.contains-fwd v read-intersection-valid q h k)
      go (inr h) = inr (λ p g q k. held.contains-fwd w read-intersection-valid q h k)

pub empty-nothing : {i : Interval} → Valid i → (is_empty i ≡ true) ↔ Nothing i
empty-nothing {i} v = (λ h p g q k. held.clash (holds i p g) k (held.empty-fwd v v q h), held.empty-bwd v v at-PI)

pub full-everything : {i : Interval} → Valid i → (is_full i ≡ true) ↔ Everything i
full-everything v = (λ h p g q. held.full-fwd v v q h, held.full-bwd v v at-PI)

-- the interior test of a point is that of its place
pub strictly-has-place : {i : Interval} {p : Float} → Valid i → OnCircle p → interior_contains i p ≡ strictly_holds i (seam p) false
unfolding interior_contains is_full
strictly-has-place v q = let e = held.strictly-has v v (seam-place q) refl in same_test _ _ e.0 e.1

-- ---- growth by a point, by its place
module _ {i : Interval} {p : Float} (v : Valid i) (q : OnCircle p) where
  at-seam : add i (seam p) ≡ add i p
  unfolding add
  at-seam = rw (seam-stays (seam-place q))

  pub read-add-valid : Valid (add i p)
  read-add-valid = rw at-seam at (held.read-add-valid i (seam p) v (seam-place q))

  pub add-keeps : Inside (add i p) i
  add-keeps = rw at-seam at (held.add-inside i (seam p) v (seam-place q))

  pub add-takes : holds (add i p) (seam p) false ≡ true
  add-takes = rw at-seam at (held.read-add-holds i (seam p) v (seam-place q))

-- ---- from one point to another
module _ {p q : Float} (a : OnCircle p) (b : OnCircle q) where
  by_way : (P : Interval → Type 0) → P (ends (seam p) (seam q)) → P (ends (seam q) (seam p)) → P (from_point_pair p q)
  unfolding from_point_pair
  by_way P x y = go (le (positive_distance (seam p) (seam q)) PI)
    where
      go : (t : Bool) → P (cond t (ends (seam p) (seam q)) (ends (seam q) (seam p)))
      go true = x
      go false = y

  pub pair-valid : Valid (from_point_pair p q)
  pair-valid = by_way Valid (held.between-valid (seam p) (seam q) (seam-place a) (seam-place b)) (held.between-valid (seam q) (seam p) (seam-place b) (seam-place a))

  pub pair-holds : (holds (from_point_pair p q) (seam p) false ≡ true) × (holds (from_point_pair p q) (seam q) false ≡ true)
  pair-holds =
      let x = held.between-holds (seam p) (seam q) (seam-place a) (seam-place b) in
      let y = held.between-holds (seam q) (seam p) (seam-place b) (seam-place a) in
      by_way (λ u. (holds u (seam p) false ≡ true) × (holds u (seam q) false ≡ true)) x (y.1, y.0)
