-- The circle interval over places: what document 01 and the comments of s1interval.h say of each operation, for all valid operands, of the answers
-- themselves. Each follows from Held, at the operands as they are read. Assumes nothing.
use mathlib.Core.Path.{◌≡◌, sym, ap, ◌∙◌}
use mathlib.Core.Bool.{Bool, true, false, not}
use mathlib.Core.Logic.{◌⊎◌, inl, inr, ◌↔◌}
use lib.Ieee.{Float, eq}
use Rattle.order.proofs.Ranks.{and_l, and_r}
use Rattle.consts.specs.Constants.{NEG-PI}
use Rattle.consts.specs.Refusal.{first_refusal}
use Rattle.consts.specs.Answer.{yes_no, Decides}
use Rattle.consts.specs.Reading.{plain}
use Rattle.order.specs.Key.{Num}
use Rattle.consts.proofs.Readings.{plain-num, plain-plain, plain-same}
use Rattle.consts.proofs.Decisions.{decides}
use Rattle.s1.specs.declared.interval.Interval.{Interval}
use Rattle.s1.specs.Circle as circle
use Rattle.s1.specs.Circle.{seam}
use Rattle.s1.specs.Reading.{plain_ends}
use Rattle.s1.specs.Answers as answers
use Rattle.s1.specs.Answers.{circle_answer, is_valid, is_full, is_empty, contains, fast_contains, interior_contains, contains_interval, interior_contains_interval, intersects, interior_intersects, union, intersection, complement, from_point_pair, add}
use Rattle.s1.specs.Places.{holds, strictly_holds, Place, Valid, Inside, StrictlyInside, Meets, StrictlyMeets, Nothing, Everything}
use Rattle.s1.proofs.Held as held
use Rattle.s1.proofs.Held.{at-num}
use Rattle.s1.proofs.Laws as laws
use Rattle.s1.proofs.Limits.{OnCircle, valid-plain, holds_plain, strict-plain, point-plain, strict-point, circle-plain, point-num, seam-place, seam-plain, one_in, two_in, point-in, read-point}

-- ---- an interval and itself as it is read
module _ {i : Interval} (v : Valid i) {p : Float} {g : Bool} (q : Place p g) where
  to-plain : holds i p g ≡ true → holds (plain_ends i) p g ≡ true
  to-plain h = holds_plain i v p g (at-num q) ∙ h

  from-plain : holds (plain_ends i) p g ≡ true → holds i p g ≡ true
  from-plain h = sym (holds_plain i v p g (at-num q)) ∙ h

  to-strict : strictly_holds i p g ≡ true → strictly_holds (plain_ends i) p g ≡ true
  to-strict h = strict-plain i v p g (at-num q) ∙ h

  from-strict : strictly_holds (plain_ends i) p g ≡ true → strictly_holds i p g ≡ true
  from-strict h = sym (strict-plain i v p g (at-num q)) ∙ h

pub inside-plain : {i o : Interval} → Valid i → Valid o → Inside i o → Inside (plain_ends i) (plain_ends o)
inside-plain v w H p g q h = to-plain v q (H p g q (from-plain w q h))

pub plain-inside : {i o : Interval} → Valid i → Valid o → Inside (plain_ends i) (plain_ends o) → Inside i o
plain-inside v w H p g q h = from-plain v q (H p g q (to-plain w q h))

pub nothing-plain : {i : Interval} → Valid i → Nothing i → Nothing (plain_ends i)
nothing-plain v H p g q h = H p g q (from-plain v q h)

-- ---- one interval
module _ (i : Interval) (v : Valid i) where
  abbrev v₁ : Valid (plain_ends i)
  v₁ = valid-plain i v

  -- an accepted validity test says yes
  pub is-valid-says : is_valid i ≡ yes_no true
  unfolding is_valid
  is-valid-says = simp (one_in i v)

  -- `is_empty` exactly when no place is held, `is_full` exactly when every place is
  pub is-empty-places : Decides (is_empty i) (Nothing i)
  unfolding is_empty
  is-empty-places =
      decides {b = circle.is_empty (plain_ends i)} (simp (one_in i v))
      (λ e p g q h. (laws.empty-nothing v₁).0 e p g q (to-plain v q h))
      (λ H. (laws.empty-nothing v₁).1 (nothing-plain v H))

  pub is-full-places : Decides (is_full i) (Everything i)
  unfolding is_full
  is-full-places =
      decides {b = circle.is_full (plain_ends i)} (simp (one_in i v))
      (λ e p g q. from-plain v q ((laws.full-everything v₁).0 e p g q))
      (λ H. (laws.full-everything v₁).1 (λ p g q. to-plain v q (H p g q)))

  -- the complement holds exactly the places that do not lie strictly inside
  pub complement-is : complement i ≡ circle_answer (circle.complement (plain_ends i))
  unfolding complement
  complement-is = simp (one_in i v)

  pub complement-places : (p : Float) (g : Bool) → Place p g → (holds (complement i).value p g ≡ true) ↔ (not (strictly_holds i p g) ≡ true)
  complement-places p g q =
      rw complement-is (
        λ h. ap not (sym (strict-plain i v p g (at-num q))) ∙ (held.rest-places v₁ v₁ q).1 h,
        λ h. (held.rest-places v₁ v₁ q).0 (ap not (strict-plain i v p g (at-num q)) ∙ h),
      )

  pub complement-valid : Valid (complement i).value
  complement-valid = rw complement-is (held.rest-valid (plain_ends i) (plain_ends i) v₁ v₁)

  -- `contains` exactly when the place of the point, -PI read as PI, is held
  module _ (p : Float) (q : OnCircle p) where
    abbrev n : Num (seam p) ≡ true
    n = at-num (seam-place q)

    pub contains-place : Decides (contains i p) (holds i (seam p) false ≡ true)
    unfolding contains circle.contains circle.fast_contains circle.is_empty
    contains-place =
        let e : holds (plain_ends i) (seam (plain p)) false ≡ holds i (seam p) false =
        rw (seam-plain q) (holds_plain i v (plain (seam p)) false (plain-num (seam p) n) ∙ point-plain i v (seam p) false n) in
        decides {b = holds (plain_ends i) (seam (plain p)) false} (simp (point-in i v p q)) (λ h. sym e ∙ h) (λ h. e ∙ h)

    -- `fast_contains` of a point other than -PI too (of -PI itself docs/DIFFERENCES.md, F7)
    pub fast-contains-place : eq p NEG-PI ≡ false → Decides (fast_contains i p) (holds i (seam p) false ≡ true)
    unfolding fast_contains circle.fast_contains circle.is_empty seam
    fast-contains-place k =
        let m = point-num q in
        let e : holds (plain_ends i) (plain p) false ≡ holds i p false = holds_plain i v (plain p) false (plain-num p m) ∙ point-plain i v p false m in
        rw k (decides {b = holds (plain_ends i) (plain p) false} (simp (point-in i v p q)) (λ h. sym e ∙ h) (λ h. e ∙ h))

    -- `interior_contains` exactly when it lies strictly inside
    pub interior-contains-place : Decides (interior_contains i p) (strictly_holds i (seam p) false ≡ true)
    unfolding interior_contains
    interior-contains-place =
        let e : circle.interior_contains (plain_ends i) (plain p) ≡ strictly_holds i (seam p) false =
        laws.strictly-has-place v₁ (circle-plain q)
        ∙ rw (seam-plain q) (strict-plain i v (plain (seam p)) false (plain-num (seam p) n) ∙ strict-point i v (seam p) false n) in
        decides {b = circle.interior_contains (plain_ends i) (plain p)} (simp (point-in i v p q)) (λ h. sym e ∙ h) (λ h. e ∙ h)

-- ---- two intervals
module _ (i o : Interval) (v : Valid i) (w : Valid o) where
  abbrev v' : Valid (plain_ends i)
  v' = valid-plain i v

  abbrev w' : Valid (plain_ends o)
  w' = valid-plain o w

  meets-plain : Meets i o → Meets (plain_ends i) (plain_ends o)
  meets-plain m = (m.0, m.1, m.2, to-plain v m.2 m.3, to-plain w m.2 m.4)

  -- `contains_interval` exactly when each place of the other is in this one
  pub contains-interval-places : Decides (contains_interval i o) (Inside i o)
  unfolding contains_interval
  contains-interval-places =
      decides {b = circle.contains_interval (plain_ends i) (plain_ends o)} (simp (two_in i o v w))
      (λ h. plain-inside v w ((laws.contains-inside v' w').0 h)) (λ H. (laws.contains-inside v' w').1 (inside-plain v w H))

  -- `interior_contains_interval` exactly when each place of the other lies strictly inside
  pub interior-contains-interval-places : Decides (interior_contains_interval i o) (StrictlyInside i o)
  unfolding interior_contains_interval
  interior-contains-interval-places =
      decides {b = circle.interior_contains_interval (plain_ends i) (plain_ends o)} (simp (two_in i o v w))
      (λ h p g q k. from-strict v q ((laws.strictly-contains-inside v' w').0 h p g q (to-plain w q k)))
      (λ H. (laws.strictly-contains-inside v' w').1 (λ p g q h. to-strict v q (H p g q (from-plain w q h))))

  -- `intersects` exactly when a place is shared, `interior_intersects` exactly when one strictly inside is
  pub intersects-places : Decides (intersects i o) (Meets i o)
  unfolding intersects
  intersects-places =
      decides {b = circle.intersects (plain_ends i) (plain_ends o)} (simp (two_in i o v w))
      (λ h. let m = (laws.meets-shared v' w').0 h in (m.0, m.1, m.2, from-plain v m.2 m.3, from-plain w m.2 m.4))
      (λ m. (laws.meets-shared v' w').1 (meets-plain m))

  pub interior-intersects-places : Decides (interior_intersects i o) (StrictlyMeets i o)
  unfolding interior_intersects
  interior-intersects-places =
      decides {b = circle.interior_intersects (plain_ends i) (plain_ends o)} (simp (two_in i o v w))
      (λ h. let m = (laws.strictly-meets-shared v' w').0 h in (m.0, m.1, m.2, from-strict v m.2 m.3, from-plain w m.2 m.4))
      (λ m. (laws.strictly-meets-shared v' w').1 (m.0, m.1, m.2, to-strict v m.2 m.3, to-plain w m.2 m.4))

  -- `eq` exactly when both hold the same places
  pub equal-places : Decides (answers.eq i o) (Inside i o × Inside o i)
  unfolding answers.eq
  equal-places =
      decides {b = circle.eq (plain_ends i) (plain_ends o)} (simp (two_in i o v w))
      (λ h. (plain-inside v w ((laws.same-places v' w').0 h).0, plain-inside w v ((laws.same-places v' w').0 h).1))
      (λ H. (laws.same-places v' w').1 (inside-plain v w H.0, inside-plain w v H.1))

  -- and then their numbers, zeros alike, are equal
  pub equal-numbers : Inside i o → Inside o i → plain_ends i ≡ plain_ends o
  unfolding circle.eq
  equal-numbers H J =
      let e : circle.eq (plain_ends i) (plain_ends o) ≡ true = (laws.same-places v' w').1 (inside-plain v w H, inside-plain w v J) in
      let a = plain-same (plain i.lo) (plain o.lo) (held.lo-num v') (held.lo-num w') (plain-plain i.lo) (plain-plain o.lo) (and_l _ _ e) in
      let b = plain-same (plain i.hi) (plain o.hi) (held.hi-num v') (held.hi-num w') (plain-plain i.hi) (plain-plain o.hi) (and_r (eq (plain i.lo) (plain o.lo)) _ e) in
      λ k. record { lo = a k; hi = b k }

  -- the union holds both operands, is valid, and where they share a place holds no other
  pub union-is : union i o ≡ circle_answer (circle.union (plain_ends i) (plain_ends o))
  unfolding union
  union-is = simp (two_in i o v w)

  pub union-holds : Inside (union i o).value i × Inside (union i o).value o
  union-holds =
      rw union-is (
        λ p g q h. (laws.read-union-holds v' w').0 p g q (to-plain v q h),
        λ p g q h. (laws.read-union-holds v' w').1 p g q (to-plain w q h),
      )

  pub union-valid : Valid (union i o).value
  union-valid = rw union-is (laws.read-union-valid v' w')

  pub union-only : Meets i o → (p : Float) (g : Bool) → Place p g → holds (union i o).value p g ≡ true → (holds i p g ≡ true) ⊎ (holds o p g ≡ true)
  union-only m p g q h = go (laws.read-union-only v' w' (meets-plain m) p g q (rw union-is at h))
    where
      go : (holds (plain_ends i) p g ≡ true) ⊎ (holds (plain_ends o) p g ≡ true) → (holds i p g ≡ true) ⊎ (holds o p g ≡ true)
      go (inl e) = inl (from-plain v q e)
      go (inr e) = inr (from-plain w q e)

  -- the intersection holds every common place, is valid, and lies within one operand
  pub intersection-is : intersection i o ≡ circle_answer (circle.intersection (plain_ends i) (plain_ends o))
  unfolding intersection
  intersection-is = simp (two_in i o v w)

  pub intersection-holds : (p : Float) (g : Bool) → Place p g → holds i p g ≡ true → holds o p g ≡ true → holds (intersection i o).value p g ≡ true
  intersection-holds p g q h k = rw intersection-is (laws.read-intersection-holds v' w' p g q (to-plain v q h) (to-plain w q k))

  pub intersection-valid : Valid (intersection i o).value
  intersection-valid = rw intersection-is (laws.read-intersection-valid v' w')

  pub intersection-within : Inside i (intersection i o).value ⊎ Inside o (intersection i o).value
  intersection-within = rw intersection-is (go (laws.read-intersection-within v' w'))
    where
      u : Interval
      u = circle.intersection (plain_ends i) (plain_ends o)

      go : Inside (plain_ends i) u ⊎ Inside (plain_ends o) u → Inside i u ⊎ Inside o u
      go (inl H) = inl (λ p g q k. from-plain v q (H p g q k))
      go (inr H) = inr (λ p g q k. from-plain w q (H p g q k))

-- ---- growth by a point
module _ (i : Interval) (x : Float) (v : Valid i) where
  pub add_is : OnCircle x → add i x ≡ circle_answer (circle.add (plain_ends i) (plain x))
  unfolding add
  add_is q = simp (one_in i v, read-point x q)

-- ---- growth and pairs of points, by the place of each point, -PI read as PI
module _ (i : Interval) (x : Float) (v : Valid i) (q : OnCircle x) where
  pub add-valid : Valid (add i x).value
  add-valid = rw (add_is i x v q) (laws.read-add-valid (valid-plain i v) (circle-plain q))

  -- it holds all that was held, and the point
  pub add_holds : Inside (add i x).value i × (holds (add i x).value (seam x) false ≡ true)
  add_holds =
      let t : holds (circle.add (plain_ends i) (plain x)) (plain (seam x)) false ≡ true = rw (seam-plain q) at (laws.add-takes (valid-plain i v) (circle-plain q)) in (
        λ p g s h. rw (add_is i x v q) (laws.add-keeps (valid-plain i v) (circle-plain q) p g s (to-plain v s h)),
        sym (point-plain (add i x).value add-valid (seam x) false (at-num (seam-place q))) ∙ rw (add_is i x v q) t,
      )

module _ (x y : Float) (q : OnCircle x) (r : OnCircle y) where
  -- the interval from one place to the other, by the shorter way
  pub pair_is : from_point_pair x y ≡ circle_answer (circle.from_point_pair (plain x) (plain y))
  unfolding from_point_pair first_refusal
  pair_is = simp (read-point x q, read-point y r)

  pub from-point-pair-valid : Valid (from_point_pair x y).value
  from-point-pair-valid = rw pair_is (laws.pair-valid (circle-plain q) (circle-plain r))

  -- it holds both points
  pub from-point-pair-holds : (holds (from_point_pair x y).value (seam x) false ≡ true) × (holds (from_point_pair x y).value (seam y) false ≡ true)
  from-point-pair-holds =
      let t = laws.pair-holds (circle-plain q) (circle-plain r) in
      let a : holds (circle.from_point_pair (plain x) (plain y)) (plain (seam x)) false ≡ true = rw (seam-plain q) at t.0 in
      let b : holds (circle.from_point_pair (plain x) (plain y)) (plain (seam y)) false ≡ true = rw (seam-plain r) at t.1 in (
        sym (point-plain (from_point_pair x y).value from-point-pair-valid (seam x) false (at-num (seam-place q))) ∙ rw pair_is a,
        sym (point-plain (from_point_pair x y).value from-point-pair-valid (seam y) false (at-num (seam-place r))) ∙ rw pair_is b,
      )
