-- The line interval over places: what document 01 and the comments of r1interval.h say of each operation, for all operands within the limits, of the
-- answers themselves. Each follows from Trials, at the operands as they are read. Assumes nothing.
use mathlib.Core.Path.{◌≡◌, refl, sym, ◌∙◌}
use mathlib.Core.Bool.{Bool, true, false, not, false≢true}
use mathlib.Core.Logic.{◌↔◌}
use lib.Ieee.{Float}
use Rattle.order.proofs.Ranks.{and_l, and_r, and-of, or-of-l, or-of-r}
use Rattle.consts.specs.Refusal.{number, accepted, bad_point}
use Rattle.consts.specs.Answer.{yes_no, Decides}
use Rattle.consts.specs.Reading.{plain}
use Rattle.consts.proofs.Readings.{plain-le, le-plain}
use Rattle.consts.proofs.Decisions.{decides}
use Rattle.r1.specs.declared.interval.Interval.{Interval}
use Rattle.r1.specs.Line as line
use Rattle.r1.specs.Reading.{plain_ends}
use Rattle.r1.specs.Answers as answers
use Rattle.r1.specs.Answers.{is_empty, contains, interior_contains, clamp_point, contains_interval, interior_contains_interval, intersects, interior_intersects, intersection, union, from_point_pair, add}
use Rattle.r1.specs.Places.{Place, InReach, holds, Inside, StrictlyInside, Meets, Nearest, Nothing}
use Rattle.r1.proofs.Readings.{place-num, place-plain, reach-plain, one_in, two_in, with_in, empty-plain, holds_plain, strict-plain, point-plain, strict-point}
use Rattle.r1.proofs.Accepted.{union-is, intersection-is, clamp-is, add_is, pair_is}
use Rattle.r1.proofs.Ends.{clamp-reach, add-reach, from-point-pair-reach}
use Rattle.r1.proofs.Trials as trials
use Rattle.r1.proofs.Trials.{point-reach, pair-reach}

-- ---- an interval and itself as it is read
module _ {i : Interval} (v : InReach i) {p : Float} (q : Place p) where
  to-plain : holds i p ≡ true → holds (plain_ends i) p ≡ true
  to-plain h = holds_plain i v p q ∙ h

  from-plain : holds (plain_ends i) p ≡ true → holds i p ≡ true
  from-plain h = sym (holds_plain i v p q) ∙ h

module _ {i o : Interval} (v : InReach i) (w : InReach o) where
  inside-plain : Inside i o → Inside (plain_ends i) (plain_ends o)
  inside-plain H p q h = to-plain v q (H p q (from-plain w q h))

  strictly-plain : StrictlyInside i o → StrictlyInside (plain_ends i) (plain_ends o)
  strictly-plain H p q h = strict-plain i v p q ∙ H p q (from-plain w q h)

not_is : (t : Bool) → not t ≡ true → t ≡ true → ⊥
not_is true h k = false≢true h
not_is false h k = false≢true k

is-not : (t : Bool) → (not t ≡ true → ⊥) → t ≡ true
is-not true h = refl
is-not false h = absurd (h refl)

-- ---- one interval
-- the operation `contains` says that the place is held
pub contains-holds : (i : Interval) (p : Float) → line.contains i p ≡ holds i p
unfolding line.contains holds
contains-holds i p = refl

module _ (i : Interval) (v : InReach i) where
  -- `is_empty` exactly when no place is held
  pub is-empty-places : Decides (is_empty i) (Nothing i)
  unfolding is_empty
  is-empty-places =
      decides {b = line.is_empty (plain_ends i)} (simp (one_in i v))
      (λ e p q h. not_is (line.is_empty (plain_ends i)) (trials.not-empty (reach-plain v) (reach-plain v) q (to-plain v q h)) e)
      (λ H.
      is-not (line.is_empty (plain_ends i))
      (λ n.
      let q = place-plain v.lo-place in
      H (plain i.lo) q (from-plain v q (trials.holds-lo (reach-plain v) (reach-plain v) q n))))

  -- `contains` exactly when the place is held
  pub contains-place : (p : Float) → Place p → Decides (contains i p) (holds i p ≡ true)
  unfolding contains
  contains-place p q =
      let e = contains-holds (plain_ends i) (plain p) ∙ holds_plain i v (plain p) (place-plain q) ∙ point-plain i v p q in
      decides {b = line.contains (plain_ends i) (plain p)} (simp (with_in i v p (number bad_point) q.in-reach)) (λ h. sym e ∙ h) (λ h. e ∙ h)

  -- `interior_contains` exactly when it lies strictly between the ends
  pub interior-contains-place : (p : Float) → Place p → Decides (interior_contains i p) (line.interior_contains i p ≡ true)
  unfolding interior_contains
  interior-contains-place p q =
      let e = strict-plain i v (plain p) (place-plain q) ∙ strict-point i v p q in
      decides {b = line.interior_contains (plain_ends i) (plain p)} (simp (with_in i v p (number bad_point) q.in-reach)) (λ h. sym e ∙ h) (λ h. e ∙ h)

  -- `clamp_point` of an interval that is not empty is accepted, and answers the place of it that lies nearest to the point
  pub clamp-point-nearest : (p : Float) → Place p → line.is_empty i ≡ false → ((clamp_point i p).refusal ≡ number accepted) × Nearest i p (clamp_point i p).value
  clamp-point-nearest p q h =
      rw (clamp-is i p v q)
      (let r : Place (line.clamp_point (plain_ends i) (plain p)) = simp (clamp-is i p v q) at (clamp-reach i p v q) in
      let a = place-num q in
      let b = place-num r in (
        refl,
        record {
          is-place = r;
          held = from-plain v r (trials.clamped-held (reach-plain v) (reach-plain v) (place-plain q) (rw (empty-plain i v, h) refl));
          on-the-way = λ x s k. simp (plain-le, le-plain) at (trials.clamped-nearest (reach-plain v) (point-reach s) (place-plain q) (to-plain v s k));
        },
      ))

-- ---- two intervals
module _ (i o : Interval) (v : InReach i) (w : InReach o) where
  abbrev v' : InReach (plain_ends i)
  v' = reach-plain v

  abbrev w' : InReach (plain_ends o)
  w' = reach-plain w

  abbrev q' : Place (plain i.lo)
  q' = v'.lo-place

  -- `contains_interval` exactly when each place of the other is in this one
  pub contains-interval-places : Decides (contains_interval i o) (Inside i o)
  unfolding contains_interval
  contains-interval-places =
      decides {b = line.contains_interval (plain_ends i) (plain_ends o)} (simp (two_in i v o w))
      (λ h p q k. from-plain v q (trials.contains-fwd v' w' q h (to-plain w q k)))
      (λ H. trials.contains-bwd v' w' q' (inside-plain v w H))

  -- `interior_contains_interval` exactly when each place of the other lies strictly between the ends
  pub interior-contains-interval-places : Decides (interior_contains_interval i o) (StrictlyInside i o)
  unfolding interior_contains_interval
  interior-contains-interval-places =
      decides {b = line.interior_contains_interval (plain_ends i) (plain_ends o)} (simp (two_in i v o w))
      (λ h p q k. sym (strict-plain i v p q) ∙ trials.strict-fwd v' w' q h (to-plain w q k))
      (λ H. trials.strict-bwd v' w' q' (strictly-plain v w H))

  -- `intersects` exactly when a place is shared
  pub intersects-places : Decides (intersects i o) (Meets i o)
  unfolding intersects
  intersects-places =
      decides {b = line.intersects (plain_ends i) (plain_ends o)} (simp (two_in i v o w))
      (λ h. let m = trials.meets-fwd v' w' q' h in (m.0, m.1, from-plain v m.1 m.2, from-plain w m.1 m.3))
      (λ m. trials.meets-bwd v' w' m.1 (to-plain v m.1 m.2) (to-plain w m.1 m.3))

  -- `interior_intersects` where a place strictly inside is shared (the converse fails: two neighbouring doubles have no place between them)
  pub interior-intersects-meets : (p : Float) → Place p → line.interior_contains i p ≡ true → holds o p ≡ true → interior_intersects i o ≡ yes_no true
  unfolding interior_intersects
  interior-intersects-meets p q h k =
      let e : line.interior_intersects (plain_ends i) (plain_ends o) ≡ true = trials.strict-meets v' w' q (strict-plain i v p q ∙ h) (to-plain w q k) in
      simp (two_in i v o w, e)

  -- `eq` exactly when both hold the same places
  pub equal-places : Decides (answers.eq i o) (Inside i o × Inside o i)
  unfolding answers.eq
  equal-places =
      decides {b = line.eq (plain_ends i) (plain_ends o)} (simp (two_in i v o w))
      (λ h. (
        λ p q k. from-plain v q ((trials.same-fwd v' w' q h).1 (to-plain w q k)),
        λ p q k. from-plain w q ((trials.same-fwd v' w' q h).0 (to-plain v q k)),
      ))
      (λ H. trials.same-bwd v' w' q' (inside-plain v w H.0) (inside-plain w v H.1))

  -- the union holds both operands
  pub union-holds : Inside (union i o).value i × Inside (union i o).value o
  union-holds =
      rw (union-is i o v w) (
        λ p q h. trials.read-union-holds v' w' q (or-of-l _ (holds (plain_ends o) p) (to-plain v q h)),
        λ p q h. trials.read-union-holds v' w' q (or-of-r (holds (plain_ends i) p) _ (to-plain w q h)),
      )

  -- the intersection holds exactly the common places
  pub intersection-places : (p : Float) → Place p → (holds (intersection i o).value p ≡ true) ↔ ((holds i p ≡ true) × (holds o p ≡ true))
  intersection-places p q =
      rw (intersection-is i o v w) (
        λ h.
            let k = sym (trials.intersection-at v' w' q) ∙ h in
            (from-plain v q (and_l _ _ k), from-plain w q (and_r (holds (plain_ends i) p) _ k)),
        λ h. trials.intersection-at v' w' q ∙ and-of (to-plain v q h.0) (to-plain w q h.1),
      )

-- ---- points
-- `from_point_pair` holds both points
pub from-point-pair-holds : (x y : Float) → Place x → Place y → (holds (from_point_pair x y).value x ≡ true) × (holds (from_point_pair x y).value y ≡ true)
from-point-pair-holds x y q r =
    let e = trials.pair-holds (pair-reach (place-plain q) (place-plain r)) (pair-reach (place-plain q) (place-plain r)) (place-plain q) in
    let v = from-point-pair-reach x y q r in (
      sym (point-plain (from_point_pair x y).value v x q) ∙ rw (pair_is x y q r) e.0,
      sym (point-plain (from_point_pair x y).value v y r) ∙ rw (pair_is x y q r) e.1,
    )

-- ---- growth by a point
module _ (i : Interval) (x : Float) (v : InReach i) where
  -- it holds the start and the point
  pub add_holds : Place x → Inside (add i x).value i × (holds (add i x).value x ≡ true)
  add_holds q =
      let w = point-reach (place-plain q) in
      let e : holds (add i x).value (plain x) ≡ true = rw (add_is i x v q) (trials.add-takes (reach-plain v) w (place-plain q)) in (
        λ p r h. rw (add_is i x v q) (trials.add-keeps (reach-plain v) w r (to-plain v r h)),
        sym (point-plain (add i x).value (add-reach i x v q) x q) ∙ e,
      )
