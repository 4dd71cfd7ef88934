-- The operations of the line over places, for operands that have been read. Each statement is one on the order of the ends of two intervals and a place,
-- and is tried at every such order (the crate order's Ranks). Assumes nothing.
use mathlib.Core.Path.{◌≡◌, refl, ◌∙◌}
use mathlib.Core.Bool.{Bool, true, false, not, ◌&&◌, ◌||◌, cond}
use mathlib.Core.List.{List, [], ◌∷◌}
use mathlib.Core.Logic.{⊎_elim}
use Prim.Native.Nat.{ℕ}
use lib.Dec.{ltb, leb, eqb}
use lib.Ieee.{Float, lt, le, eq}
use Rattle.order.specs.Choice.{min}
use Rattle.order.specs.Key.{Num}
use Rattle.order.proofs.Rank.{In, here, there, rank, all, imp}
use Rattle.order.proofs.Ranks.{rank_lt, lt-rank, le-rank, eq-rank, all-at, imp-at, imp-of, and_l, and_r, and-of, or_at}
use Rattle.order.proofs.Choices.{cond_of, smaller-le, le-smaller, larger-le, le-larger}
use Rattle.r1.specs.declared.interval.Interval.{Interval}
use Rattle.r1.specs.Line as line
use Rattle.r1.specs.Line.{ends, is_empty, interior_contains, contains_interval, interior_contains_interval, intersects, interior_intersects, intersection, clamp_point, union, from_point_pair, add}
use Rattle.r1.specs.Places.{Place, InReach, holds, Inside, StrictlyInside, Meets, on_the_way}
use Rattle.r1.proofs.Readings.{place-num}
use Rattle.r1.proofs.Ends.{smaller-is}

-- over any comparisons `lt` and `le`: the interval from a to b, and the one from c to d; at doubles these are the definitions
module _ {A : Type 0} (lt le : A → A → Bool) where
  abbrev empty_g : A → A → Bool
  empty_g a b = lt b a

  abbrev holds_g : A → A → A → Bool
  holds_g a b p = le a p && le p b

  abbrev contains_g : A → A → A → A → Bool
  contains_g a b c d = empty_g c d || (le a c && le d b)

  abbrev meets_g : A → A → A → A → Bool
  meets_g a b c d = cond (le a c) (le c b && le c d) (le a d && le a b)

abbrev empty_n : ℕ → ℕ → Bool
empty_n = empty_g ltb leb

abbrev holds_n : ℕ → ℕ → ℕ → Bool
holds_n = holds_g ltb leb

abbrev contains_n : ℕ → ℕ → ℕ → ℕ → Bool
contains_n = contains_g ltb leb

abbrev meets_n : ℕ → ℕ → ℕ → ℕ → Bool
meets_n = meets_g ltb leb

-- what is said of one place and of an end, over any comparisons
module _ {A : Type 0} (lt le : A → A → Bool) where
  abbrev strict_g : A → A → A → Bool
  strict_g a b p = lt a p && lt p b

  -- where c to d holds w, a to b holds it
  abbrev pass_g : A → A → A → A → A → Bool
  pass_g a b c d w = imp (holds_g lt le c d w) (holds_g lt le a b w)

  abbrev strict_pass_g : A → A → A → A → A → Bool
  strict_pass_g a b c d w = imp (holds_g lt le c d w) (strict_g a b w)

  abbrev shared_g : A → A → A → A → A → Bool
  shared_g a b c d w = holds_g lt le a b w && holds_g lt le c d w

-- ---- trials: five numbers have ranks below 5, and each law is tried at all of them, with as few numbers as it speaks of
abbrev Three : Type 0
Three = ℕ → ℕ → ℕ → Bool

abbrev Four : Type 0
Four = ℕ → ℕ → ℕ → ℕ → Bool

abbrev Five : Type 0
Five = ℕ → ℕ → ℕ → ℕ → ℕ → Bool

-- where C holds, G holds
three : Three → Three → Bool
three C G = all 5 (λ x. all 5 (λ y. all 5 (λ z. imp (C x y z) (G x y z))))

four : Four → Four → Bool
four C G = all 5 (λ w. all 5 (λ x. all 5 (λ y. all 5 (λ z. imp (C w x y z) (G w x y z)))))

-- where c to d holds p, G holds: first c, d and p, of which few pass
held : Five → Bool
held G = all 5 (λ c. all 5 (λ d. all 5 (λ p. imp (holds_n c d p) (all 5 (λ a. all 5 (λ b. G a b c d p))))))

inside-all : held (λ a b c d p. imp (contains_n a b c d) (holds_n a b p)) ≡ true
unfolding held all imp
inside-all = refl

contains-all : four (λ a b c d. pass_g ltb leb a b c d c && pass_g ltb leb a b c d d) contains_n ≡ true
unfolding four all imp
contains-all = refl

strictly-all : held (λ a b c d p. imp (ltb d c || (ltb a c && ltb d b)) (strict_g ltb leb a b p)) ≡ true
unfolding held all imp
strictly-all = refl

strict-contains-all : four (λ a b c d. strict_pass_g ltb leb a b c d c && strict_pass_g ltb leb a b c d d) (λ a b c d. ltb d c || (ltb a c && ltb d b)) ≡ true
unfolding four all imp
strict-contains-all = refl

meet_all : four meets_n (λ a b c d. shared_g ltb leb a b c d a || shared_g ltb leb a b c d c) ≡ true
unfolding four all imp
meet_all = refl

apart-all : held (λ a b c d p. imp (holds_n a b p) (meets_n a b c d)) ≡ true
unfolding held all imp
apart-all = refl

strict-meet-all : held (λ a b c d p. imp (strict_g ltb leb a b p) (ltb c b && ltb a d && ltb a b && leb c d)) ≡ true
unfolding held all imp
strict-meet-all = refl

-- the hull of a to b and c to d: what it holds, by the same choices; either operand may be the one that holds p
module _ {A : Type 0} (lt le : A → A → Bool) where
  abbrev hull_g : A → A → A → A → A → Bool
  hull_g a b c d p = cond (empty_g lt le a b) (holds_g lt le c d p) (cond (empty_g lt le c d) (holds_g lt le a b p) ((le a p || le c p) && (le p b || le p d)))

union-left-all : held (λ c d a b p. hull_g ltb leb a b c d p) ≡ true
unfolding held all imp
union-left-all = refl

union-right-all : held (hull_g ltb leb) ≡ true
unfolding held all imp
union-right-all = refl

-- the same places: each covers the other
same-all : four (λ a b c d. (eqb a c && eqb b d) || (ltb b a && ltb d c)) (λ a b c d. contains_n a b c d && contains_n c d a b) ≡ true
unfolding four all imp
same-all = refl

alike_all : four (λ a b c d. contains_n a b c d && contains_n c d a b) (λ a b c d. (eqb a c && eqb b d) || (ltb b a && ltb d c)) ≡ true
unfolding four all imp
alike_all = refl

-- growth of a to b by c: what it holds, by the same choices
module _ {A : Type 0} (lt le : A → A → Bool) where
  abbrev grown_g : A → A → A → A → Bool
  grown_g a b c p = cond (lt b a) (holds_g lt le c c p) (cond (lt c a) (holds_g lt le c b p) (cond (lt b c) (holds_g lt le a c p) (holds_g lt le a b p)))

  abbrev pair_g : A → A → A → Bool
  pair_g a b p = cond (le a b) (holds_g lt le a b p) (holds_g lt le b a p)

kept-all : four (λ a b c p. holds_n a b p) (grown_g ltb leb) ≡ true
unfolding four all imp
kept-all = refl

taken-all : three (λ a b c. true) (λ a b c. grown_g ltb leb a b c c) ≡ true
unfolding three all imp
taken-all = refl

pair-all : three (λ a b p. true) (λ a b p. pair_g ltb leb a b a && pair_g ltb leb a b b) ≡ true
unfolding three all imp
pair-all = refl

-- the number p clamped to a to b: how it compares with y, by the same choices
module _ {A : Type 0} (lt le : A → A → Bool) where
  abbrev clamp_from_g : A → A → A → A → Bool
  clamp_from_g a b p y = le y a || (le y b && le y p)

  abbrev clamp_to_g : A → A → A → A → Bool
  clamp_to_g a b p y = le a y && (le b y || le p y)

  -- it lies from a to b
  abbrev clamp_held_g : A → A → A → Bool
  clamp_held_g a b p = clamp_from_g a b p a && clamp_to_g a b p b

  -- it lies on the way from p to x
  abbrev clamp_g : A → A → A → A → Bool
  clamp_g a b p x = (clamp_from_g a b p p && clamp_to_g a b p x) || (clamp_from_g a b p x && clamp_to_g a b p p)

clamped-all : three (λ a b p. not (empty_n a b)) (clamp_held_g ltb leb) ≡ true
unfolding three all imp
clamped-all = refl

nearest-all : four (λ a b p c. holds_n a b c) (clamp_g ltb leb) ≡ true
unfolding four all imp
nearest-all = refl

nothing-all : three holds_n (λ a b p. not (empty_n a b)) ≡ true
unfolding three all imp
nothing-all = refl

start-all : three (λ a b p. not (empty_n a b)) (λ a b p. holds_n a b a) ≡ true
unfolding three all imp
start-all = refl

regroup : (a b c d : Bool) → (a && b) && (c && d) ≡ (a && c) && (b && d)
regroup true true c d = refl
regroup true false true d = refl
regroup true false false d = refl
regroup false b c d = refl

-- ---- at doubles
module _ {i o : Interval} {p : Float} (v : InReach i) (w : InReach o) (q : Place p) where
  abbrev l : List Float
  l = i.lo ∷ i.hi ∷ o.lo ∷ o.hi ∷ p ∷ []

  abbrev in_a : In l i.lo
  in_a = here (place-num v.lo-place)

  abbrev in_b : In l i.hi
  in_b = there (here (place-num v.hi-place))

  abbrev in_c : In l o.lo
  in_c = there (there (here (place-num w.lo-place)))

  abbrev in_d : In l o.hi
  in_d = there (there (there (here (place-num w.hi-place))))

  abbrev in_p : In l p
  in_p = there (there (there (there (here (place-num q)))))

  lt-r : (x y : Float) → In l x → In l y → lt x y ≡ ltb (rank l x) (rank l y)
  lt-r = lt-rank l

  le_r : (x y : Float) → In l x → In l y → le x y ≡ leb (rank l x) (rank l y)
  le_r = le-rank l

  eq-r : (x y : Float) → In l x → In l y → eq x y ≡ eqb (rank l x) (rank l y)
  eq-r = eq-rank l

  ruleset ranks = (lt-r, le_r, eq-r, in_a, in_b, in_c, in_d, in_p)

  -- at entries of the list, whose ranks are tried
  module _ {x y z : Float} (j : In l x) (k : In l y) (m : In l z) where
    at3 : (C G : Three) → three C G ≡ true → C (rank l x) (rank l y) (rank l z) ≡ true → G (rank l x) (rank l y) (rank l z) ≡ true
    unfolding three
    at3 C G t = imp-at _ _ (all-at 5 _ (all-at 5 _ (all-at 5 _ t (rank l x) (rank_lt j)) (rank l y) (rank_lt k)) (rank l z) (rank_lt m))

    at4 : {w : Float} → In l w → (C G : Four) → four C G ≡ true
        → C (rank l w) (rank l x) (rank l y) (rank l z) ≡ true → G (rank l w) (rank l x) (rank l y) (rank l z) ≡ true
    unfolding four
    at4 {w} n C G t =
        imp-at _ _ (all-at 5 _ (all-at 5 _ (all-at 5 _ (all-at 5 _ t (rank l w) (rank_lt n)) (rank l x) (rank_lt j)) (rank l y) (rank_lt k)) (rank l z) (rank_lt m))

    -- x to y holds z
    at5 : {u v : Float} → In l u → In l v → (G : Five) → held G ≡ true
        → holds_n (rank l x) (rank l y) (rank l z) ≡ true → G (rank l u) (rank l v) (rank l x) (rank l y) (rank l z) ≡ true
    unfolding held
    at5 {u} {v} n o G t h =
        all-at 5 _ (all-at 5 _
        (imp-at _ _ (all-at 5 _ (all-at 5 _ (all-at 5 _ t (rank l x) (rank_lt j)) (rank l y) (rank_lt k)) (rank l z) (rank_lt m)) h)
        (rank l u) (rank_lt n)) (rank l v) (rank_lt o)

  pub contains-fwd : contains_interval i o ≡ true → holds o p ≡ true → holds i p ≡ true
  unfolding contains_interval is_empty holds
  contains-fwd h k = imp-at _ _ (simp ranks (at5 in_c in_d in_p in_a in_b _ inside-all (simp ranks at k))) h

  pub strict-fwd : interior_contains_interval i o ≡ true → holds o p ≡ true → interior_contains i p ≡ true
  unfolding interior_contains_interval is_empty holds interior_contains
  strict-fwd h k = imp-at _ _ (simp ranks (at5 in_c in_d in_p in_a in_b _ strictly-all (simp ranks at k))) h

  pub meets-bwd : holds i p ≡ true → holds o p ≡ true → intersects i o ≡ true
  unfolding intersects holds
  meets-bwd h k = imp-at _ _ (simp ranks (at5 in_c in_d in_p in_a in_b _ apart-all (simp ranks at k))) h

  pub strict-meets : interior_contains i p ≡ true → holds o p ≡ true → interior_intersects i o ≡ true
  unfolding interior_intersects interior_contains holds
  strict-meets h k = imp-at _ _ (simp ranks (at5 in_c in_d in_p in_a in_b _ strict-meet-all (simp ranks at k))) h

  same-contains : line.eq i o ≡ true → contains_interval i o && contains_interval o i ≡ true
  unfolding line.eq contains_interval is_empty
  same-contains h = simp ranks (at4 in_b in_c in_d in_a _ _ same-all (simp ranks at h))

  contains-same : contains_interval i o && contains_interval o i ≡ true → line.eq i o ≡ true
  unfolding line.eq contains_interval is_empty
  contains-same h = simp ranks (at4 in_b in_c in_d in_a _ _ alike_all (simp ranks at h))

  union-at : holds (union i o) p
      ≡ cond (is_empty i) (holds o p) (cond (is_empty o) (holds i p) ((le i.lo p || le o.lo p) && (le p i.hi || le p o.hi)))
  unfolding union holds
  union-at =
      let a = place-num v.lo-place in
      let b = place-num v.hi-place in
      let c = place-num w.lo-place in
      let d = place-num w.hi-place in
      let n = place-num q in
      simp (cond_of (λ (u : Interval). le u.lo p && le p u.hi), smaller-le, le-larger)

  pub read-union-holds : holds i p || holds o p ≡ true → holds (union i o) p ≡ true
  unfolding holds is_empty
  read-union-holds h =
      union-at
      ∙ ⊎_elim
      (λ k. simp ranks (at5 in_a in_b in_p in_c in_d _ union-left-all (simp ranks at k)))
      (λ k. simp ranks (at5 in_c in_d in_p in_a in_b _ union-right-all (simp ranks at k)))
      (or_at (holds i p) (holds o p) h)

  pub intersection-at : holds (intersection i o) p ≡ holds i p && holds o p
  unfolding intersection holds
  intersection-at =
      let a = place-num v.lo-place in
      let b = place-num v.hi-place in
      let c = place-num w.lo-place in
      let d = place-num w.hi-place in
      let n = place-num q in
      simp (larger-le, le-smaller) (regroup (le i.lo p) (le o.lo p) (le p i.hi) (le p o.hi))

  -- ---- what ends alone show, the place p left aside
  -- where each end of o that o holds is in i, i covers o
  pub contains-bwd : Inside i o → contains_interval i o ≡ true
  unfolding contains_interval is_empty holds
  contains-bwd H =
      let e : pass_g lt le i.lo i.hi o.lo o.hi o.lo && pass_g lt le i.lo i.hi o.lo o.hi o.hi ≡ true =
      and-of (imp-of _ _ (H o.lo w.lo-place)) (imp-of _ _ (H o.hi w.hi-place)) in
      simp ranks (at4 in_b in_c in_d in_a _ _ contains-all (simp ranks at e))

  pub strict-bwd : StrictlyInside i o → interior_contains_interval i o ≡ true
  unfolding interior_contains_interval is_empty holds interior_contains
  strict-bwd H =
      let e : strict_pass_g lt le i.lo i.hi o.lo o.hi o.lo && strict_pass_g lt le i.lo i.hi o.lo o.hi o.hi ≡ true =
      and-of (imp-of _ _ (H o.lo w.lo-place)) (imp-of _ _ (H o.hi w.hi-place)) in
      simp ranks (at4 in_b in_c in_d in_a _ _ strict-contains-all (simp ranks at e))

  -- where they meet, the later western end is shared
  pub meets-fwd : intersects i o ≡ true → Meets i o
  unfolding intersects holds
  meets-fwd h =
      let e : shared_g lt le i.lo i.hi o.lo o.hi i.lo || shared_g lt le i.lo i.hi o.lo o.hi o.lo ≡ true =
      simp ranks (at4 in_b in_c in_d in_a _ _ meet_all (simp ranks at h)) in
      ⊎_elim
      (λ s. (i.lo, v.lo-place, and_l _ _ s, and_r (holds i i.lo) _ s))
      (λ s. (o.lo, w.lo-place, and_l _ _ s, and_r (holds i o.lo) _ s))
      (or_at _ _ e)

  -- ---- one interval alone
  -- an interval that holds a place is not empty
  pub not-empty : holds i p ≡ true → not (is_empty i) ≡ true
  unfolding holds is_empty
  not-empty h = simp ranks (at3 in_a in_b in_p _ _ nothing-all (simp ranks at h))

  -- one that is not empty holds its western end
  pub holds-lo : not (is_empty i) ≡ true → holds i i.lo ≡ true
  unfolding holds is_empty
  holds-lo h = simp ranks (at3 in_a in_b in_p _ _ start-all (simp ranks at h))

  -- ---- growth by the number o .lo
  read-add-at : (r : Float) → holds (add i o.lo) r ≡ grown_g lt le i.lo i.hi o.lo r
  unfolding add holds is_empty
  read-add-at r = simp (cond_of (λ (u : Interval). le u.lo r && le r u.hi))

  pub add-keeps : holds i p ≡ true → holds (add i o.lo) p ≡ true
  unfolding holds
  add-keeps h = read-add-at p ∙ simp ranks (at4 in_b in_c in_p in_a _ _ kept-all (simp ranks at h))

  pub add-takes : holds (add i o.lo) o.lo ≡ true
  add-takes = read-add-at o.lo ∙ simp ranks (at3 in_a in_b in_c _ _ taken-all refl)

  -- ---- the pair of the ends of i
  pair-at : (r : Float) → holds (from_point_pair i.lo i.hi) r ≡ pair_g lt le i.lo i.hi r
  unfolding from_point_pair holds
  pair-at r = simp (cond_of (λ (u : Interval). le u.lo r && le r u.hi))

  pub pair-holds : (holds (from_point_pair i.lo i.hi) i.lo ≡ true) × (holds (from_point_pair i.lo i.hi) i.hi ≡ true)
  pair-holds =
      let e : pair_g lt le i.lo i.hi i.lo && pair_g lt le i.lo i.hi i.hi ≡ true = simp ranks (at3 in_a in_b in_p _ _ pair-all refl) in
      (pair-at i.lo ∙ and_l _ _ e, pair-at i.hi ∙ and_r (pair_g lt le i.lo i.hi i.lo) _ e)

  -- ---- the number p clamped to i
  clamped-num : Num (min i.hi p) ≡ true
  clamped-num = place-num (smaller-is Place v.hi-place q)

  -- i, where it is not empty, holds it
  pub clamped-held : not (is_empty i) ≡ true → holds i (clamp_point i p) ≡ true
  unfolding holds clamp_point is_empty
  clamped-held h =
      let a = place-num v.lo-place in
      let b = place-num v.hi-place in
      let n = place-num q in
      let m = clamped-num in
      let e : clamp_held_g lt le i.lo i.hi p ≡ true = simp ranks (at3 in_a in_b in_p _ _ clamped-all (simp ranks at h)) in
      simp (larger-le, le-larger, smaller-le, le-smaller) e

  -- it lies on the way from p to the place o .lo, where i holds that
  pub clamped-nearest : holds i o.lo ≡ true → on_the_way p o.lo (clamp_point i p) ≡ true
  unfolding holds clamp_point
  clamped-nearest h =
      let a = place-num v.lo-place in
      let b = place-num v.hi-place in
      let c = place-num w.lo-place in
      let n = place-num q in
      let m = clamped-num in
      let e : clamp_g lt le i.lo i.hi p o.lo ≡ true = simp ranks (at4 in_b in_p in_c in_a _ _ nearest-all (simp ranks at h)) in
      simp (larger-le, le-larger, smaller-le, le-smaller) e

-- ---- the same places
module _ {i o : Interval} {p : Float} (v : InReach i) (w : InReach o) (q : Place p) where
  pub same-fwd : line.eq i o ≡ true → (holds i p ≡ true → holds o p ≡ true) × (holds o p ≡ true → holds i p ≡ true)
  same-fwd h =
      let e = same-contains v w q h in
      (contains-fwd w v q (and_r (contains_interval i o) _ e), contains-fwd v w q (and_l _ (contains_interval o i) e))

  pub same-bwd : Inside i o → Inside o i → line.eq i o ≡ true
  same-bwd H J = contains-same v w q (and-of (contains-bwd v w q H) (contains-bwd w v q J))

-- ---- intervals of places
pub point-reach : {x : Float} → Place x → InReach (ends x x)
point-reach q = record { lo-place = q; hi-place = q }

pub pair-reach : {x y : Float} → Place x → Place y → InReach (ends x y)
pair-reach q r = record { lo-place = q; hi-place = r }
