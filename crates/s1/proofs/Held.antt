-- What the definitions of specs/Circle.antt mean over places, for valid intervals: Trials, at doubles. -PI, PI, the ends of two intervals and a place
-- compare as their spots do (Spots), so a trial that holds at all numbers below seven holds of them. Assumes nothing.
use mathlib.Core.Path.{◌≡◌, refl, sym, ap, ◌∙◌}
use mathlib.Core.Bool.{Bool, true, false, not, ◌&&◌, ◌||◌, cond, false≢true}
use mathlib.Core.List.{List, [], ◌∷◌}
use Prim.Native.Nat.{ℕ, ◌<◌}
use lib.Dec.{leb, ltb, eqb}
use lib.Ieee.{Float, binary64, lt, le, eq, fits, is_nan, of_bits}
use Rattle.order.specs.Key.{Num}
use Rattle.order.proofs.Rank.{In, here, there, imp, every, some, Nums, Found}
use Rattle.order.proofs.Ranks.{rank_lt, all-at, both_at, imp-at, imp-of, and_l, and_r, and-of, every_of, some_at}
use Rattle.order.proofs.Choices.{cond_of}
use Rattle.order.proofs.Facts.{eq_refl, lt-le, lt-not-eq}
use Rattle.consts.specs.Constants.{PI, NEG-PI}
use Rattle.s1.specs.declared.interval.Interval.{Interval}
use Rattle.s1.specs.Circle as circle
use Rattle.s1.specs.Circle.{ends, FULL, positive_distance, seam, is_valid, is_full, is_empty, is_point, invert, len, fast_contains, contains_interval, interior_contains_interval, intersects, inside_meets, interior_intersects, union, intersection, complement, add}
use Rattle.s1.specs.Reading.{on_circle}
use Rattle.s1.specs.Places.{place, holds, strictly_holds, Place, Valid, Inside, StrictlyInside, Meets, StrictlyMeets, Nothing, Everything}
use Rattle.s1.proofs.Readings.{num_of, valid-on}
use Rattle.trials.proofs.Forms.{strictly_has_g, hull_g, overlap_g, grown_g}
use Rattle.s1.proofs.Spots.{Stands, spot, spot-low, spot-high, spot-few, lt-spot, le-spot, eq-spot}
use Rattle.trials.proofs.Trials.{Four, Six, Eight, intervals, places, alone, trial₀, trial, two_g, ends_g, pass_g, strict_pass_g, shared_g, strict_shared_g, held_g, some_g}
use Rattle.trials.proofs.Trials.{inside-all, contains-all, strictly-inside-all, strictly-contains-all, meet_all, apart-all, strictly-meet-all, strictly-apart-all, strictly-has-all, nothing-all, something-all, everything-all, full-all, union-all, union-only-all, intersection-all, intersection-within-all, add-all, pair-all, rest_all, rest-valid-all, swap-valid-all, alike_all, same-all}

-- ---- numbers
pub num-PI : Num PI ≡ true
unfolding fits is_nan of_bits
num-PI = refl

pub num-NEG : Num NEG-PI ≡ true
unfolding fits is_nan of_bits
num-NEG = refl

pub neg-lt : lt NEG-PI PI ≡ true
unfolding lt of_bits
neg-lt = refl

pub low-low : le NEG-PI NEG-PI ≡ true
unfolding le lt eq of_bits
low-low = refl

pub high-high : le PI PI ≡ true
unfolding le lt eq of_bits
high-high = refl

pub lo-num : {i : Interval} → Valid i → Num i.lo ≡ true
unfolding is_valid
lo-num {i} v = let h = v.is-valid in num_of i.lo v.lo-double (search (and_l, and_r))

pub hi-num : {i : Interval} → Valid i → Num i.hi ≡ true
unfolding is_valid
hi-num {i} v = let h = v.is-valid in num_of i.hi v.hi-double (search (and_l, and_r))

pub at-num : {at : Float} {gap : Bool} → Place at gap → Num at ≡ true
at-num {at} {gap = true} p = num_of at p.is-double (and_l _ _ p.is-place)
at-num {at} {gap = false} p = num_of at p.is-double (lt-le NEG-PI at (and_l _ _ p.is-place))

-- the ends of a valid interval, and a place, lie from -PI to PI
pub from-west : (x : Float) → on_circle x ≡ true → le NEG-PI x ≡ true
unfolding on_circle
from-west x h = and_l _ (le x PI) h

pub to-east : (x : Float) → on_circle x ≡ true → le x PI ≡ true
unfolding on_circle
to-east x h = and_r (le NEG-PI x) _ h

pub at-west : {at : Float} {gap : Bool} → Place at gap → le NEG-PI at ≡ true
at-west {gap = true} p = and_l _ _ p.is-place
at-west {at} {gap = false} p = lt-le NEG-PI at (and_l _ _ p.is-place)

pub at-east : {at : Float} {gap : Bool} → Place at gap → le at PI ≡ true
at-east {at} {gap = true} p = lt-le at PI (and_r (le NEG-PI at) _ p.is-place)
at-east {at} {gap = false} p = and_r (lt NEG-PI at) _ p.is-place

-- the seam is a place
pub at-PI : Place PI false
at-PI = record { is-double = and_l _ _ num-PI; is-place = and-of neg-lt (unfold le eq of_bits lt in refl) }

-- a place made of what a trial found
found-place : {P : Float → Bool → Bool} (f : Found P) → place f.0 f.1 ≡ true → Place f.0 f.1
found-place f h = record { is-double = and_l _ _ f.2; is-place = h }

number-place : (w : Float) (g : Bool) → Num w ≡ true → place w g ≡ true → Place w g
number-place w g n h = record { is-double = and_l _ _ n; is-place = h }

-- ---- the ends that a choice takes, with the test that arithmetic decides as `near`
read-union-is : (f : Interval → Bool) (i o : Interval)
    → f (union i o) ≡ hull_g lt le eq NEG-PI PI (lt (positive_distance o.hi i.lo) (positive_distance i.hi o.lo)) i.lo i.hi (λ lo hi. f (ends lo hi)) o.lo o.hi
unfolding union fast_contains is_empty contains_interval is_full
read-union-is f i o = simp (cond_of f)

read-intersection-is : (f : Interval → Bool) (i o : Interval)
    → f (intersection i o) ≡ overlap_g lt le eq NEG-PI PI (lt (len o) (len i)) i.lo i.hi (λ lo hi. f (ends lo hi)) o.lo o.hi
unfolding intersection fast_contains is_empty contains_interval is_full
read-intersection-is f i o = simp (cond_of f)

read-add-is : (f : Interval → Bool) (i : Interval) (p : Float)
    → f (add i p) ≡ grown_g lt le eq NEG-PI PI (lt (positive_distance (seam p) i.lo) (positive_distance i.hi (seam p))) i.lo i.hi (λ lo hi. f (ends lo hi)) (seam p)
unfolding add fast_contains is_empty
read-add-is f i p = simp (cond_of f)

not-true : (t : Bool) → (t ≡ false → ⊥) → t ≡ true
not-true true h = refl
not-true false h = absurd (h refl)

-- by the contrary
counter : (t s : Bool) → (not t ≡ true → not s ≡ true) → s ≡ true → t ≡ true
counter true s f h = refl
counter false true f h = f refl
counter false false f h = h

pub clash : (t : Bool) → t ≡ true → not t ≡ true → ⊥
clash true h k = false≢true k
clash false h k = false≢true h

module _ {i o : Interval} {p : Float} {g : Bool} (v : Valid i) (w : Valid o) (q : Place p g) where
  abbrev pub l : List Float
  l = NEG-PI ∷ PI ∷ i.lo ∷ i.hi ∷ o.lo ∷ o.hi ∷ p ∷ []

  pub in-N : In l NEG-PI
  in-N = here num-NEG

  pub in-P : In l PI
  in-P = there (here num-PI)

  abbrev pub at-N : Stands l NEG-PI
  at-N = record { entry = in-N; west = low-low; east = lt-le NEG-PI PI neg-lt }

  abbrev pub at-P : Stands l PI
  at-P = record { entry = in-P; west = lt-le NEG-PI PI neg-lt; east = high-high }

  abbrev pub at_a : Stands l i.lo
  at_a = let h = (valid-on i v.is-valid).0 in record { entry = there (there (here (lo-num v))); west = from-west i.lo h; east = to-east i.lo h }

  abbrev pub at_b : Stands l i.hi
  at_b = let h = (valid-on i v.is-valid).1 in record { entry = there (there (there (here (hi-num v)))); west = from-west i.hi h; east = to-east i.hi h }

  abbrev pub at_c : Stands l o.lo
  at_c = let h = (valid-on o w.is-valid).0 in record { entry = there (there (there (there (here (lo-num w))))); west = from-west o.lo h; east = to-east o.lo h }

  abbrev pub at_d : Stands l o.hi
  at_d = let h = (valid-on o w.is-valid).1 in record { entry = there (there (there (there (there (here (hi-num w)))))); west = from-west o.hi h; east = to-east o.hi h }

  abbrev pub at_p : Stands l p
  at_p = record { entry = there (there (there (there (there (there (here (at-num q))))))); west = at-west q; east = at-east q }

  -- where each of them stands
  abbrev pub s : Float → ℕ
  s = spot l

  pub lt-s : (x y : Float) → Stands l x → Stands l y → lt x y ≡ ltb (s x) (s y)
  lt-s = lt-spot l in-N in-P (rank_lt in-P)

  pub le_s : (x y : Float) → Stands l x → Stands l y → le x y ≡ leb (s x) (s y)
  le_s = le-spot l in-N in-P (rank_lt in-P)

  pub eq-s : (x y : Float) → Stands l x → Stands l y → eq x y ≡ eqb (s x) (s y)
  eq-s = eq-spot l in-N in-P (rank_lt in-P)

  pub low-s : s NEG-PI ≡ 0
  low-s = spot-low l in-N in-P (rank_lt in-P)

  pub high-s : s PI ≡ 6
  high-s = spot-high l in-N in-P (rank_lt in-P)

  few : (x : Float) → Stands l x → s x < 7
  few = spot-few l in-N in-P (rank_lt in-P)

  ruleset spots = (lt-s, le_s, eq-s, low-s, high-s, at-N, at-P, at_a, at_b, at_c, at_d, at_p)

  -- ---- what is tried of all intervals and places holds of these
  of_left : (G : ℕ → ℕ → Bool) → intervals G ≡ true → G (s i.lo) (s i.hi) ≡ true
  unfolding intervals is_valid
  of_left G t = imp-at _ _ (all-at 7 _ (all-at 7 _ t (s i.lo) (few i.lo at_a)) (s i.hi) (few i.hi at_b)) (simp spots at v.is-valid)

  of_right : (G : ℕ → ℕ → Bool) → intervals G ≡ true → G (s o.lo) (s o.hi) ≡ true
  unfolding intervals is_valid
  of_right G t = imp-at _ _ (all-at 7 _ (all-at 7 _ t (s o.lo) (few o.lo at_c)) (s o.hi) (few o.hi at_d)) (simp spots at w.is-valid)

  of-place : (G : ℕ → Bool → Bool) → places G ≡ true → G (s p) g ≡ true
  unfolding places
  of-place G t = imp-at _ _ (both_at _ (all-at 7 _ t (s p) (few p at_p)) g) (simp spots at q.is-place)

  of_one : (C G : Four) → alone C G ≡ true → C 0 6 (s i.lo) (s i.hi) ≡ true → G 0 6 (s i.lo) (s i.hi) ≡ true
  unfolding alone
  of_one C G t h = imp-at _ _ (of_left _ t) h

  pub at₀ : (C G : Six) → trial₀ C G ≡ true
      → C 0 6 (s i.lo) (s i.hi) (s o.lo) (s o.hi) ≡ true → G 0 6 (s i.lo) (s i.hi) (s o.lo) (s o.hi) ≡ true
  unfolding trial₀
  at₀ C G t h = imp-at _ _ (of_right _ (of_left _ t)) h

  pub at₁ : (C : Six) (G : Eight) → trial C G ≡ true
      → C 0 6 (s i.lo) (s i.hi) (s o.lo) (s o.hi) ≡ true → G 0 6 (s i.lo) (s i.hi) (s o.lo) (s o.hi) (s p) g ≡ true
  unfolding trial
  at₁ C G t h = of-place _ (at₀ C _ t h)

  abbrev one_ends : List Float
  one_ends = two_g lt le eq NEG-PI PI i.lo i.hi

  one-nums : Nums one_ends
  one-nums = (num-NEG, (num-PI, (lo-num v, (hi-num v, tt))))

  abbrev all_ends : List Float
  all_ends = ends_g lt le eq NEG-PI PI i.lo i.hi o.lo o.hi

  nums : Nums all_ends
  nums = (num-NEG, (num-PI, (lo-num v, (hi-num v, (lo-num w, (hi-num w, tt))))))

  -- ---- covering
  pub contains-fwd : contains_interval i o ≡ true → holds o p g ≡ true → holds i p g ≡ true
  unfolding contains_interval is_empty is_full
  contains-fwd h k = imp-at (holds o p g) (holds i p g) (simp spots (at₁ _ _ inside-all (simp spots at h))) k

  pub contains-bwd : Inside i o → contains_interval i o ≡ true
  unfolding every contains_interval is_empty is_full
  contains-bwd H =
      let e = every_of (pass_g lt le eq NEG-PI PI i.lo i.hi o.lo o.hi)
      (λ x h n. imp-of _ _ (λ t. H x h (number-place x h n (and_l _ _ t)) (and_r (place x h) _ t))) all_ends nums in
      simp spots (at₀ _ _ contains-all (simp spots at e))

  pub strict-fwd : interior_contains_interval i o ≡ true → holds o p g ≡ true → strictly_holds i p g ≡ true
  unfolding interior_contains_interval is_empty is_full
  strict-fwd h k = imp-at (holds o p g) (strictly_holds i p g) (simp spots (at₁ _ _ strictly-inside-all (simp spots at h))) k

  pub strict-bwd : StrictlyInside i o → interior_contains_interval i o ≡ true
  unfolding every interior_contains_interval is_empty is_full
  strict-bwd H =
      let e = every_of (strict_pass_g lt le eq NEG-PI PI i.lo i.hi o.lo o.hi)
      (λ x h n. imp-of _ _ (λ t. H x h (number-place x h n (and_l _ _ t)) (and_r (place x h) _ t))) all_ends nums in
      simp spots (at₀ _ _ strictly-contains-all (simp spots at e))

  -- the interior test of a point that is a place
  pub strictly-has : g ≡ false
      → (strictly_has_g lt le eq NEG-PI PI i.lo i.hi p ≡ true → strictly_holds i p g ≡ true) × (strictly_holds i p g ≡ true → strictly_has_g lt le eq NEG-PI PI i.lo i.hi p ≡ true)
  strictly-has z =
      let e : imp (not g) (imp (strictly_has_g lt le eq NEG-PI PI i.lo i.hi p) (strictly_holds i p g) && imp (strictly_holds i p g) (strictly_has_g lt le eq NEG-PI PI i.lo i.hi p)) ≡ true =
      simp spots (of-place _ (of_one _ _ strictly-has-all refl)) in
      let f = imp-at (not g) _ e (ap not z) in
      (imp-at _ _ (and_l _ _ f), imp-at _ _ (and_r (imp (strictly_has_g lt le eq NEG-PI PI i.lo i.hi p) (strictly_holds i p g)) _ f))

  -- ---- meeting
  shared : Found (shared_g lt le eq NEG-PI PI i.lo i.hi o.lo o.hi) → Meets i o
  shared f =
      let b = and_r (place f.0 f.1) (holds i f.0 f.1 && holds o f.0 f.1) f.3 in
      (f.0, f.1, found-place f (and_l (place f.0 f.1) _ f.3), and_l (holds i f.0 f.1) _ b, and_r (holds i f.0 f.1) _ b)

  pub meets-fwd : intersects i o ≡ true → Meets i o
  unfolding some intersects is_empty
  meets-fwd h = shared (some_at (shared_g lt le eq NEG-PI PI i.lo i.hi o.lo o.hi) all_ends nums (simp spots (at₀ _ _ meet_all (simp spots at h))))

  pub meets-bwd : holds i p g ≡ true → holds o p g ≡ true → intersects i o ≡ true
  unfolding intersects is_empty
  meets-bwd h k = counter (intersects i o) (holds i p g && holds o p g) (λ n. simp spots (at₁ _ _ apart-all (simp spots at n))) (and-of h k)

  strictly-shared : Found (strict_shared_g lt le eq NEG-PI PI i.lo i.hi o.lo o.hi) → StrictlyMeets i o
  strictly-shared f =
      let b = and_r (place f.0 f.1) (strictly_holds i f.0 f.1 && holds o f.0 f.1) f.3 in
      (f.0, f.1, found-place f (and_l (place f.0 f.1) _ f.3), and_l (strictly_holds i f.0 f.1) _ b, and_r (strictly_holds i f.0 f.1) _ b)

  pub strict-meets-fwd : interior_intersects i o ≡ true → StrictlyMeets i o
  unfolding some interior_intersects inside_meets is_empty is_full is_point
  strict-meets-fwd h =
      strictly-shared (some_at (strict_shared_g lt le eq NEG-PI PI i.lo i.hi o.lo o.hi) all_ends nums (simp spots (at₀ _ _ strictly-meet-all (simp spots at h))))

  pub strict-meets-bwd : strictly_holds i p g ≡ true → holds o p g ≡ true → interior_intersects i o ≡ true
  unfolding interior_intersects inside_meets is_empty is_full is_point
  strict-meets-bwd h k = counter (interior_intersects i o) (strictly_holds i p g && holds o p g) (λ n. simp spots (at₁ _ _ strictly-apart-all (simp spots at n))) (and-of h k)

  -- ---- EMPTY and FULL
  pub empty-fwd : is_empty i ≡ true → not (holds i p g) ≡ true
  unfolding is_empty
  empty-fwd h = simp spots (of-place _ (of_one _ _ nothing-all (simp spots at h)))

  not-nothing : Nothing i → Found (some_g lt le eq NEG-PI PI i.lo i.hi) → ⊥
  not-nothing H f = H f.0 f.1 (found-place f (and_l (place f.0 f.1) _ f.3)) (and_r (place f.0 f.1) _ f.3)

  pub empty-bwd : Nothing i → is_empty i ≡ true
  unfolding some is_empty
  empty-bwd H =
      not-true (is_empty i) (λ z.
      not-nothing H (some_at (some_g lt le eq NEG-PI PI i.lo i.hi) one_ends one-nums (simp spots (of_one _ _ something-all (simp spots at (ap not z))))))

  pub full-fwd : is_full i ≡ true → holds i p g ≡ true
  unfolding is_full
  full-fwd h = simp spots (of-place _ (of_one _ _ everything-all (simp spots at h)))

  pub full-bwd : Everything i → is_full i ≡ true
  unfolding every is_full
  full-bwd H =
      let e = every_of (held_g lt le eq NEG-PI PI i.lo i.hi) (λ x h n. imp-of _ _ (λ t. H x h (number-place x h n t))) one_ends one-nums in
      simp spots (of_one _ _ full-all (simp spots at e))

  -- ---- the same numbers: each covers the other
  same-contains : circle.eq i o ≡ true → contains_interval i o && contains_interval o i ≡ true
  unfolding circle.eq contains_interval is_empty is_full
  same-contains h = simp spots (at₀ _ _ same-all (simp spots at h))

  contains-same : contains_interval i o && contains_interval o i ≡ true → circle.eq i o ≡ true
  unfolding circle.eq contains_interval is_empty is_full
  contains-same h = simp spots (at₀ _ _ alike_all (simp spots at h))

  -- ---- the union
  abbrev near : Bool
  near = lt (positive_distance o.hi i.lo) (positive_distance i.hi o.lo)

  union-ok : is_valid (union i o) && (contains_interval (union i o) i && contains_interval (union i o) o) ≡ true
  unfolding is_valid contains_interval is_empty is_full
  union-ok = read-union-is (λ u. is_valid u && (contains_interval u i && contains_interval u o)) i o ∙ simp spots (both_at _ (at₀ _ _ union-all refl) near)

  pub union-bwd : intersects i o ≡ true → holds (union i o) p g ≡ true → holds i p g || holds o p g ≡ true
  unfolding intersects is_empty
  union-bwd m h =
      counter (holds i p g || holds o p g) (holds (union i o) p g)
      (λ n. ap not (read-union-is (λ u. holds u p g) i o) ∙ simp spots (both_at _ (imp-at _ _ (at₁ _ _ union-only-all (simp spots at m)) (simp spots at n)) near)) h

  -- ---- the intersection
  abbrev shorter : Bool
  shorter = lt (len o) (len i)

  pub intersection-fwd : holds i p g ≡ true → holds o p g ≡ true → holds (intersection i o) p g ≡ true
  unfolding intersects is_empty
  intersection-fwd h k =
      let m = meets-bwd h k in
      let b = and-of h k in
      read-intersection-is (λ u. holds u p g) i o ∙ simp spots (both_at _ (imp-at _ _ (at₁ _ _ intersection-all (simp spots at m)) (simp spots at b)) shorter)

  intersection-ok : is_valid (intersection i o) && (contains_interval i (intersection i o) || contains_interval o (intersection i o)) ≡ true
  unfolding is_valid contains_interval is_empty is_full
  intersection-ok = read-intersection-is (λ u. is_valid u && (contains_interval i u || contains_interval o u)) i o ∙ simp spots (both_at _ (at₀ _ _ intersection-within-all refl) shorter)

  pub intersection-in : contains_interval i (intersection i o) || contains_interval o (intersection i o) ≡ true
  intersection-in = and_r (is_valid (intersection i o)) _ intersection-ok

  -- ---- the complement
  rest-is : (f : Interval → Bool) → f (complement i) ≡ cond (eq i.lo i.hi) (f FULL) (f (ends i.hi i.lo))
  unfolding complement is_point
  rest-is f = cond_of f (eq i.lo i.hi) FULL (invert i)

  pub rest-places : (not (strictly_holds i p g) ≡ true → holds (complement i) p g ≡ true) × (holds (complement i) p g ≡ true → not (strictly_holds i p g) ≡ true)
  rest-places =
      let e : imp (not (strictly_holds i p g)) (cond (eq i.lo i.hi) (holds FULL p g) (holds (ends i.hi i.lo) p g))
      && imp (cond (eq i.lo i.hi) (holds FULL p g) (holds (ends i.hi i.lo) p g)) (not (strictly_holds i p g)) ≡ true =
      simp spots (of-place _ (of_one _ _ rest_all refl)) in
      let r = rest-is (λ u. holds u p g) in
      (λ h. r ∙ imp-at _ _ (and_l _ _ e) h, λ h. imp-at _ _ (and_r (imp (not (strictly_holds i p g)) (cond (eq i.lo i.hi) (holds FULL p g) (holds (ends i.hi i.lo) p g))) _ e) (sym r ∙ h))

  rest_ok : is_valid (complement i) ≡ true
  unfolding is_valid
  rest_ok = rest-is is_valid ∙ simp spots (of_one _ _ rest-valid-all refl)

  swap-ok : is_valid (invert i) ≡ true
  unfolding is_valid
  swap-ok = simp spots (of_one _ _ swap-valid-all refl)

  -- ---- growth by the single point o
  abbrev closer : Bool
  closer = lt (positive_distance o.lo i.lo) (positive_distance i.hi o.lo)

  add_ok : is_point o ≡ true → seam o.lo ≡ o.lo
      → is_valid (add i o.lo) && (holds (add i o.lo) o.lo false && contains_interval (add i o.lo) i) ≡ true
  unfolding is_point is_valid contains_interval is_empty is_full
  add_ok h z =
      read-add-is (λ u. is_valid u && (holds u o.lo false && contains_interval u i)) i o.lo
      ∙ rw z (simp spots (both_at _ (at₀ _ _ add-all (simp spots at h)) closer))

  -- ---- two single points
  pair_ok : is_point i ≡ true → is_point o ≡ true
      → (holds (ends i.lo o.lo) i.lo false && holds (ends i.lo o.lo) o.lo false) && is_valid (ends i.lo o.lo) ≡ true
  unfolding is_point is_valid
  pair_ok h k = simp spots (at₀ _ _ pair-all (simp spots at (and-of h k)))

-- ---- validity of what is chosen: the ends are doubles, and Trials has the rest
cond_same : (t : Bool) → cond t true true ≡ true
cond_same true = refl
cond_same false = refl

abbrev doubles : Interval → Bool
doubles u = fits binary64 u.lo && fits binary64 u.hi

double-PI : fits binary64 PI ≡ true
double-PI = and_l _ _ num-PI

double-NEG : fits binary64 NEG-PI ≡ true
double-NEG = and_l _ _ num-NEG

valid-of : {u : Interval} → doubles u ≡ true → is_valid u ≡ true → Valid u
valid-of {u} f h = record { lo-double = and_l _ _ f; hi-double = and_r (fits binary64 u.lo) _ f; is-valid = h }

-- a point as a single-point interval: it is a place of its own, so it is not -PI
module _ {x : Float} (q : Place x false) where
  point-place : le NEG-PI x ≡ true
  point-place = lt-le NEG-PI x (and_l _ _ q.is-place)

  not-seam : eq x NEG-PI ≡ false
  not-seam = lt-not-eq NEG-PI x num-NEG (at-num q) (and_l _ _ q.is-place)

  pub seam-stays : seam x ≡ x
  unfolding seam
  seam-stays = simp not-seam

  point-single : is_point (ends x x) ≡ true
  unfolding is_point
  point-single = eq_refl x (at-num q)

  pub point-valid : Valid (ends x x)
  unfolding is_valid
  point-valid =
      record {
        lo-double = q.is-double;
        hi-double = q.is-double;
        is-valid = simp (point-place, and_r (lt NEG-PI x) (le x PI) q.is-place, not-seam);
      }

module _ (i o : Interval) (v : Valid i) (w : Valid o) where
  pub read-union-valid : Valid (union i o)
  read-union-valid =
      valid-of (read-union-is doubles i o ∙ simp (v.lo-double, v.hi-double, w.lo-double, w.hi-double, double-PI, double-NEG, cond_same)) (and_l _ _ (union-ok v w at-PI))

  union-contains : contains_interval (union i o) i && contains_interval (union i o) o ≡ true
  union-contains = and_r (is_valid (union i o)) _ (union-ok v w at-PI)

  pub read-union-holds : Inside (union i o) i × Inside (union i o) o
  read-union-holds = (
    λ p g q h. contains-fwd read-union-valid v q (and_l _ (contains_interval (union i o) o) union-contains) h,
    λ p g q h. contains-fwd read-union-valid w q (and_r (contains_interval (union i o) i) _ union-contains) h,
  )

  pub read-intersection-valid : Valid (intersection i o)
  read-intersection-valid =
      valid-of (read-intersection-is doubles i o ∙ simp (v.lo-double, v.hi-double, w.lo-double, w.hi-double, double-PI, double-NEG, cond_same)) (and_l _ _ (intersection-ok v w at-PI))

  pub swap-valid : Valid (invert i)
  swap-valid = record { lo-double = v.hi-double; hi-double = v.lo-double; is-valid = swap-ok v w at-PI }

  pub rest-valid : Valid (complement i)
  rest-valid = valid-of (rest-is v w at-PI doubles ∙ simp (v.lo-double, v.hi-double, double-PI, double-NEG, cond_same)) (rest_ok v w at-PI)

  pub same-inside : circle.eq i o ≡ true → Inside i o × Inside o i
  same-inside h =
      let e = same-contains v w at-PI h in
      (λ p g q k. contains-fwd v w q (and_l _ (contains_interval o i) e) k, λ p g q k. contains-fwd w v q (and_r (contains_interval i o) _ e) k)

  pub inside-same : Inside i o → Inside o i → circle.eq i o ≡ true
  inside-same H J = contains-same v w at-PI (and-of (contains-bwd v w at-PI H) (contains-bwd w v at-PI J))

-- growth by a place x
module _ (i : Interval) (x : Float) (v : Valid i) (q : Place x false) where
  add_parts : is_valid (add i x) && (holds (add i x) x false && contains_interval (add i x) i) ≡ true
  add_parts = add_ok v (point-valid q) q (point-single q) (seam-stays q)

  pub read-add-valid : Valid (add i x)
  read-add-valid = valid-of (read-add-is doubles i x ∙ rw (seam-stays q) (simp (v.lo-double, v.hi-double, q.is-double, cond_same))) (and_l _ _ add_parts)

  add-rest : holds (add i x) x false && contains_interval (add i x) i ≡ true
  add-rest = and_r (is_valid (add i x)) _ add_parts

  pub read-add-holds : holds (add i x) x false ≡ true
  read-add-holds = and_l _ (contains_interval (add i x) i) add-rest

  pub add-inside : Inside (add i x) i
  add-inside p g r h = contains-fwd read-add-valid v r (and_r (holds (add i x) x false) _ add-rest) h

-- the interval from the place x to the place y
module _ (x y : Float) (q : Place x false) (r : Place y false) where
  both_ok : (holds (ends x y) x false && holds (ends x y) y false) && is_valid (ends x y) ≡ true
  both_ok = pair_ok (point-valid q) (point-valid r) q (point-single q) (point-single r)

  pub between-holds : (holds (ends x y) x false ≡ true) × (holds (ends x y) y false ≡ true)
  between-holds =
      let e = and_l _ (is_valid (ends x y)) both_ok in
      (and_l _ (holds (ends x y) y false) e, and_r (holds (ends x y) x false) _ e)

  pub between-valid : Valid (ends x y)
  between-valid = record { lo-double = q.is-double; hi-double = r.is-double; is-valid = and_r (holds (ends x y) x false && holds (ends x y) y false) _ both_ok }
