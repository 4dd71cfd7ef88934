-- Facts on the order of -PI, PI, the ends of two valid arcs and a place, and of four numbers, each decided by trying every such order (the crate order's
-- Ranks, and the trials of s1). Going east, `on_way a s p` says that s is passed on the way from a to p. Assumes nothing.
use mathlib.Core.Path.{◌≡◌, refl, ap, ◌∙◌}
use mathlib.Core.Bool.{Bool, true, false, not, ◌&&◌, ◌||◌, cond, false≢true}
use mathlib.Core.List.{List, [], ◌∷◌}
use Prim.Native.Nat.{ℕ}
use lib.Dec.{leb, ltb, eqb}
use lib.Ieee.{Float, binary64, lt, le, eq, fits}
use Rattle.order.specs.Key.{Num}
use Rattle.order.proofs.Rank.{In, here, there, rank, all, both, imp}
use Rattle.order.proofs.Ranks.{rank_lt, lt-rank, le-rank, eq-rank, all-at, both_at, imp-at, and_l, and_r, and-of}
use Rattle.order.proofs.Choices.{cond_of}
use Rattle.order.proofs.Facts.{eq_refl, lt-le, lt-not-eq}
use Rattle.consts.specs.Constants.{PI, NEG-PI}
use Rattle.s1.specs.declared.interval.Interval.{Interval}
use Rattle.s1.specs.Circle.{ends, is_valid, is_full, is_empty}
use Rattle.s1.specs.Places.{place, holds, Place, Valid}
use Rattle.trials.proofs.Forms.{full_g, empty_g}
use Rattle.s1.proofs.Spots.{Stands}
use Rattle.trials.proofs.Trials.{Six, Eight, valid_n, place_n, holds_n, intervals, places, trial₀, trial}
use Rattle.s1.proofs.Held as held
use Rattle.s1.proofs.Held.{at-PI, num-PI, num-NEG, lo-num, hi-num, at-num}
use Rattle.arcs.specs.Clipping.{before}

-- ---- over any comparisons, and at doubles
-- going east from s, x is met no later than y
abbrev before_g : {A : Type 0} → (A → A → Bool) → (A → A → Bool) → A → A → A → Bool
before_g lt le s x y = cond (le s x) (lt y s || le x y) (lt y s && le x y)

-- going east from a to the place, s is passed
abbrev pub on_way_g : {A : Type 0} → (A → A → Bool) → A → A → A → Bool
on_way_g le a s p = cond (le a p) (le a s && le s p) (le a s || le s p)

unfoldable pub on_way : Float → Float → Float → Bool
on_way a s p = on_way_g le a s p

-- f of the double above which the gap just above x is written
abbrev pub above_g : {A : Type 0} → (A → A → Bool) → A → A → A → (A → Bool) → Bool
above_g eq N P x f = cond (eq x P) (f N) (f x)

unfoldable pub above : Float → Float
above x = cond (eq x PI) NEG-PI x

pub above-is : (f : Float → Bool) (x : Float) → f (above x) ≡ above_g eq NEG-PI PI x f
unfolding above
above-is f x = cond_of f (eq x PI) NEG-PI x

pub above-fits : (x : Float) → fits binary64 x ≡ true → fits binary64 (above x) ≡ true
above-fits x h = above-is (λ z. fits binary64 z) x ∙ go (eq x PI)
  where
    go : (t : Bool) → cond t (fits binary64 NEG-PI) (fits binary64 x) ≡ true
    go true = and_l _ _ num-NEG
    go false = h

-- ---- the facts, tried at numbers
abbrev full_n : ℕ → ℕ → ℕ → ℕ → Bool
full_n = full_g ltb leb eqb

abbrev empty_n : ℕ → ℕ → ℕ → ℕ → Bool
empty_n = empty_g ltb leb eqb

-- each is tried only where what it does not say of the place holds
sound-all : trial (λ N P a b c d. holds_n N P a b c false && before_g ltb leb c d b) (λ N P a b c d p g. imp (holds_n N P c d p g) (holds_n N P a b p g)) ≡ true
unfolding trial trial₀ intervals places all both imp
sound-all = refl

start-all : trial (λ N P a b c d. eqb c d && not (holds_n N P a b c false)) (λ N P a b c d p g. not (holds_n N P a b p g && on_way_g leb a c p)) ≡ true
unfolding trial trial₀ intervals places all both imp
start-all = refl

reach-all : trial (λ N P a b c d. eqb c d && not (full_n N P a b)) (λ N P a b c d p g. imp (holds_n N P a b p g && on_way_g leb a c p) (holds_n N P c b p g)) ≡ true
unfolding trial trial₀ intervals places all both imp
reach-all = refl

intersection-all : trial (λ N P a b c d. not (full_n N P a b || full_n N P c d) && not (holds_n N P a b c false || holds_n N P c d a false))
    (λ N P a b c d p g. not (holds_n N P a b p g && holds_n N P c d p g)) ≡ true
unfolding trial trial₀ intervals places all both imp
intersection-all = refl

last-all : trial (λ N P a b c d. not (full_n N P c d) && not (above_g eqb N P d (λ z. holds_n N P a b z true)) && not (holds_n N P c d b false && place_n N P b false))
    (λ N P a b c d p g. not (holds_n N P a b p g && holds_n N P c d p g))
    ≡ true
unfolding trial trial₀ intervals places all both imp
last-all = refl

make-all : trial₀ (λ N P a b c d. not (full_n N P a b) && not (full_n N P c d) && holds_n N P a b a false && holds_n N P c d a false)
    (λ N P a b c d. valid_n N P a d && (not (empty_n N P a d) && not (full_n N P a d))) ≡ true
unfolding trial₀ intervals all imp
make-all = refl

clear-all : trial₀ (λ N P a b c d. not (full_n N P a b) && not (full_n N P c d) && not (eqb a c) && holds_n N P c d a false && before_g ltb leb a b d)
    (λ N P a b c d. not (holds_n N P a b c false)) ≡ true
unfolding trial₀ intervals all imp
clear-all = refl

pass_all : trial₀ (λ N P a b c d. holds_n N P a b c false) (λ N P a b c d. on_way_g leb a c b) ≡ true
unfolding trial₀ intervals all imp
pass_all = refl

-- of one arc: its western end, its ends, the gap above it, and where it does not cross the seam
one-all : trial₀ (λ N P a b c d. eqb a c && eqb b d)
    (λ N P a b c d. imp (not (full_n N P a b)) (place_n N P a false)
    && (imp (not (empty_n N P a b)) (holds_n N P a b a false && (holds_n N P a b b false && place_n N P b false))
    && (imp (not (full_n N P a b) && not (empty_n N P a b)) (not (above_g eqb N P b (λ z. holds_n N P a b z true)) && above_g eqb N P b (λ z. place_n N P z true))
    && imp (leb a b) (ltb N b && (ltb N a || not (ltb b P))))))
    ≡ true
unfolding trial₀ intervals all imp
one-all = refl

module _ {i o : Interval} {p : Float} {g : Bool} (v : Valid i) (w : Valid o) (q : Place p g) where
  abbrev s : Float → ℕ
  s = held.s v w q

  abbrev on : Float → Type 0
  on = Stands (held.l v w q)

  lt-s : (x y : Float) → on x → on y → lt x y ≡ ltb (s x) (s y)
  lt-s = held.lt-s v w q

  le_s : (x y : Float) → on x → on y → le x y ≡ leb (s x) (s y)
  le_s = held.le_s v w q

  eq-s : (x y : Float) → on x → on y → eq x y ≡ eqb (s x) (s y)
  eq-s = held.eq-s v w q

  low-s : s NEG-PI ≡ 0
  low-s = held.low-s v w q

  high-s : s PI ≡ 6
  high-s = held.high-s v w q

  abbrev at-N : on NEG-PI
  at-N = held.at-N v w q

  abbrev at-P : on PI
  at-P = held.at-P v w q

  abbrev at_a : on i.lo
  at_a = held.at_a v w q

  abbrev at_b : on i.hi
  at_b = held.at_b v w q

  abbrev at_c : on o.lo
  at_c = held.at_c v w q

  abbrev at_d : on o.hi
  at_d = held.at_d v w q

  abbrev at_p : on p
  at_p = held.at_p v w q

  ruleset spots = (lt-s, le_s, eq-s, low-s, high-s, at-N, at-P, at_a, at_b, at_c, at_d, at_p)

  at₀ : (C G : Six) → trial₀ C G ≡ true → C 0 6 (s i.lo) (s i.hi) (s o.lo) (s o.hi) ≡ true → G 0 6 (s i.lo) (s i.hi) (s o.lo) (s o.hi) ≡ true
  at₀ = held.at₀ v w q

  at₁ : (C : Six) (G : Eight) → trial C G ≡ true → C 0 6 (s i.lo) (s i.hi) (s o.lo) (s o.hi) ≡ true → G 0 6 (s i.lo) (s i.hi) (s o.lo) (s o.hi) (s p) g ≡ true
  at₁ = held.at₁ v w q

  -- what is held by an arc that starts in i and ends no later than i is held by i
  pub sound-at : holds i o.lo false && before o.lo o.hi i.hi ≡ true → imp (holds o p g) (holds i p g) ≡ true
  unfolding before
  sound-at h = simp spots (at₁ _ _ sound-all (simp spots at h))

  -- of two arcs that share a place, one holds the western end of the other
  pub intersection-at : not (is_full i || is_full o) && not (holds i o.lo false || holds o i.lo false) ≡ true → not (holds i p g && holds o p g) ≡ true
  unfolding is_full
  intersection-at h = simp spots (at₁ _ _ intersection-all (simp spots at h))

  -- an arc that shares a place with o, but does not hold the gap just above o, ends in o
  pub last-at : not (is_full o) && not (above_g eq NEG-PI PI o.hi (λ z. holds i z true)) && not (holds o i.hi false && place i.hi false) ≡ true → not (holds i p g && holds o p g) ≡ true
  unfolding is_full
  last-at h = simp spots (at₁ _ _ last-all (simp spots at h))

  -- of the double o: i holds it where it is passed on the way to a place that i holds
  pub start-at : eq o.lo o.hi && not (holds i o.lo false) ≡ true → not (holds i p g && on_way i.lo o.lo p) ≡ true
  unfolding on_way
  start-at h = simp spots (at₁ _ _ start-all (simp spots at h))

  -- and from there to the eastern end of i the place is held
  pub reach-at : eq o.lo o.hi && not (is_full i) ≡ true → imp (holds i p g && on_way i.lo o.lo p) (holds (ends o.lo i.hi) p g) ≡ true
  unfolding is_full on_way
  reach-at h = simp spots (at₁ _ _ reach-all (simp spots at h))

  -- from the western end of i, which both hold, to the eastern end of o is a valid arc, neither EMPTY nor FULL
  pub make-at : not (is_full i) && not (is_full o) && holds i i.lo false && holds o i.lo false ≡ true
      → is_valid (ends i.lo o.hi) && (not (is_empty (ends i.lo o.hi)) && not (is_full (ends i.lo o.hi))) ≡ true
  unfolding is_full is_empty is_valid
  make-at h = simp spots (at₀ _ _ make-all (simp spots at h))

  -- an arc that starts in o elsewhere than o, and ends no later than o, does not hold the western end of o
  pub clear_at : not (is_full i) && not (is_full o) && not (eq i.lo o.lo) && holds o i.lo false && before i.lo i.hi o.hi ≡ true → not (holds i o.lo false) ≡ true
  unfolding is_full before
  clear_at h = simp spots (at₀ _ _ clear-all (simp spots at h))

  -- going east along i, its eastern end comes after a place that it holds
  pub pass-at : holds i o.lo false ≡ true → on_way i.lo o.lo i.hi ≡ true
  unfolding on_way
  pass-at h = simp spots (at₀ _ _ pass_all (simp spots at h))

  -- of an arc i, which o is too
  one_at : eq i.lo o.lo && eq i.hi o.hi ≡ true
      → imp (not (is_full i)) (place i.lo false)
      && (imp (not (is_empty i)) (holds i i.lo false && (holds i i.hi false && place i.hi false))
      && (imp (not (is_full i) && not (is_empty i)) (not (above_g eq NEG-PI PI i.hi (λ z. holds i z true)) && above_g eq NEG-PI PI i.hi (λ z. place z true))
      && imp (le i.lo i.hi) (lt NEG-PI i.hi && (lt NEG-PI i.lo || not (lt i.hi PI)))))
      ≡ true
  unfolding is_full is_empty
  one_at h = simp spots (at₀ _ _ one-all (simp spots at h))

-- ---- of one arc
module _ {i : Interval} (v : Valid i) where
  abbrev west : Bool
  west = imp (not (is_full i)) (place i.lo false)

  abbrev own : Bool
  own = imp (not (is_empty i)) (holds i i.lo false && (holds i i.hi false && place i.hi false))

  abbrev gap : Bool
  gap = imp (not (is_full i) && not (is_empty i)) (not (above_g eq NEG-PI PI i.hi (λ z. holds i z true)) && above_g eq NEG-PI PI i.hi (λ z. place z true))

  abbrev up : Bool
  up = imp (le i.lo i.hi) (lt NEG-PI i.hi && (lt NEG-PI i.lo || not (lt i.hi PI)))

  one : west && (own && (gap && up)) ≡ true
  one = one_at v v at-PI (and-of (eq_refl i.lo (lo-num v)) (eq_refl i.hi (hi-num v)))

  -- the western end of an arc that is not FULL is a place
  pub lo-place-at : not (is_full i) ≡ true → place i.lo false ≡ true
  lo-place-at h = imp-at _ _ (and_l west _ one) h

  -- an arc that is not EMPTY holds its ends, and the eastern one is a place
  pub own_at : not (is_empty i) ≡ true → holds i i.lo false && (holds i i.hi false && place i.hi false) ≡ true
  own_at h = imp-at _ _ (and_l own _ (and_r west _ one)) h

  -- the gap just above an arc's eastern end is a place, and the arc does not hold it
  pub gap_at : not (is_full i) && not (is_empty i) ≡ true → not (above_g eq NEG-PI PI i.hi (λ z. holds i z true)) && above_g eq NEG-PI PI i.hi (λ z. place z true) ≡ true
  gap_at h = imp-at _ _ (and_l gap _ (and_r own _ (and_r west _ one))) h

  -- an arc that does not cross the seam ends above -PI; and it starts above -PI, or does not end below PI
  pub rising-at : le i.lo i.hi ≡ true → lt NEG-PI i.hi && (lt NEG-PI i.lo || not (lt i.hi PI)) ≡ true
  rising-at h = imp-at _ _ (and_r gap _ (and_r own _ (and_r west _ one))) h

-- a double by itself is a valid arc
pub point-valid : {x : Float} → Place x false → Valid (ends x x)
unfolding is_valid
point-valid {x} q =
    let a = and_l _ _ q.is-place in
    let b = and_r (lt NEG-PI x) _ q.is-place in
    let c = lt-le NEG-PI x a in
    let e : not (eq x NEG-PI && not (eq x PI)) ≡ true = ap (λ (t : Bool). not (t && not (eq x PI))) (lt-not-eq NEG-PI x num-NEG (at-num q) a) in
    record { lo-double = q.is-double; hi-double = q.is-double; is-valid = and-of (and-of (and-of (and-of (and-of c b) c) b) e) e }

-- ---- four numbers, in any order
trial₄ : (G : ℕ → ℕ → ℕ → ℕ → Bool) → Bool
trial₄ G = all 4 (λ a. all 4 (λ b. all 4 (λ c. all 4 (λ d. G a b c d))))

same-all : trial₄ (λ a b x y. both (λ e. imp (eqb x y && cond (ltb b a) ((leb a x || leb x b) && e) (leb a x && leb x b)) (cond (ltb b a) ((leb a y || leb y b) && e) (leb a y && leb y b)))) ≡ true
unfolding trial₄ all both imp
same-all = refl

trans-all : trial₄ (λ s x y z. imp (before_g ltb leb s x y && before_g ltb leb s y z) (before_g ltb leb s x z)) ≡ true
unfolding trial₄ all imp
trans-all = refl

along-all : trial₄ (λ s t e h. imp (on_way_g leb s t e && before_g ltb leb s e h) (before_g ltb leb t e h)) ≡ true
unfolding trial₄ all imp
along-all = refl

total-all : trial₄ (λ s x y z. before_g ltb leb s x y || before_g ltb leb s y x) ≡ true
unfolding trial₄ all imp
total-all = refl

self-all : trial₄ (λ s x y z. before_g ltb leb s x x && on_way_g leb s s x && eqb s s) ≡ true
unfolding trial₄ all imp
self-all = refl

nearer-all : trial₄ (λ x s a p. imp (on_way_g leb x s p) (on_way_g leb a s p || on_way_g leb x a p)) ≡ true
unfolding trial₄ all imp
nearer-all = refl

moved_all : trial₄ (λ a s t p. imp (on_way_g leb a s p && eqb s t) (on_way_g leb a t p)) ≡ true
unfolding trial₄ all imp
moved_all = refl

rise-all : trial₄ (λ x y z w. imp (ltb x y && ltb y z) (ltb x z)) ≡ true
unfolding trial₄ all imp
rise-all = refl

split-all : trial₄ (λ x y z w. imp (eqb x y && eqb x z && ltb y z) false) ≡ true
unfolding trial₄ all imp
split-all = refl

cross-all : trial₄ (λ x y u w. imp (ltb y w && eqb x w && ltb x u && eqb y u) false) ≡ true
unfolding trial₄ all imp
cross-all = refl

ahead-all : trial₄ (λ x y z w. imp (eqb x y && ltb x z && eqb z y) false) ≡ true
unfolding trial₄ all imp
ahead-all = refl

apart-all : trial₄ (λ x y z w. imp (ltb x y) (not (eqb x y) && not (eqb y x))) ≡ true
unfolding trial₄ all imp
apart-all = refl

level_all : trial₄ (λ x y z w. imp (not (ltb x y) && not (ltb y x)) (eqb x y)) ≡ true
unfolding trial₄ all imp
level_all = refl

pub record IsNum (x : Float) : Type 0 where
  pub is-num : Num x ≡ true

pub lo-is : {i : Interval} → Valid i → IsNum i.lo
lo-is v = record { is-num = lo-num v }

pub hi-is : {i : Interval} → Valid i → IsNum i.hi
hi-is v = record { is-num = hi-num v }

pub at-is : {at : Float} {gap : Bool} → Place at gap → IsNum at
at-is q = record { is-num = at-num q }

module _ {a b c d : Float} (na : IsNum a) (nb : IsNum b) (nc : IsNum c) (nd : IsNum d) where
  abbrev m : List Float
  m = a ∷ b ∷ c ∷ d ∷ []

  abbrev in_1 : In m a
  in_1 = here na.is-num

  abbrev in_2 : In m b
  in_2 = there (here nb.is-num)

  abbrev in_3 : In m c
  in_3 = there (there (here nc.is-num))

  abbrev in_4 : In m d
  in_4 = there (there (there (here nd.is-num)))

  lt-4 : (x y : Float) → In m x → In m y → lt x y ≡ ltb (rank m x) (rank m y)
  lt-4 = lt-rank m

  le-4 : (x y : Float) → In m x → In m y → le x y ≡ leb (rank m x) (rank m y)
  le-4 = le-rank m

  eq-4 : (x y : Float) → In m x → In m y → eq x y ≡ eqb (rank m x) (rank m y)
  eq-4 = eq-rank m

  ruleset ranks₄ = (lt-4, le-4, eq-4, in_1, in_2, in_3, in_4)

  at₄ : (G : ℕ → ℕ → ℕ → ℕ → Bool) → trial₄ G ≡ true → G (rank m a) (rank m b) (rank m c) (rank m d) ≡ true
  unfolding trial₄
  at₄ G t = all-at 4 _ (all-at 4 _ (all-at 4 _ (all-at 4 _ t (rank m a) (rank_lt in_1)) (rank m b) (rank_lt in_2)) (rank m c) (rank_lt in_3)) (rank m d) (rank_lt in_4)

  -- going east from a, no later than is transitive, total and reflexive
  pub trans-at : before a b c ≡ true → before a c d ≡ true → before a b d ≡ true
  unfolding before
  trans-at h k = imp-at _ _ (simp ranks₄ (at₄ _ trans-all)) (and-of h k)

  -- what is met first from a is met first from any b on the way to it
  pub along-at : on_way a b c ≡ true → before a c d ≡ true → before b c d ≡ true
  unfolding before on_way
  along-at h k = imp-at _ _ (simp ranks₄ (at₄ _ along-all)) (and-of h k)

  -- of two western ends passed on the way to d, one is passed on the way from the other
  pub nearer-at : on_way a b d ≡ true → on_way c b d || on_way a c d ≡ true
  unfolding on_way
  nearer-at h = imp-at _ _ (simp ranks₄ (at₄ _ nearer-all)) h

  pub total-at : before a b c || before a c b ≡ true
  unfolding before
  total-at = simp ranks₄ (at₄ _ total-all)

  pub self-at : before a b b && on_way a a b && eq a a ≡ true
  unfolding before on_way
  self-at = simp ranks₄ (at₄ _ self-all)

  -- equal numbers are held alike
  pub same_at : (e : Bool) → eq c d ≡ true → cond (lt b a) ((le a c || le c b) && e) (le a c && le c b) ≡ true → cond (lt b a) ((le a d || le d b) && e) (le a d && le d b) ≡ true
  same_at e h k = imp-at _ _ (simp ranks₄ (both_at _ (at₄ _ same-all) e)) (and-of h k)

  -- equal numbers are passed alike
  pub moved_at : on_way a b d ≡ true → eq b c ≡ true → on_way a c d ≡ true
  unfolding on_way
  moved_at h k = imp-at _ _ (simp ranks₄ (at₄ _ moved_all)) (and-of h k)

  -- the order of numbers
  pub rise-at : lt a b ≡ true → lt b c ≡ true → lt a c ≡ true
  rise-at h k = imp-at _ _ (simp ranks₄ (at₄ _ rise-all)) (and-of h k)

  pub apart-at : lt a b ≡ true → not (eq a b) && not (eq b a) ≡ true
  apart-at h = imp-at _ _ (simp ranks₄ (at₄ _ apart-all)) h

  pub level-at : not (lt a b) && not (lt b a) ≡ true → eq a b ≡ true
  level-at h = imp-at _ _ (simp ranks₄ (at₄ _ level_all)) h

  -- two rising lists with the same entries have the same first entry, and no later entry equals it
  pub cross_at : lt b d ≡ true → eq a d ≡ true → lt a c ≡ true → eq b c ≡ true → ⊥
  cross_at h k l o = false≢true (imp-at _ _ (simp ranks₄ (at₄ _ cross-all)) (and-of (and-of (and-of h k) l) o))

  pub ahead-at : eq a b ≡ true → lt a c ≡ true → eq c b ≡ true → ⊥
  ahead-at h k l = false≢true (imp-at _ _ (simp ranks₄ (at₄ _ ahead-all)) (and-of (and-of h k) l))

  -- one number does not equal two
  pub split_at : eq a b ≡ true → eq a c ≡ true → lt b c ≡ true → ⊥
  split_at h k l = false≢true (imp-at _ _ (simp ranks₄ (at₄ _ split-all)) (and-of (and-of h k) l))
