-- The smaller and the larger of two numbers, by what lies below and above them; and a number's size. Each law is tried at every order of three numbers.
-- Assumes nothing.
use mathlib.Core.Path.{◌≡◌, refl, sym, ap, ◌∙◌}
use mathlib.Core.Bool.{Bool, true, false, ◌&&◌, ◌||◌, cond, beq, false≢true}
use mathlib.Core.List.{List, [], ◌∷◌}
use Prim.Native.Nat.{ℕ, ◌-◌, ◌*◌, ◌≤◌, ◌<◌}
use native.Mathlib.Omega.{arith}
use borrow.Author.Tests.{ltb-true, ltb-false, leb-true, le-leb}
use lib.Dec.{ltb, leb}
use lib.Ieee.{Float, binary64, of_bits, lt, le, neg, fits, is_nan}
use Rattle.order.specs.Key.{K, Num, big, is_zero}
use Rattle.order.proofs.Rank.{In, here, there, rank, all}
use Rattle.order.specs.Choice.{min, max, abs}
use Rattle.order.proofs.Keys.{lt-key, le-key, zero-key, key-top, neg-key, neg-num}
use Rattle.order.proofs.Ranks.{lt-rank, le-rank, rank_lt, all-at, and_l, and_r, and-of}

pub beq-eq : (s t : Bool) → beq s t ≡ true → s ≡ t
beq-eq true true h = refl
beq-eq true false h = absurd (false≢true h)
beq-eq false true h = absurd (false≢true h)
beq-eq false false h = refl

pub cond_of : {A B : Type 0} (f : A → B) (t : Bool) (x y : A) → f (cond t x y) ≡ cond t (f x) (f y)
cond_of f true x y = refl
cond_of f false x y = refl

trial : (ℕ → ℕ → ℕ → Bool) → Bool
trial C = all 3 (λ a. all 3 (λ b. all 3 (λ x. C a b x)))

smaller-le-all : trial (λ a b x. beq (cond (ltb b a) (leb b x) (leb a x)) (leb a x || leb b x)) ≡ true
unfolding trial all
smaller-le-all = refl

le-smaller-all : trial (λ a b x. beq (cond (ltb b a) (leb x b) (leb x a)) (leb x a && leb x b)) ≡ true
unfolding trial all
le-smaller-all = refl

larger-le-all : trial (λ a b x. beq (cond (ltb a b) (leb b x) (leb a x)) (leb a x && leb b x)) ≡ true
unfolding trial all
larger-le-all = refl

le-larger-all : trial (λ a b x. beq (cond (ltb a b) (leb x b) (leb x a)) (leb x a || leb x b)) ≡ true
unfolding trial all
le-larger-all = refl

module _ (a b x : Float) (na : Num a ≡ true) (nb : Num b ≡ true) (nx : Num x ≡ true) where
  abbrev l : List Float
  l = a ∷ b ∷ x ∷ []

  abbrev in_a : In l a
  in_a = here na

  abbrev in_b : In l b
  in_b = there (here nb)

  abbrev in_x : In l x
  in_x = there (there (here nx))

  lt-r : (y z : Float) → In l y → In l z → lt y z ≡ ltb (rank l y) (rank l z)
  lt-r = lt-rank l

  le_r : (y z : Float) → In l y → In l z → le y z ≡ leb (rank l y) (rank l z)
  le_r = le-rank l

  ruleset ranks = (lt-r, le_r, in_a, in_b, in_x)

  at : (C : ℕ → ℕ → ℕ → Bool) → trial C ≡ true → C (rank l a) (rank l b) (rank l x) ≡ true
  unfolding trial
  at C t = all-at 3 _ (all-at 3 _ (all-at 3 _ t (rank l a) (rank_lt in_a)) (rank l b) (rank_lt in_b)) (rank l x) (rank_lt in_x)

  pub smaller-le : le (min a b) x ≡ le a x || le b x
  unfolding min
  smaller-le = cond_of (λ y. le y x) (lt b a) b a ∙ beq-eq _ _ (simp ranks (at _ smaller-le-all))

  pub le-smaller : le x (min a b) ≡ le x a && le x b
  unfolding min
  le-smaller = cond_of (λ y. le x y) (lt b a) b a ∙ beq-eq _ _ (simp ranks (at _ le-smaller-all))

  pub larger-le : le (max a b) x ≡ le a x && le b x
  unfolding max
  larger-le = cond_of (λ y. le y x) (lt a b) b a ∙ beq-eq _ _ (simp ranks (at _ larger-le-all))

  pub le-larger : le x (max a b) ≡ le x a || le x b
  unfolding max
  le-larger = cond_of (λ y. le x y) (lt a b) b a ∙ beq-eq _ _ (simp ranks (at _ le-larger-all))

-- ---- a number's size
abbrev ZERO : Float
ZERO = of_bits binary64 0

num-zero : Num ZERO ≡ true
unfolding fits is_nan of_bits
num-zero = refl

zero_is : is_zero ZERO ≡ true
unfolding is_zero of_bits
zero_is = refl

pub same_test : (s t : Bool) → (s ≡ true → t ≡ true) → (t ≡ true → s ≡ true) → s ≡ t
same_test true t f g = sym (f refl)
same_test false true f g = g refl
same_test false false f g = refl

-- the same over keys: b is the key of zero, j and k those of x and e
below-zero : (b j k : ℕ) → j ≤ 2 * b → k ≤ 2 * b → j < b → leb (2 * b - j) k ≡ leb (2 * b - k) j && leb j k
below-zero b j k p q r =
    same_test (leb (2 * b - j) k) (leb (2 * b - k) j && leb j k)
    (λ h.
    let g = leb-true (2 * b - j) k h in
    and-of (le-leb (2 * b - k) j (omega arith)) (le-leb j k (omega arith)))
    (λ h.
    let g = leb-true (2 * b - k) j (and_l (leb (2 * b - k) j) (leb j k) h) in
    le-leb (2 * b - j) k (omega arith))

from_zero : (b j k : ℕ) → j ≤ 2 * b → k ≤ 2 * b → b ≤ j → leb j k ≡ leb (2 * b - k) j && leb j k
from_zero b j k p q r =
    same_test (leb j k) (leb (2 * b - k) j && leb j k)
    (λ h. let g = leb-true j k h in and-of (le-leb (2 * b - k) j (omega arith)) h)
    (λ h. and_r (leb (2 * b - k) j) (leb j k) h)

-- size at most e: between -e and e
module _ (x e : Float) (nx : Num x ≡ true) (ne : Num e ≡ true) where
  abbrev B : ℕ
  B = big binary64

  mirrored : (y z : Float) → Num y ≡ true → Num z ≡ true → le (neg y) z ≡ leb (2 * B - K y) (K z)
  mirrored y z n m = le-key binary64 (neg y) z (neg-num binary64 y n) m ∙ ap (λ (k : ℕ). leb k (K z)) (neg-key binary64 y n)

  below : lt x ZERO ≡ ltb (K x) B
  below = lt-key binary64 x ZERO nx num-zero ∙ ap (λ (k : ℕ). ltb (K x) k) (zero-key binary64 ZERO zero_is)

  right : leb (2 * B - K e) (K x) && leb (K x) (K e) ≡ le (neg e) x && le x e
  right = sym (ap (λ (t : Bool). t && le x e) (mirrored e x ne nx) ∙ ap (λ (t : Bool). leb (2 * B - K e) (K x) && t) (le-key binary64 x e nx ne))

  pub size-le : le (abs x) e ≡ le (neg e) x && le x e
  unfolding abs
  size-le = go (lt x ZERO) refl
    where
      go : (t : Bool) → lt x ZERO ≡ t → le (cond t (neg x) x) e ≡ le (neg e) x && le x e
      go true h = mirrored x e nx ne ∙ below-zero B (K x) (K e) (key-top binary64 x nx) (key-top binary64 e ne) (ltb-true (K x) B (sym below ∙ h)) ∙ right
      go false h = le-key binary64 x e nx ne ∙ from_zero B (K x) (K e) (key-top binary64 x nx) (key-top binary64 e ne) (ltb-false (K x) B (sym below ∙ h)) ∙ right
