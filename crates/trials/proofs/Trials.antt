-- The operations of circle intervals over places, for operands that have been read. Each statement is one on the order of -PI, PI, the ends of one or two
-- valid intervals and a place, and is tried at every such order (Spots), -PI at 0 and PI at 6. A test that float arithmetic decides, which gap or which
-- operand is the shorter, is tried at both outcomes. Of two ways to say a thing the one is tried that leaves fewer cases to the last quantifier.
-- Assumes nothing.
use mathlib.Core.Path.{◌≡◌, refl}
use mathlib.Core.Bool.{Bool, true, false, not, ◌&&◌, ◌||◌, cond}
use mathlib.Core.List.{List, [], ◌∷◌}
use Prim.Native.Nat.{ℕ}
use lib.Dec.{leb, ltb, eqb}
use Rattle.order.proofs.Rank.{all, both, imp, every, some}
use Rattle.trials.proofs.Forms.{empty_g, full_g, valid_g, covers_g, strictly_has_g, strictly_covers_g, meets_g, strictly_meets_g, place_g, holds_g, strict_g, hull_g, overlap_g, grown_g}

-- -PI, PI, and the ends a, b
abbrev pub Four : Type 0
Four = ℕ → ℕ → ℕ → ℕ → Bool

-- and the ends c, d
abbrev pub Six : Type 0
Six = ℕ → ℕ → ℕ → ℕ → ℕ → ℕ → Bool

-- and a place
abbrev pub Eight : Type 0
Eight = ℕ → ℕ → ℕ → ℕ → ℕ → ℕ → ℕ → Bool → Bool

abbrev pub valid_n : ℕ → ℕ → ℕ → ℕ → Bool
valid_n = valid_g ltb leb eqb

abbrev pub place_n : ℕ → ℕ → ℕ → Bool → Bool
place_n = place_g ltb leb eqb

abbrev pub holds_n : ℕ → ℕ → ℕ → ℕ → ℕ → Bool → Bool
holds_n = holds_g ltb leb eqb

abbrev pub strict_n : ℕ → ℕ → ℕ → ℕ → ℕ → Bool → Bool
strict_n = strict_g ltb leb eqb

abbrev covers_n : ℕ → ℕ → ℕ → ℕ → ℕ → ℕ → Bool
covers_n = covers_g ltb leb eqb

-- G of the ends of each valid interval, and of each place
unfoldable pub intervals : (ℕ → ℕ → Bool) → Bool
intervals G = all 7 (λ a. all 7 (λ b. imp (valid_n 0 6 a b) (G a b)))

unfoldable pub places : (ℕ → Bool → Bool) → Bool
places G = all 7 (λ p. both (λ g. imp (place_n 0 6 p g) (G p g)))

-- where C holds of the ends of a valid interval, G holds of them
unfoldable pub alone : Four → Four → Bool
alone C G = intervals (λ a b. imp (C 0 6 a b) (G 0 6 a b))

-- and of two
unfoldable pub trial₀ : Six → Six → Bool
trial₀ C G = intervals (λ a b. intervals (λ c d. imp (C 0 6 a b c d) (G 0 6 a b c d)))

-- and of each place
unfoldable pub trial : Six → Eight → Bool
trial C G = trial₀ C (λ N P a b c d. places (G N P a b c d))

abbrev any : Four
any N P a b = true

abbrev pub always : Six
always N P a b c d = true

-- a place that speaks for or against is an end, or the gap above an end
module _ {A : Type 0} (lt le eq : A → A → Bool) (N P a b : A) where
  abbrev pub two_g : List A
  two_g = N ∷ P ∷ a ∷ b ∷ []

  abbrev pub held_g : A → Bool → Bool
  held_g w g = imp (place_g lt le eq N P w g) (holds_g lt le eq N P a b w g)

  abbrev pub some_g : A → Bool → Bool
  some_g w g = place_g lt le eq N P w g && holds_g lt le eq N P a b w g

  module _ (c d : A) where
    abbrev pub ends_g : List A
    ends_g = N ∷ P ∷ a ∷ b ∷ c ∷ d ∷ []

    abbrev pub pass_g : A → Bool → Bool
    pass_g w g = imp (place_g lt le eq N P w g && holds_g lt le eq N P c d w g) (holds_g lt le eq N P a b w g)

    abbrev pub strict_pass_g : A → Bool → Bool
    strict_pass_g w g = imp (place_g lt le eq N P w g && holds_g lt le eq N P c d w g) (strict_g lt le eq N P a b w g)

    abbrev pub shared_g : A → Bool → Bool
    shared_g w g = place_g lt le eq N P w g && (holds_g lt le eq N P a b w g && holds_g lt le eq N P c d w g)

    abbrev pub strict_shared_g : A → Bool → Bool
    strict_shared_g w g = place_g lt le eq N P w g && (strict_g lt le eq N P a b w g && holds_g lt le eq N P c d w g)

-- ---- the tests
pub inside-all : trial (covers_g ltb leb eqb) (λ N P a b c d p g. imp (holds_n N P c d p g) (holds_n N P a b p g)) ≡ true
unfolding trial trial₀ intervals places all both imp
inside-all = refl

pub contains-all : trial₀ (λ N P a b c d. every (pass_g ltb leb eqb N P a b c d) (ends_g ltb leb eqb N P a b c d)) (covers_g ltb leb eqb) ≡ true
unfolding trial₀ intervals all both imp every
contains-all = refl

pub strictly-inside-all : trial (strictly_covers_g ltb leb eqb) (λ N P a b c d p g. imp (holds_n N P c d p g) (strict_n N P a b p g)) ≡ true
unfolding trial trial₀ intervals places all both imp
strictly-inside-all = refl

pub strictly-contains-all : trial₀ (λ N P a b c d. every (strict_pass_g ltb leb eqb N P a b c d) (ends_g ltb leb eqb N P a b c d)) (strictly_covers_g ltb leb eqb) ≡ true
unfolding trial₀ intervals all both imp every
strictly-contains-all = refl

pub meet_all : trial₀ (meets_g ltb leb eqb) (λ N P a b c d. some (shared_g ltb leb eqb N P a b c d) (ends_g ltb leb eqb N P a b c d)) ≡ true
unfolding trial₀ intervals all both imp some
meet_all = refl

pub apart-all : trial (λ N P a b c d. not (meets_g ltb leb eqb N P a b c d)) (λ N P a b c d p g. not (holds_n N P a b p g && holds_n N P c d p g)) ≡ true
unfolding trial trial₀ intervals places all both imp
apart-all = refl

pub strictly-meet-all : trial₀ (strictly_meets_g ltb leb eqb) (λ N P a b c d. some (strict_shared_g ltb leb eqb N P a b c d) (ends_g ltb leb eqb N P a b c d)) ≡ true
unfolding trial₀ intervals all both imp some
strictly-meet-all = refl

pub strictly-apart-all : trial (λ N P a b c d. not (strictly_meets_g ltb leb eqb N P a b c d)) (λ N P a b c d p g. not (strict_n N P a b p g && holds_n N P c d p g)) ≡ true
unfolding trial trial₀ intervals places all both imp
strictly-apart-all = refl

-- the place of a point p, which is no -PI
pub strictly-has-all : alone any (λ N P a b. places (λ p g. imp (not g) (imp (strictly_has_g ltb leb eqb N P a b p) (strict_n N P a b p g) && imp (strict_n N P a b p g) (strictly_has_g ltb leb eqb N P a b p)))) ≡ true
unfolding alone intervals places all both imp
strictly-has-all = refl

-- ---- EMPTY and FULL
pub nothing-all : alone (empty_g ltb leb eqb) (λ N P a b. places (λ p g. not (holds_n N P a b p g))) ≡ true
unfolding alone intervals places all both imp
nothing-all = refl

pub something-all : alone (λ N P a b. not (empty_g ltb leb eqb N P a b)) (λ N P a b. some (some_g ltb leb eqb N P a b) (two_g ltb leb eqb N P a b)) ≡ true
unfolding alone intervals all both imp some
something-all = refl

pub everything-all : alone (full_g ltb leb eqb) (λ N P a b. places (λ p g. holds_n N P a b p g)) ≡ true
unfolding alone intervals places all both imp
everything-all = refl

pub full-all : alone (λ N P a b. every (held_g ltb leb eqb N P a b) (two_g ltb leb eqb N P a b)) (full_g ltb leb eqb) ≡ true
unfolding alone intervals all both imp every
full-all = refl

-- ---- the choices, at either outcome t of the test that arithmetic decides
-- the union is valid, and covers both
pub union-all : trial₀ always (λ N P a b c d. both (λ t. hull_g ltb leb eqb N P t a b (λ lo hi. valid_n N P lo hi && (covers_n N P lo hi a b && covers_n N P lo hi c d)) c d)) ≡ true
unfolding trial₀ intervals all both imp
union-all = refl

pub union-only-all : trial (meets_g ltb leb eqb)
    (λ N P a b c d p g. imp (not (holds_n N P a b p g || holds_n N P c d p g)) (both (λ t. not (hull_g ltb leb eqb N P t a b (λ lo hi. holds_n N P lo hi p g) c d)))) ≡ true
unfolding trial trial₀ intervals places all both imp
union-only-all = refl

pub intersection-all : trial (meets_g ltb leb eqb)
    (λ N P a b c d p g. imp (holds_n N P a b p g && holds_n N P c d p g) (both (λ t. overlap_g ltb leb eqb N P t a b (λ lo hi. holds_n N P lo hi p g) c d))) ≡ true
unfolding trial trial₀ intervals places all both imp
intersection-all = refl

-- the intersection is valid, and covered by one of the two
pub intersection-within-all : trial₀ always
    (λ N P a b c d. both (λ t. overlap_g ltb leb eqb N P t a b (λ lo hi. valid_n N P lo hi && (covers_n N P a b lo hi || covers_n N P c d lo hi)) c d)) ≡ true
unfolding trial₀ intervals all both imp
intersection-within-all = refl

-- growth by the single point c is valid, holds the point and covers the start
pub add-all : trial₀ (λ N P a b c d. eqb c d)
    (λ N P a b c d. both (λ t. grown_g ltb leb eqb N P t a b (λ lo hi. valid_n N P lo hi && (holds_n N P lo hi c false && covers_n N P lo hi a b)) c)) ≡ true
unfolding trial₀ intervals all both imp
add-all = refl

-- from one single point to another
pub pair-all : trial₀ (λ N P a b c d. eqb a b && eqb c d)
    (λ N P a b c d. holds_n N P a c a false && holds_n N P a c c false && valid_n N P a c) ≡ true
unfolding trial₀ intervals all both imp
pair-all = refl

-- what is not strictly inside
pub rest_all : alone any
    (λ N P a b. places (λ p g.
    imp (not (strict_n N P a b p g)) (cond (eqb a b) (holds_n N P N P p g) (holds_n N P b a p g))
    && imp (cond (eqb a b) (holds_n N P N P p g) (holds_n N P b a p g)) (not (strict_n N P a b p g)))) ≡ true
unfolding alone intervals places all both imp
rest_all = refl

pub rest-valid-all : alone any (λ N P a b. cond (eqb a b) (valid_n N P N P) (valid_n N P b a)) ≡ true
unfolding alone intervals all both imp
rest-valid-all = refl

-- swapped ends
pub swap-valid-all : alone any (λ N P a b. valid_n N P b a) ≡ true
unfolding alone intervals all both imp
swap-valid-all = refl

-- the same numbers, and the same places
pub alike_all : trial₀ (λ N P a b c d. covers_n N P a b c d && covers_n N P c d a b) (λ N P a b c d. eqb a c && eqb b d) ≡ true
unfolding trial₀ intervals all both imp
alike_all = refl

pub same-all : trial₀ (λ N P a b c d. eqb a c && eqb b d) (λ N P a b c d. covers_n N P a b c d && covers_n N P c d a b) ≡ true
unfolding trial₀ intervals all both imp
same-all = refl
