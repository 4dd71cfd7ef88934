-- The seam: `new` writes -PI as PI but in FULL and EMPTY, so that any two points of the circle make a valid interval, and leaves a valid one as it is;
-- ends that were moved and brought back make a valid one too. Tried at every order of -PI, PI and two points. Assumes nothing.
use mathlib.Core.Path.{◌≡◌, refl, ap, ◌∙◌}
use mathlib.Core.Bool.{Bool, true, false, not, ◌&&◌, cond, false≢true}
use mathlib.Core.List.{List, [], ◌∷◌}
use Prim.Native.Nat.{ℕ}
use lib.Dec.{leb, ltb, eqb}
use lib.Ieee.{Float, binary64, lt, le, eq, fits, of_bits}
use Rattle.order.proofs.Rank.{In, here, there, rank, all, imp}
use Rattle.order.proofs.Ranks.{rank_lt, lt-rank, le-rank, eq-rank, all-at, imp-at, and_l, and_r}
use Rattle.consts.specs.Constants.{PI, NEG-PI}
use Rattle.consts.specs.Refusal.{number, accepted}
use Rattle.consts.specs.Reading.{plain}
use Rattle.s1.specs.declared.interval.Interval.{Interval}
use Rattle.s1.specs.Circle as circle
use Rattle.s1.specs.Circle.{ends, FULL, EMPTY, is_valid}
use Rattle.s1.specs.Reading.{plain_ends, on_circle}
use Rattle.s1.specs.Answers.{circle_answer, «new», invert, from_line, to_line}
use Rattle.s1.specs.Places.{Valid}
use Rattle.s1.proofs.Readings.{valid-on}
use Rattle.trials.proofs.Forms.{valid_g}
use Rattle.s1.proofs.Held.{num-PI, num-NEG, swap-valid}
use Rattle.s1.proofs.Limits.{OnCircle, point-num, circle-plain, valid-plain, one_in, ends-in}

pub full-valid : Valid FULL
full-valid = record { lo-double = unfold fits of_bits in refl; hi-double = unfold fits of_bits in refl; is-valid = unfold is_valid le lt eq of_bits in refl }

pub empty-valid : Valid EMPTY
empty-valid = record { lo-double = unfold fits of_bits in refl; hi-double = unfold fits of_bits in refl; is-valid = unfold is_valid le lt eq of_bits in refl }

-- each end is chosen by a test of its own
two-conds : (f : Interval → Bool) (s t : Bool) (x y u w : Float)
    → f (ends (cond s x y) (cond t u w)) ≡ cond s (cond t (f (ends x u)) (f (ends x w))) (cond t (f (ends y u)) (f (ends y w)))
two-conds f true true x y u w = refl
two-conds f true false x y u w = refl
two-conds f false true x y u w = refl
two-conds f false false x y u w = refl

abbrev Four : Type 0
Four = ℕ → ℕ → ℕ → ℕ → Bool

-- -PI, PI and two points between them
trial : Four → Bool
trial G = all 4 (λ N. all 4 (λ P. imp (ltb N P) (all 4 (λ a. imp (leb N a && leb a P) (all 4 (λ b. imp (leb N b && leb b P) (G N P a b)))))))

module _ {A : Type 0} (eq : A → A → Bool) (N P a b : A) where
  -- an end that is -PI is written PI, unless the other end makes the interval FULL or EMPTY
  abbrev west_g : Bool
  west_g = eq a N && not (eq b P)

  abbrev east_g : Bool
  east_g = eq b N && not (eq a P)

abbrev valid_n : ℕ → ℕ → ℕ → ℕ → Bool
valid_n = valid_g ltb leb eqb

normal-all : trial (λ N P a b.
    cond (west_g eqb N P a b) (cond (east_g eqb N P a b) (valid_n N P P P) (valid_n N P P b)) (cond (east_g eqb N P a b) (valid_n N P a P) (valid_n N P a b))) ≡ true
unfolding trial all imp
normal-all = refl

-- and then a western end that is -PI still
abbrev once_n : ℕ → ℕ → ℕ → ℕ → Bool
once_n N P l h = cond (leb l N) (valid_n N P P h) (valid_n N P l h)

moved_all : trial (λ N P a b.
    cond (west_g eqb N P a b) (cond (east_g eqb N P a b) (once_n N P P P) (once_n N P P b)) (cond (east_g eqb N P a b) (once_n N P a P) (once_n N P a b))) ≡ true
unfolding trial all imp
moved_all = refl

module _ (x y : Float) (q : OnCircle x) (r : OnCircle y) where
  abbrev l : List Float
  l = NEG-PI ∷ PI ∷ x ∷ y ∷ []

  abbrev in-N : In l NEG-PI
  in-N = here num-NEG

  abbrev in-P : In l PI
  in-P = there (here num-PI)

  abbrev in_a : In l x
  in_a = there (there (here (point-num q)))

  abbrev in_b : In l y
  in_b = there (there (there (here (point-num r))))

  lt-r : (v w : Float) → In l v → In l w → lt v w ≡ ltb (rank l v) (rank l w)
  lt-r = lt-rank l

  le_r : (v w : Float) → In l v → In l w → le v w ≡ leb (rank l v) (rank l w)
  le_r = le-rank l

  eq-r : (v w : Float) → In l v → In l w → eq v w ≡ eqb (rank l v) (rank l w)
  eq-r = eq-rank l

  ruleset ranks = (lt-r, le_r, eq-r, in-N, in-P, in_a, in_b)

  neg-lt : lt NEG-PI PI ≡ true
  unfolding lt of_bits
  neg-lt = refl

  at : (G : Four) → trial G ≡ true → G (rank l NEG-PI) (rank l PI) (rank l x) (rank l y) ≡ true
  unfolding trial on_circle
  at G t =
      imp-at _ _ (all-at 4 _ (imp-at _ _ (all-at 4 _ (imp-at _ _ (all-at 4 _ (all-at 4 _ t (rank l NEG-PI) (rank_lt in-N)) (rank l PI) (rank_lt in-P)) (simp ranks at neg-lt))
      (rank l x) (rank_lt in_a)) (simp ranks at q.on-circle)) (rank l y) (rank_lt in_b)) (simp ranks at r.on-circle)

  normal-ok : is_valid (circle.«new» x y) ≡ true
  unfolding circle.«new» is_valid
  normal-ok = two-conds is_valid (west_g eq NEG-PI PI x y) (east_g eq NEG-PI PI x y) PI x PI y ∙ simp ranks (at _ normal-all)

  abbrev once : Interval → Interval
  once n = ends (cond (le n.lo NEG-PI) PI n.lo) n.hi

  once-ok : (n : Interval) → is_valid (once n) ≡ cond (le n.lo NEG-PI) (is_valid (ends PI n.hi)) (is_valid n)
  once-ok n = go (le n.lo NEG-PI)
    where
      go : (t : Bool) → is_valid (ends (cond t PI n.lo) n.hi) ≡ cond t (is_valid (ends PI n.hi)) (is_valid n)
      go true = refl
      go false = refl

  moved_ok : is_valid (once (circle.«new» x y)) ≡ true
  unfolding circle.«new» is_valid
  moved_ok =
      once-ok (circle.«new» x y)
      ∙ two-conds (λ n. cond (le n.lo NEG-PI) (is_valid (ends PI n.hi)) (is_valid n)) (west_g eq NEG-PI PI x y) (east_g eq NEG-PI PI x y) PI x PI y
      ∙ simp ranks (at _ moved_all)

  -- ---- the ends are doubles
  chosen : (t : Bool) (z : Float) → fits binary64 z ≡ true → fits binary64 (cond t PI z) ≡ true
  chosen true z h = and_l _ _ num-PI
  chosen false z h = h

  pub normal-valid : Valid (circle.«new» x y)
  normal-valid =
      record {
        lo-double = unfold circle.«new» in chosen (west_g eq NEG-PI PI x y) x q.is-double;
        hi-double = unfold circle.«new» in chosen (east_g eq NEG-PI PI x y) y r.is-double;
        is-valid = normal-ok;
      }

  pub moved-valid : Valid (once (circle.«new» x y))
  moved-valid = record { lo-double = chosen (le (circle.«new» x y).lo NEG-PI) (circle.«new» x y).lo normal-valid.lo-double; hi-double = normal-valid.hi-double; is-valid = moved_ok }

-- a valid interval is left as it is
not-and : (a b : Bool) → not (a && not b) ≡ true → a && not b ≡ false
not-and true true h = refl
not-and true false h = absurd (false≢true h)
not-and false b h = refl

pub normal-stays : (i : Interval) → is_valid i ≡ true → circle.«new» i.lo i.hi ≡ i
unfolding circle.«new» is_valid
normal-stays i h =
    let a : not (eq i.lo NEG-PI && not (eq i.hi PI)) ≡ true = search (and_l, and_r) in
    let b : not (eq i.hi NEG-PI && not (eq i.lo PI)) ≡ true = search (and_l, and_r) in
    simp (not-and (eq i.lo NEG-PI) (eq i.hi PI) a, not-and (eq i.hi NEG-PI) (eq i.lo PI) b)

-- ---- of the answers
pub new_is : (x y : Float) → OnCircle x → OnCircle y → «new» x y ≡ circle_answer (circle.«new» (plain x) (plain y))
unfolding «new»
new_is x y q r = simp (ends-in x y q r)

pub new-valid : (x y : Float) → OnCircle x → OnCircle y → Valid («new» x y).value
new-valid x y q r = rw (new_is x y q r) (normal-valid (plain x) (plain y) (circle-plain q) (circle-plain r))

-- `new` of a valid interval's ends is that interval, with its zeros read
pub new-stays : (i : Interval) → Valid i → «new» i.lo i.hi ≡ circle_answer (plain_ends i)
new-stays i v =
    let c = valid-on i v.is-valid in
    new_is i.lo i.hi (record { is-double = v.lo-double; on-circle = c.0 }) (record { is-double = v.hi-double; on-circle = c.1 })
    ∙ ap circle_answer (normal-stays (plain_ends i) (valid-plain i v).is-valid)

-- `invert` swaps the ends, and the answer is valid
pub invert-is : (i : Interval) → Valid i → invert i ≡ circle_answer (circle.invert (plain_ends i))
unfolding invert
invert-is i v = simp (one_in i v)

pub invert-valid : (i : Interval) → Valid i → Valid (invert i).value
invert-valid i v = rw (invert-is i v) (swap-valid (plain_ends i) (plain_ends i) (valid-plain i v) (valid-plain i v))

-- a line interval whose ends make a valid circle interval becomes that one (no other does: Refusals)
module _ (lo hi : Float) where
  pub from-line-is : Valid (ends lo hi) → from_line (record { lo = lo; hi = hi }) ≡ circle_answer (ends (plain lo) (plain hi))
  unfolding from_line
  from-line-is v = simp (one_in (ends lo hi) v)

pub to-line-is : (i : Interval) → Valid i → to_line i ≡ record { refusal = number accepted; value = record { lo = plain i.lo; hi = plain i.hi } }
unfolding to_line
to-line-is i v = simp (one_in i v)
