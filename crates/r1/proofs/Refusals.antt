-- When each refusal number is given, for each kind of operands: the tests of Readings in their order choose between the answer and what is refused.
-- Assumes nothing.
use mathlib.Core.Path.{◌≡◌, refl, ap, ◌∙◌}
use mathlib.Core.Bool.{Bool, false, ◌&&◌, cond}
use mathlib.Core.Logic.{◌↔◌, ◌⊎◌}
use Prim.Native.Nat.{ℕ, ◌<◌}
use native.Mathlib.Omega.{arith}
use borrow.Author.Tests.{ne_eqb}
use lib.Ieee.{Float}
use Rattle.consts.specs.declared.answer.YesNo.{YesNo}
use Rattle.consts.specs.declared.answer.Number.{Number}
use Rattle.consts.specs.Refusal.{number, accepted, out_of_reach, bad_point, bad_margin, first_refusal, given, GivenExactly, GivenInTurn}
use Rattle.consts.specs.Answer.{no_under, zero_under}
use Rattle.consts.specs.Reading.{in_reach, read_number}
use Rattle.consts.proofs.Refusals.{chosen, chosen-in-turn, given-chosen, given-in-turn}
use Rattle.r1.specs.declared.interval.Interval.{Interval}
use Rattle.r1.specs.declared.interval.Answer.{Answer}
use Rattle.r1.specs.Answers.{Hausdorff}
use Rattle.r1.specs.Reading.{read_one, read_two, read_with}
use Rattle.r1.specs.Answers.{empty_under, zero_distance, add}
use Rattle.r1.specs.Places.{OutOfReach}
use Rattle.r1.proofs.Readings.{both_in, one-refusal, two-refusal, with-refusal, either-refusal, before-refusal, and-fails, out-fails}
use Rattle.r1.proofs.Accepted.{add-chosen}

-- a form of answer: where its number is, and what is refused under a number
pub record Form (A : Type 0) : Type 0 where
  pub number_of : A → ℕ
  pub refused : ℕ → A
  pub at : (n : ℕ) → number_of (refused n) ≡ n

abbrev pub tests : Form YesNo
tests = record { number_of = λ (y : YesNo). y.refusal; refused = no_under; at = λ n. refl }

abbrev pub numbers : Form Number
numbers = record { number_of = λ (y : Number). y.refusal; refused = zero_under; at = λ n. refl }

abbrev pub intervals : Form Answer
intervals = record { number_of = λ (y : Answer). y.refusal; refused = empty_under; at = λ n. refl }

abbrev pub distances : Form Hausdorff
distances = record { number_of = λ (y : Hausdorff). y.refusal; refused = zero_distance; at = λ n. refl }

module _ {A : Type 0} (f : Form A) (answer : A) (z : f.number_of answer ≡ number accepted) where
  not-0 : (n : ℕ) → 0 < n → f.number_of (f.refused n) ≡ 0 → ⊥
  not-0 n h k = omega (arith, f.at n)

  -- m is the number of what is read, in reach where t is true; n is the number of what is not
  by-test : (n m : ℕ) → 0 < n → (t : Bool) {P : Type 0} → m ≡ cond t 0 n → (t ≡ false) ↔ P → GivenExactly f.number_of (given m answer (f.refused m)) (f.refused n) P
  by-test n m h t e p = chosen f.number_of t _ answer (f.refused n) (given-chosen answer f.refused t m n (ne_eqb n 0 (λ k. omega arith)) e) z (not-0 n h) p

  -- the same of the intervals, and after them of x
  by_tests : (n m : ℕ) → 1 < n → (t : Bool) (x : Float) {P : Type 0} → m ≡ cond t (cond (in_reach x) 0 n) 1 → (t ≡ false) ↔ P
      → GivenInTurn f.number_of (given m answer (f.refused m)) (f.refused 1) (f.refused n) P (in_reach x ≡ false)
  by_tests n m h t x e p =
      chosen-in-turn f.number_of t (in_reach x) _ answer (f.refused 1) (f.refused n)
      (given-in-turn answer f.refused t (in_reach x) m 1 n refl (ne_eqb n 0 (λ k. omega arith)) e) z
      (not-0 1 (omega arith)) (not-0 n (omega arith)) (λ k. omega (arith, f.at 1, f.at n)) p (λ g. g, λ g. g)

  pub one : (i : Interval) → GivenExactly f.number_of (given (read_one i).refusal answer (f.refused (read_one i).refusal)) (f.refused (number out_of_reach)) (OutOfReach i)
  one i = by-test 1 _ (omega arith) (both_in i) (one-refusal i) (out-fails i)

  pub two : (i o : Interval)
      → GivenExactly f.number_of (given (read_two i o).refusal answer (f.refused (read_two i o).refusal)) (f.refused (number out_of_reach)) (OutOfReach i ⊎ OutOfReach o)
  two i o = by-test 1 _ (omega arith) (both_in i && both_in o) (two-refusal i o) (and-fails (both_in i) (both_in o) (out-fails i) (out-fails o))

  -- a number beside an interval, refused with n
  pub beside : (n : ℕ) → 1 < n → (i : Interval) (x : Float)
      → GivenInTurn f.number_of (given (read_with i x n).refusal answer (f.refused (read_with i x n).refusal)) (f.refused (number out_of_reach)) (f.refused n) (OutOfReach i) (in_reach x ≡ false)
  beside n h i x = by_tests n _ h (both_in i) x (with-refusal i x n) (out-fails i)

  -- an error beside two intervals
  pub beside_two : (i o : Interval) (x : Float)
      → GivenInTurn f.number_of
      (given (first_refusal (read_two i o).refusal (read_number x (number bad_margin)).refusal) answer (f.refused (first_refusal (read_two i o).refusal (read_number x (number bad_margin)).refusal)))
      (f.refused (number out_of_reach)) (f.refused (number bad_margin)) (OutOfReach i ⊎ OutOfReach o) (in_reach x ≡ false)
  unfolding read_number
  beside_two i o x =
      by_tests 4 _ (omega arith) (both_in i && both_in o) x
      (ap (λ (k : ℕ). first_refusal k (cond (in_reach x) 0 4)) (two-refusal i o) ∙ before-refusal (both_in i && both_in o) (cond (in_reach x) 0 4))
      (and-fails (both_in i) (both_in o) (out-fails i) (out-fails o))

  -- points alone
  pub point : (p : Float)
      → GivenExactly f.number_of (given (read_number p (number bad_point)).refusal answer (f.refused (read_number p (number bad_point)).refusal)) (f.refused (number bad_point)) (in_reach p ≡ false)
  unfolding read_number
  point p = by-test 3 _ (omega arith) (in_reach p) refl (λ g. g, λ g. g)

  pub points : (p q : Float)
      → GivenExactly f.number_of
      (given (first_refusal (read_number p (number bad_point)).refusal (read_number q (number bad_point)).refusal) answer (f.refused (first_refusal (read_number p (number bad_point)).refusal (read_number q (number bad_point)).refusal)))
      (f.refused (number bad_point)) ((in_reach p ≡ false) ⊎ (in_reach q ≡ false))
  unfolding read_number
  points p q =
      by-test 3 _ (omega arith) (in_reach p && in_reach q) (either-refusal (in_reach p) (in_reach q) 3 refl)
      (and-fails (in_reach p) (in_reach q) (λ g. g, λ g. g) (λ g. g, λ g. g))

-- growth hands back what came, where the point is refused
pub growth : (i : Interval) (p : Float)
    → GivenInTurn (λ (y : Answer). y.refusal) (add i p) (empty_under (number out_of_reach)) (record { refusal = number bad_point; value = i }) (OutOfReach i) (in_reach p ≡ false)
growth i p =
    chosen-in-turn (λ (y : Answer). y.refusal) (both_in i) (in_reach p) _ _ _ _ (add-chosen i p) refl (λ h. omega arith) (λ h. omega arith) (λ h. omega arith)
    (out-fails i) (λ g. g, λ g. g)
