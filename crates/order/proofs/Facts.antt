-- What `omega` reads of tests: with these rules and the keys' laws a fact on the order of doubles is one of linear arithmetic. The transitive laws below
-- show how. Assumes nothing.
use mathlib.Core.Path.{◌≡◌, refl}
use mathlib.Core.Bool.{true, false, false≢true}
use native.Mathlib.Omega.{arith}
use lib.Ieee.{Float, nan, inf, fin, binary64, fits, is_nan, lt, le, eq}
use borrow.Author.Tests.{ltb-true, ltb-false, leb-true, leb-false, eqb-true, eqb-false, lt-ltb, le-ltb, le-leb, lt-leb, eq-eqb, ne_eqb}
use Rattle.order.specs.Key.{Num}
use Rattle.order.proofs.Keys.{lt-key, le-key, eq-key}
use Rattle.order.proofs.Ranks.{and-of}

pub ruleset tests = (ltb-true, ltb-false, leb-true, leb-false, eqb-true, eqb-false, lt-ltb, le-ltb, le-leb, lt-leb, eq-eqb, ne_eqb, arith)

module _ (x y z : Float) (nx : Num x ≡ true) (ny : Num y ≡ true) (nz : Num z ≡ true) where
  pub le_trans : le x y ≡ true → le y z ≡ true → le x z ≡ true
  le_trans h k = simp (le-key binary64) (omega (tests, simp (le-key binary64) at h, simp (le-key binary64) at k))

pub le_refl : (x : Float) → Num x ≡ true → le x x ≡ true
le_refl x n = simp (le-key binary64) (omega tests)

pub eq_refl : (x : Float) → Num x ≡ true → eq x x ≡ true
eq_refl x n = simp (eq-key binary64) (omega tests)

pub lt-le : (x y : Float) → lt x y ≡ true → le x y ≡ true
unfolding le
lt-le x y h = rw h

-- doubles that are compared, with the outcome true, are no NaN
pub num-l : (x y : Float) → fits binary64 x ≡ true → le x y ≡ true → Num x ≡ true
unfolding le lt eq is_nan
num-l nan y f h = absurd (false≢true h)
num-l (inf s) y f h = and-of f refl
num-l (fin s m e) y f h = and-of f refl

pub num-r : (x y : Float) → fits binary64 y ≡ true → le x y ≡ true → Num y ≡ true
unfolding le lt eq is_nan
num-r nan nan f h = absurd (false≢true h)
num-r (inf s) nan f h = absurd (false≢true h)
num-r (fin s m e) nan f h = absurd (false≢true h)
num-r x (inf s) f h = and-of f refl
num-r x (fin s m e) f h = and-of f refl

module _ (x y : Float) (nx : Num x ≡ true) (ny : Num y ≡ true) where
  pub le-no : le x y ≡ true → lt y x ≡ false
  le-no h = simp (lt-key binary64) (omega (tests, simp (le-key binary64) at h))

  pub not-le : le x y ≡ false → lt y x ≡ true
  not-le h = simp (lt-key binary64) (omega (tests, simp (le-key binary64) at h))

  pub not-lt : lt x y ≡ false → le y x ≡ true
  not-lt h = simp (le-key binary64) (omega (tests, simp (lt-key binary64) at h))

  pub antisym : le x y ≡ true → le y x ≡ true → eq x y ≡ true
  antisym h k = simp (eq-key binary64) (omega (tests, simp (le-key binary64) at h, simp (le-key binary64) at k))

  pub lt-not-eq : lt x y ≡ true → eq y x ≡ false
  lt-not-eq h = simp (eq-key binary64) (omega (tests, simp (lt-key binary64) at h))
