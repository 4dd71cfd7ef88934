-- The laws of reading a number: a number in reach is no NaN; reading zero changes no comparison, is done once and for all, and leaves doubles that
-- compare equal equal. Assumes nothing.
use mathlib.Core.Path.{◌≡◌, refl, sym, ap, ◌∙◌}
use mathlib.Core.Bool.{Bool, true, false, cond, false≢true}
use Prim.Native.Nat.{ℕ}
use lib.Dec.{eqb}
use borrow.Author.Tests.{eq-eqb}
use lib.Ieee.{Float, nan, inf, fin, binary64, of_bits, lt, le, eq, fits, is_nan}
use Rattle.order.specs.Key.{K, Num, is_zero}
use Rattle.order.proofs.Keys.{lt-key, le-key, eq-key, zero-key, same_key}
use Rattle.order.proofs.Ranks.{and_l, and-of}
use Rattle.order.proofs.Facts.{tests}
use Rattle.std.specs.Prelude.{Result, Ok, Err}
use Rattle.consts.specs.declared.answer.Number.{Number}
use Rattle.consts.specs.declared.refusal.Refusal.{Refusal}
use Rattle.consts.specs.Refusal.{number, accepted, code}
use Rattle.consts.specs.Answer.{ZERO}
use Rattle.consts.specs.Reading.{in_reach, plain, read_number, number_read}

-- ---- in reach
pub reach-num : (x : Float) → fits binary64 x ≡ true → in_reach x ≡ true → Num x ≡ true
unfolding in_reach le lt eq of_bits is_nan fits
reach-num nan f h = absurd (false≢true h)
reach-num (inf s) f h = refl
reach-num (fin s m e) f h = and-of f refl

-- neither a NaN nor an infinity is in reach
pub nan-out : in_reach nan ≡ false
unfolding in_reach le lt eq of_bits
nan-out = refl

pub inf-out : (s : Bool) → in_reach (inf s) ≡ false
unfolding in_reach le lt eq of_bits
inf-out true = refl
inf-out false = refl

-- ---- zero read
pub num-zero : Num ZERO ≡ true
unfolding fits is_nan of_bits
num-zero = refl

zero-zero : is_zero ZERO ≡ true
unfolding is_zero of_bits
zero-zero = refl

pub plain_fits : (x : Float) → fits binary64 x ≡ true → fits binary64 (plain x) ≡ true
unfolding plain
plain_fits x f = go (eq x ZERO)
  where
    go : (t : Bool) → fits binary64 (cond t ZERO x) ≡ true
    go true = and_l _ _ num-zero
    go false = f

pub plain-num : (x : Float) → Num x ≡ true → Num (plain x) ≡ true
unfolding plain
plain-num x n = go (eq x ZERO)
  where
    go : (t : Bool) → Num (cond t ZERO x) ≡ true
    go true = num-zero
    go false = n

pub plain-reach : (x : Float) → in_reach x ≡ true → in_reach (plain x) ≡ true
unfolding plain
plain-reach x h = go (eq x ZERO)
  where
    go : (t : Bool) → in_reach (cond t ZERO x) ≡ true
    go true = unfold in_reach le lt eq of_bits in refl
    go false = h

-- the same number
pub plain-key : (x : Float) → Num x ≡ true → K (plain x) ≡ K x
unfolding plain
plain-key x n = go (eq x ZERO) refl
  where
    go : (t : Bool) → eq x ZERO ≡ t → K (cond t ZERO x) ≡ K x
    go true e = omega (tests, sym (eq-key binary64 x ZERO n num-zero) ∙ e)
    go false e = refl

-- so it compares as it did
module _ (x y : Float) (n : Num x ≡ true) (m : Num y ≡ true) where
  pub plain-le : le (plain x) y ≡ le x y
  plain-le = le-key binary64 (plain x) y (plain-num x n) m ∙ rw (plain-key x n) (sym (le-key binary64 x y n m))

  pub le-plain : le x (plain y) ≡ le x y
  le-plain = le-key binary64 x (plain y) n (plain-num y m) ∙ rw (plain-key y m) (sym (le-key binary64 x y n m))

  pub plain-lt : lt (plain x) y ≡ lt x y
  plain-lt = lt-key binary64 (plain x) y (plain-num x n) m ∙ rw (plain-key x n) (sym (lt-key binary64 x y n m))

  pub lt-plain : lt x (plain y) ≡ lt x y
  lt-plain = lt-key binary64 x (plain y) n (plain-num y m) ∙ rw (plain-key y m) (sym (lt-key binary64 x y n m))

  pub plain-eq : eq (plain x) y ≡ eq x y
  plain-eq = eq-key binary64 (plain x) y (plain-num x n) m ∙ rw (plain-key x n) (sym (eq-key binary64 x y n m))

  pub eq-plain : eq x (plain y) ≡ eq x y
  eq-plain = eq-key binary64 x (plain y) n (plain-num y m) ∙ rw (plain-key y m) (sym (eq-key binary64 x y n m))

-- once is enough
pub plain-plain : (x : Float) → plain (plain x) ≡ plain x
unfolding plain
plain-plain x = go (eq x ZERO) refl
  where
    zero : cond (eq ZERO ZERO) ZERO ZERO ≡ ZERO
    zero = unfold eq of_bits in refl

    go : (t : Bool) → eq x ZERO ≡ t → cond (eq (cond t ZERO x) ZERO) ZERO (cond t ZERO x) ≡ cond t ZERO x
    go true e = zero
    go false e = ap (λ (t : Bool). cond t ZERO x) e

-- numbers with no negative zero are equal where they compare equal
pub plain-same : (x y : Float) → Num x ≡ true → Num y ≡ true → plain x ≡ x → plain y ≡ y → eq x y ≡ true → x ≡ y
plain-same x y n m p q e = go (eq x ZERO) refl (is_zero x) refl
  where
    kxy : K x ≡ K y
    kxy = omega (tests, sym (eq-key binary64 x y n m) ∙ e)

    at : (z : Float) → plain z ≡ z → eq z ZERO ≡ true → z ≡ ZERO
    at z r h = sym r ∙ unfold plain in (ap (λ (t : Bool). cond t ZERO z) h)

    go : (t : Bool) → eq x ZERO ≡ t → (s : Bool) → is_zero x ≡ s → x ≡ y
    go true h s k = at x p h ∙ sym (at y q (eq-key binary64 y ZERO m num-zero ∙ ap (λ (j : ℕ). eqb j (K ZERO)) (sym kxy) ∙ sym (eq-key binary64 x ZERO n num-zero) ∙ h))
    go false h true k =
        absurd (false≢true (sym h ∙ eq-key binary64 x ZERO n num-zero ∙ eq-eqb (K x) (K ZERO) (zero-key binary64 x k ∙ sym (zero-key binary64 ZERO zero-zero))))
    go false h false k = same_key binary64 x y n m k kxy

-- a choice between numbers with no negative zero has none
pub plain-cond : (t : Bool) (x y : Float) → plain x ≡ x → plain y ≡ y → plain (cond t x y) ≡ cond t x y
plain-cond true x y p q = p
plain-cond false x y p q = q

-- ---- a point, a margin or an error
pub read-in : (x : Float) (n : ℕ) → in_reach x ≡ true → read_number x n ≡ record { refusal = number accepted; value = plain x }
unfolding read_number
read-in x n h = simp h

pub read_out : (x : Float) (n : ℕ) → in_reach x ≡ false → read_number x n ≡ record { refusal = n; value = plain x }
unfolding read_number
read_out x n h = simp h

-- ---- the same as a result: accepted under 0, refused under the refusal's number
pub number_in : (x : Float) (r : Refusal) (v : Float) → Ok v ≡ number_read x r → read_number x (code r) ≡ record { refusal = number accepted; value = v }
unfolding read_number number_read
number_in x r v = go (in_reach x)
  where
    go : (t : Bool) → ◌≡◌ {A = Result Float Refusal} (Ok v) (cond t (Ok (plain x)) (Err r))
        → ◌≡◌ {A = Number} (record { refusal = cond t (number accepted) (code r); value = plain x }) (record { refusal = number accepted; value = v })
    go true e = ap (λ (y : Float). record { refusal = number accepted; value = y }) (sym (ap value e))
      where
        value : Result Float Refusal → Float
        value (Ok y) = y
        value (Err w) = x
    go false e = cc

pub number_out : (x : Float) (r e : Refusal) → Err e ≡ number_read x r → (read_number x (code r) ≡ record { refusal = code r; value = plain x }) × (e ≡ r)
unfolding read_number number_read
number_out x r e = go (in_reach x)
  where
    go : (t : Bool) → ◌≡◌ {A = Result Float Refusal} (Err e) (cond t (Ok (plain x)) (Err r))
        → (◌≡◌ {A = Number} (record { refusal = cond t (number accepted) (code r); value = plain x }) (record { refusal = code r; value = plain x })) × (e ≡ r)
    go true q = cc
    go false q = (refl, ap refused q)
      where
        refused : Result Float Refusal → Refusal
        refused (Ok y) = r
        refused (Err w) = w
