-- The laws of the remainder: what the definition makes is IEEE 754's remainder, by its properties, and no other double is; it lies from -PI to PI.
-- It is a double because its size is at most x's and at most T's (proofs/Doubles.antt). Assumes nothing.
use mathlib.Core.Path.{◌≡◌, refl, sym, ap, ◌∙◌, subst}
use mathlib.Core.Bool.{Bool, true, false, cond, false≢true}
use Prim.Native.Nat.{ℕ, zero, suc, ◌+◌, ◌-◌, ◌*◌, ◌%◌, ◌≤◌, ◌<◌}
use native.Mathlib.Nat.{zero-mul}
use native.Mathlib.Omega.{arith}
use lib.Dec.{T, lit<}
use lib.IntN.{ℤ, pos, negsuc, neg_ℤ, nat_abs, ◌+ℤ◌, ◌-ℤ◌, ◌*ℤ◌, +ℤ_comm, -ℤ-+ℤ_cancel}
use lib.Ieee.{Float, nan, inf, fin, binary64, fits, is_nan, lt, le, eq, of_bits}
use lib.Ieee.Scale.{finite}
use borrow.Author.Tests.{le-leb}
use Rattle.order.specs.Key.{mag, big, key, K, Num}
use Rattle.order.proofs.Ranks.{and-of}
use Rattle.order.proofs.Facts.{le_trans}
use Rattle.order.proofs.Keys.{le-key}
use Rattle.consts.specs.declared.answer.Number.{Number}
use Rattle.consts.specs.Constants.{PI, NEG-PI}
use Rattle.consts.specs.Answer.{told}
use Rattle.consts.specs.Reading.{plain, NoMinus, in_reach, LEAST, MOST}
use Rattle.consts.specs.Refusal.{number, accepted, bad_margin}
use Rattle.consts.specs.Remainder.{signed, value, double, turn, nearest, nearest_to, remainder_of, IsRem, within_four_pi, remainder, IsAnswer}
use Rattle.consts.proofs.Differences.{apart, abs-signed, abs-minus}
use Rattle.consts.proofs.Doubles.{ok, num_of, units, Size, own-size, apart-size, double-fits, double-value, double-finite, double-plain, one-double}
use Rattle.consts.proofs.Nearest.{Near, nearest-near, nearest-none}
use Rattle.consts.proofs.Multiples.{one-rest}

-- ---- T and PI in units
turn-size : Size turn
unfolding turn value of_bits fits mag
turn-size = own-size false 884279719003555 (negsuc 46) tt

turn-pos : 0 < turn
unfolding turn value of_bits mag
turn-pos = lit< tt

-- PI, half a turn
unfoldable pub half : ℕ
unfolding value
half = nat_abs (value PI)

pub two-halves : turn ≡ half + half
unfolding turn half value of_bits mag
two-halves = refl

-- ---- signs go through the definition
nearest-signed : (s : Bool) (k t : ℕ) → 0 < t → nearest_to (signed s k) t ≡ signed s (nearest k t)
unfolding nearest_to
nearest-signed false k t h = refl
nearest-signed true zero t h = ap pos (nearest-none t h) ∙ ap (λ (n : ℕ). neg_ℤ (pos n)) (sym (nearest-none t h))
nearest-signed true (suc k) t h = refl

times-signed : (s : Bool) (k t : ℕ) → signed s k *ℤ pos t ≡ signed s (k * t)
times-signed false k t = refl
times-signed true zero t = ap pos (zero-mul t) ∙ ap (λ (z : ℕ). neg_ℤ (pos z)) (sym (zero-mul t))
times-signed true (suc k) t = refl

-- ---- so many turns taken off
-- r is what n turns leave of x: x minus n times T, with nothing rounded; it is at most PI in size; where it is PI in size, another multiple is as
-- near, and n is the even one. It is a finite double and no negative zero.
pub record Leaves (x : Float) (n : ℤ) (r : Float) : Type 0 where
  pub exact : value r ≡ value x -ℤ n *ℤ pos turn
  pub size : nat_abs (value r) ≤ half
  pub tie : nat_abs (value r) ≡ half → nat_abs n % 2 ≡ 0
  pub finite-x : finite x ≡ true
  pub finite-r : finite r ≡ true
  pub is-double : fits binary64 r ≡ true
  pub no-minus-zero : NoMinus r

-- this is the remainder
pub leaves-is : {x r : Float} {n : ℤ} → Leaves x n r → IsRem x r
leaves-is {x} {r} {n} l =
    record {
      n = n;
      exact = sym (ap (λ (z : ℤ). n *ℤ pos turn +ℤ z) l.exact ∙ +ℤ_comm (n *ℤ pos turn) (value x -ℤ n *ℤ pos turn) ∙ -ℤ-+ℤ_cancel (value x) (n *ℤ pos turn));
      near = omega (arith, l.size, two-halves);
      tie = λ h. l.tie (omega (arith, two-halves));
      finite-x = l.finite-x;
      finite-r = l.finite-r;
      no-minus-zero = l.no-minus-zero;
    }

-- The nearest multiple leaves it: what is left is no larger than x and than T, so it is the size of a double.
module _ (s : Bool) (m : ℕ) (e : ℤ) (f : T (fits binary64 (fin s m e))) (n : ℕ) (near : Near (units m e) turn n) where
  abbrev k : ℕ
  k = units m e

  abbrev left : ℤ
  left = signed s k -ℤ signed s (n * turn)

  left-abs : nat_abs left ≡ apart k (n * turn)
  left-abs = abs-minus s k (n * turn)

  left-size : Size (nat_abs left)
  left-size = subst Size (sym left-abs) (apart-size k turn n (own-size s m e f) turn-size near.least (omega (arith, near.half)))

  double-abs : nat_abs (value (double left)) ≡ apart k (n * turn)
  double-abs = ap nat_abs (double-value left left-size) ∙ left-abs

  pub nearest-leaves : Leaves (fin s m e) (signed s n) (double left)
  unfolding value
  nearest-leaves =
      record {
        exact = double-value left left-size ∙ ap (λ (z : ℤ). signed s k -ℤ z) (sym (times-signed s n turn));
        size = subst (λ (i : ℕ). i ≤ half) (sym double-abs) (omega (arith, near.half, two-halves));
        tie = λ h. ap (λ (i : ℕ). i % 2) (abs-signed s n) ∙ near.tie (omega (arith, two-halves, double-abs, h));
        finite-x = refl;
        finite-r = double-finite left left-size;
        is-double = double-fits left;
        no-minus-zero = double-plain left left-size;
      }

-- ---- what the definition makes
made : (s : Bool) (m : ℕ) (e : ℤ) → remainder_of (fin s m e) ≡ double (signed s (units m e) -ℤ signed s (nearest (units m e) turn * turn))
unfolding remainder_of value
made s m e =
    let k = units m e in
    ap (λ (z : ℤ). double (signed s k -ℤ z)) (ap (λ (z : ℤ). z *ℤ pos turn) (nearest-signed s k turn turn-pos) ∙ times-signed s (nearest k turn) turn)

-- a number within 4 PI is finite
pub within-finite : (x : Float) → within_four_pi x ≡ true → finite x ≡ true
unfolding within_four_pi le lt eq of_bits
within-finite nan h = absurd (false≢true h)
within-finite (inf true) h = absurd (false≢true h)
within-finite (inf false) h = absurd (false≢true h)
within-finite (fin s m e) h = refl

pub finite-is : (x : Float) → fits binary64 x ≡ true → finite x ≡ true → IsRem x (remainder_of x)
finite-is nan f h = absurd (false≢true h)
finite-is (inf s) f h = absurd (false≢true h)
finite-is (fin s m e) f h =
    let k = units m e in
    let l = nearest-leaves s m e (ok (fits binary64 (fin s m e)) f) (nearest k turn) (nearest-near k turn turn-pos) in
    subst (IsRem (fin s m e)) (sym (made s m e)) (leaves-is l)

-- the definition's double is the remainder
pub remainder_is : (x : Float) → fits binary64 x ≡ true → within_four_pi x ≡ true → IsRem x (remainder_of x)
remainder_is x f h = finite-is x f (within-finite x h)

pub remainder-fits : (x : Float) → fits binary64 (remainder_of x) ≡ true
unfolding remainder_of
remainder-fits x = double-fits (value x -ℤ nearest_to (value x) turn *ℤ pos turn)

-- ---- there is no other
pub only-remainder : (x r r' : Float) → fits binary64 r ≡ true → fits binary64 r' ≡ true → IsRem x r → IsRem x r' → r ≡ r'
only-remainder x r r' f f' a b =
    one-double r r' f f' a.finite-r b.finite-r a.no-minus-zero b.no-minus-zero
    (one-rest (value x) a.n (value r) b.n (value r') turn turn-pos a.exact b.exact a.near b.near a.tie b.tie)

-- and what has the properties is the definition's double
pub is-remainder : (x r : Float) → fits binary64 x ≡ true → fits binary64 r ≡ true → IsRem x r → r ≡ remainder_of x
is-remainder x r f g h = only-remainder x r (remainder_of x) g (remainder-fits x) h (finite-is x f h.finite-x)

pub leaves-remainder : {x r : Float} {n : ℤ} → fits binary64 x ≡ true → Leaves x n r → r ≡ remainder_of x
leaves-remainder {x} {r} f l = is-remainder x r f l.is-double (leaves-is l)

-- ---- it lies from -PI to PI
pub pi-num : Num PI ≡ true
unfolding fits is_nan of_bits
pi-num = refl

pub neg-pi-num : Num NEG-PI ≡ true
unfolding fits is_nan of_bits
neg-pi-num = refl

pub pi-key : K PI ≡ big binary64 + half
unfolding key big mag half value of_bits
pi-key = refl

pub neg-pi-key : K NEG-PI ≡ big binary64 - half
unfolding key big mag half value of_bits
neg-pi-key = refl

abbrev pub InRange : Float → Type 0
InRange r = (le NEG-PI r ≡ true) × (le r PI ≡ true)

between : (s : Bool) (m : ℕ) (e : ℤ) → T (fits binary64 (fin s m e)) → units m e ≤ half → InRange (fin s m e)
between s m e f h = (
  le-key binary64 NEG-PI (fin s m e) neg-pi-num (num_of s m e f) ∙ le-leb _ _ (low-side s),
  le-key binary64 (fin s m e) PI (num_of s m e f) pi-num ∙ le-leb _ _ (high-side s),
)
  where
    low-side : (t : Bool) → K NEG-PI ≤ K (fin t m e)
    low-side true = unfold key in omega (arith, neg-pi-key)
    low-side false = unfold key in omega (arith, neg-pi-key)

    high-side : (t : Bool) → K (fin t m e) ≤ K PI
    high-side true = unfold key in omega (arith, pi-key)
    high-side false = unfold key in omega (arith, pi-key)

pub leaves-between : {x r : Float} {n : ℤ} → Leaves x n r → InRange r
leaves-between {r = nan} l = absurd (false≢true l.finite-r)
leaves-between {r = inf s} l = absurd (false≢true l.finite-r)
leaves-between {r = fin s m e} l = between s m e (ok (fits binary64 (fin s m e)) l.is-double) (omega (arith, l.size, size))
  where
    size : nat_abs (value (fin s m e)) ≡ units m e
    size = unfold value in abs-signed s (units m e)

-- a number from -PI to PI is in reach, whose bounds are further out
far-nums : (Num LEAST ≡ true) × (Num MOST ≡ true)
unfolding fits is_nan of_bits
far-nums = (refl, refl)

further-out : (le LEAST NEG-PI ≡ true) × (le PI MOST ≡ true)
unfolding le lt eq of_bits
further-out = (refl, refl)

pub pi-in-reach : (x : Float) → Num x ≡ true → le NEG-PI x ≡ true → le x PI ≡ true → in_reach x ≡ true
unfolding in_reach
pi-in-reach x n p q = and-of (le_trans LEAST NEG-PI x far-nums.0 neg-pi-num n further-out.0 p) (le_trans x PI MOST n pi-num far-nums.1 q further-out.1)

pub remainder-plain : (x : Float) → fits binary64 x ≡ true → within_four_pi x ≡ true → plain (remainder_of x) ≡ remainder_of x
remainder-plain x f w = (remainder_is x f w).no-minus-zero

-- ---- the answer: it has its properties, and no other has
module _ (x : Float) (f : fits binary64 x ≡ true) where
  pub answer-is : IsAnswer x (remainder x)
  unfolding remainder
  answer-is =
      record {
        refused = under (within_four_pi x);
        taken = λ w. simp w (remainder_is x f w);
        refused-value = λ w. simp w;
      }
    where
      under : (b : Bool) → (told (cond b (number accepted) (number bad_margin)) (remainder_of x)).refusal ≡ cond b (number accepted) (number bad_margin)
      under true = refl
      under false = refl

  pub one_answer : (a : Number) → fits binary64 a.value ≡ true → IsAnswer x a → a ≡ remainder x
  unfolding remainder
  one_answer a g h = go (within_four_pi x) refl h.refused
    where
      go : (b : Bool) → within_four_pi x ≡ b → a.refusal ≡ cond b (number accepted) (number bad_margin) → a ≡ told (cond b (number accepted) (number bad_margin)) (remainder_of x)
      go true w e = λ i. record { refusal = e i; value = is-remainder x a.value f g (h.taken w) i }
      go false w e = λ i. record { refusal = e i; value = h.refused-value w i }
