-- Why the remainder stays in [-PI, PI]: `reduced` of src/consts.rt, a lemma for each multiple that it takes off, and then all of them.
-- The comparisons, read by keys, put x between the two bounds of a multiple, the odd multiples of PI about it. There that multiple is the nearest
-- one (proofs/Nearest.antt), and the subtraction leaves the remainder (`Leaves`, proofs/Remainders.antt). Assumes nothing.
use mathlib.Core.Path.{◌≡◌, refl, sym, ap, ◌∙◌, subst}
use mathlib.Core.Bool.{Bool, true, false, not, false≢true}
use Prim.Native.Nat.{ℕ, ◌+◌, ◌-◌, ◌*◌, ◌≤◌, ◌<◌}
use native.Mathlib.Nat.{zero-mul}
use native.Mathlib.Omega.{arith}
use lib.Dec.{T, ltb, leb, lit<}
use lib.IntN.{ℤ, pos, negsuc, ◌-ℤ◌}
use lib.Ieee.{Float, nan, inf, fin, binary64, fits, is_nan, lt, le, add, sub, neg, of_bits}
use lib.Ieee.Scale.{finite}
use Rattle.order.specs.Key.{mag, big, key, K, Num}
use Rattle.order.proofs.Keys.{lt-key, le-key, below-big}
use Rattle.order.proofs.Facts.{tests}
use Rattle.order.proofs.Ranks.{and_l, and_r}
use Rattle.consts.specs.Constants.{PI, NEG-PI, TURN, NEG-TURN, THREE-PI, NEG-THREE-PI, FOUR-PI, NEG-FOUR-PI}
use Rattle.consts.specs.Reading.{plain}
use Rattle.consts.specs.Remainder.{signed, value, double, turn, remainder_of, within_four_pi}
use Rattle.consts.proofs.Differences.{minus-more}
use Rattle.consts.proofs.Doubles.{ok, units, num_of, plain-made}
use Rattle.consts.proofs.Sums.{add-made}
use Rattle.consts.proofs.Nearest.{Near, near-0, near-1, near-2}
use Rattle.consts.proofs.Remainders.{Leaves, nearest-leaves, leaves-remainder, InRange, leaves-between, half, two-halves, pi-num, neg-pi-num, pi-key, neg-pi-key, within-finite}

-- ---- the constants, by their keys
more-nums : (Num THREE-PI ≡ true) × (Num NEG-THREE-PI ≡ true) × (Num FOUR-PI ≡ true) × (Num NEG-FOUR-PI ≡ true)
unfolding fits is_nan of_bits
more-nums = (refl, refl, refl, refl)

three-key : K THREE-PI ≡ big binary64 + (half + turn)
unfolding key big mag half turn value of_bits
three-key = refl

neg-three-key : K NEG-THREE-PI ≡ big binary64 - (half + turn)
unfolding key big mag half turn value of_bits
neg-three-key = refl

four-key : K FOUR-PI ≡ big binary64 + (turn + turn)
unfolding key big mag turn value of_bits
four-key = refl

neg-four-key : K NEG-FOUR-PI ≡ big binary64 - (turn + turn)
unfolding key big mag turn value of_bits
neg-four-key = refl

half_pos : 0 < half
unfolding half value mag of_bits
half_pos = lit< tt

-- ---- a double of size at most 4 PI, by its parts
pub data Bounded : Float → Type 0 where
  parts : {s : Bool} {m : ℕ} {e : ℤ} → T (fits binary64 (fin s m e)) → units m e ≤ turn + turn → Bounded (fin s m e)

four-size : (s : Bool) (m : ℕ) (e : ℤ) → T (fits binary64 (fin s m e)) → within_four_pi (fin s m e) ≡ true → units m e ≤ turn + turn
unfolding within_four_pi key
four-size true m e f w =
    let x = fin true m e in
    let h = sym (le-key binary64 NEG-FOUR-PI x more-nums.3 (num_of true m e f)) ∙ and_l (le NEG-FOUR-PI x) (le x FOUR-PI) w in
    omega (tests, h, neg-four-key, below-big binary64 true m e f)
four-size false m e f w =
    let x = fin false m e in
    let h = sym (le-key binary64 x FOUR-PI (num_of false m e f) more-nums.2) ∙ and_r (le NEG-FOUR-PI x) (le x FOUR-PI) w in
    omega (tests, h, four-key)

pub is-bounded : (x : Float) → fits binary64 x ≡ true → within_four_pi x ≡ true → Bounded x
is-bounded x f w = go x (ok (fits binary64 x) f) w (within-finite x w)
  where
    go : (y : Float) → T (fits binary64 y) → within_four_pi y ≡ true → finite y ≡ true → Bounded y
    go nan g u i = absurd (false≢true i)
    go (inf s) g u i = absurd (false≢true i)
    go (fin s m e) g u i = parts g (four-size s m e g u)

-- ---- the subtractions
-- n turns off, by a constant of that size and the other sign. T is 884279719003555 * 2 ^ -47, and 2 T is twice that.
module _ (s : Bool) (m : ℕ) (e : ℤ) (f : T (fits binary64 (fin s m e))) where
  abbrev k : ℕ
  k = units m e

  taken : (n c : ℕ) (d : ℤ) → T (fits binary64 (fin (not s) c d)) → units c d ≡ n * turn → Near k turn n
      → Leaves (fin s m e) (signed s n) (add binary64 (fin s m e) (fin (not s) c d))
  taken n c d g u h =
      let made = add-made s m c e d f g ∙ ap (λ (i : ℕ). double (signed s k -ℤ signed s i)) u in
      subst (Leaves (fin s m e) (signed s n)) (sym made) (nearest-leaves s m e f n h)

  one-off : half < k → k < half + turn → Leaves (fin s m e) (signed s 1) (add binary64 (fin s m e) (fin (not s) 884279719003555 (negsuc 46)))
  one-off l u = taken 1 884279719003555 (negsuc 46) (unfold fits in tt) (unfold turn value of_bits mag in refl) (near-1 k turn half two-halves l u)

  two-off : half + turn ≤ k → k ≤ turn + turn → Leaves (fin s m e) (signed s 2) (add binary64 (fin s m e) (fin (not s) 884279719003555 (negsuc 45)))
  two-off l u = taken 2 884279719003555 (negsuc 45) (unfold fits in tt) (unfold turn value of_bits mag in refl) (near-2 k turn half two-halves l u)

  none-off : k ≤ half → Leaves (fin s m e) (signed s 0) (plain (fin s m e))
  none-off u =
      let z = zero-mul turn in
      let same : k - 0 * turn ≡ k = omega arith in
      let made = plain-made s m e f ∙ ap (λ (i : ℕ). double (signed s i)) (sym same) ∙ ap double (sym (minus-more s k (0 * turn) (omega arith))) in
      subst (Leaves (fin s m e) (signed s 0)) (sym made) (nearest-leaves s m e f 0 (near-0 k turn half two-halves u))

-- ---- the comparisons, of keys
module _ (s : Bool) (m : ℕ) (e : ℤ) (f : T (fits binary64 (fin s m e))) where
  abbrev x : Float
  x = fin s m e

  three-le : le THREE-PI x ≡ leb (K THREE-PI) (K x)
  three-le = le-key binary64 THREE-PI x more-nums.0 (num_of s m e f)

  pi-lt : lt PI x ≡ ltb (K PI) (K x)
  pi-lt = lt-key binary64 PI x pi-num (num_of s m e f)

  le-neg-three : le x NEG-THREE-PI ≡ leb (K x) (K NEG-THREE-PI)
  le-neg-three = le-key binary64 x NEG-THREE-PI (num_of s m e f) more-nums.1

  lt-neg-pi : lt x NEG-PI ≡ ltb (K x) (K NEG-PI)
  lt-neg-pi = lt-key binary64 x NEG-PI (num_of s m e f) neg-pi-num

-- ---- a multiple each
-- above PI, from 3 PI on: x - TWO_TURNS
pub two-turns : {x : Float} → Bounded x → le THREE-PI x ≡ true → Leaves x (pos 2) (sub binary64 x FOUR-PI)
unfolding key
two-turns (parts {s = true} {m = m} {e = e} f u) p = absurd (omega (tests, three-key, half_pos, sym (three-le true m e f) ∙ p))
two-turns (parts {s = false} {m = m} {e = e} f u) p =
    unfold sub neg of_bits in two-off false m e f (omega (tests, three-key, sym (three-le false m e f) ∙ p)) u

-- above PI, below 3 PI: x - TURN
pub one-turn : {x : Float} → Bounded x → lt PI x ≡ true → le THREE-PI x ≡ false → Leaves x (pos 1) (sub binary64 x TURN)
unfolding key
one-turn (parts {s = true} {m = m} {e = e} f u) p q = absurd (omega (tests, pi-key, sym (pi-lt true m e f) ∙ p))
one-turn (parts {s = false} {m = m} {e = e} f u) p q =
    unfold sub neg of_bits in one-off false m e f (omega (tests, pi-key, sym (pi-lt false m e f) ∙ p)) (omega (tests, three-key, sym (three-le false m e f) ∙ q))

-- below -PI, from -3 PI down: x - NEG_TWO_TURNS
pub minus-two-turns : {x : Float} → Bounded x → le x NEG-THREE-PI ≡ true → Leaves x (negsuc 1) (sub binary64 x NEG-FOUR-PI)
unfolding key
minus-two-turns (parts {s = false} {m = m} {e = e} f u) p = absurd (omega (tests, neg-three-key, half_pos, below-big binary64 false m e f, sym (le-neg-three false m e f) ∙ p))
minus-two-turns (parts {s = true} {m = m} {e = e} f u) p =
    unfold sub neg of_bits in two-off true m e f (omega (tests, neg-three-key, below-big binary64 true m e f, sym (le-neg-three true m e f) ∙ p)) u

-- below -PI, above -3 PI: x - NEG_TURN
pub minus-one-turn : {x : Float} → Bounded x → lt x NEG-PI ≡ true → le x NEG-THREE-PI ≡ false → Leaves x (negsuc 0) (sub binary64 x NEG-TURN)
unfolding key
minus-one-turn (parts {s = false} {m = m} {e = e} f u) p q = absurd (omega (tests, neg-pi-key, sym (lt-neg-pi false m e f) ∙ p))
minus-one-turn (parts {s = true} {m = m} {e = e} f u) p q =
    unfold sub neg of_bits in
    one-off true m e f (omega (tests, neg-pi-key, sym (lt-neg-pi true m e f) ∙ p)) (omega (tests, neg-three-key, sym (le-neg-three true m e f) ∙ q))

-- from -PI to PI: x itself, negative zero as zero
pub no-turn : {x : Float} → Bounded x → lt PI x ≡ false → lt x NEG-PI ≡ false → Leaves x (pos 0) (plain x)
unfolding key
no-turn (parts {s = false} {m = m} {e = e} f u) p q = none-off false m e f (omega (tests, pi-key, sym (pi-lt false m e f) ∙ p))
no-turn (parts {s = true} {m = m} {e = e} f u) p q = none-off true m e f (omega (tests, neg-pi-key, below-big binary64 true m e f, sym (lt-neg-pi true m e f) ∙ q))

-- ---- all of them
-- The comparisons lead to one of the five, as in `reduced`, and what it leaves is the remainder.
pub stays-in-range : (x : Float) → fits binary64 x ≡ true → within_four_pi x ≡ true → InRange (remainder_of x)
stays-in-range x f w = go (lt PI x) refl (le THREE-PI x) refl (lt x NEG-PI) refl (le x NEG-THREE-PI) refl
  where
    b : Bounded x
    b = is-bounded x f w

    left : {n : ℤ} {r : Float} → Leaves x n r → InRange (remainder_of x)
    left l = subst InRange (leaves-remainder f l) (leaves-between l)

    go : (above : Bool) → lt PI x ≡ above → (three : Bool) → le THREE-PI x ≡ three → (below : Bool) → lt x NEG-PI ≡ below → (minus-three : Bool)
        → le x NEG-THREE-PI ≡ minus-three → InRange (remainder_of x)
    go true p true q _ r _ s = left (two-turns b q)
    go true p false q _ r _ s = left (one-turn b p q)
    go false p _ q true r true s = left (minus-two-turns b s)
    go false p _ q true r false s = left (minus-one-turn b r s)
    go false p _ q false r _ s = left (no-turn b p r)
