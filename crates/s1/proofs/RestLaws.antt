-- What is left of a double once 2 PI is taken off as often as it goes (src/rests.rt), over whole numbers of units: the kit's `rem` is the double of as many
-- units as `%` leaves; what is less than t is left as it is; and what twice t leaves, t goes into at most once more, with nothing rounded. Assumes nothing.
use mathlib.Core.Path.{◌≡◌, refl, sym, ap, ◌∙◌, subst}
use mathlib.Core.Bool.{Bool, true, false, cond, ◌&&◌, false≢true}
use Prim.Native.Nat.{ℕ, zero, suc, ◌+◌, ◌-◌, ◌*◌, ◌/◌, ◌%◌, ◌^◌, ◌≤◌, ◌<◌}
use native.Mathlib.Nat.{mul_assoc, mul-pos, add-mul, mod-eq_of_lt, mul-add-mod_self_right, mul-lt-mul_of_pos_right, pow-suc, zero-lt-suc, zero-mul}
use native.Mathlib.Omega.{arith}
use lib.Pow.{pow_pos}
use lib.Dec.{T, ltb, lit<}
use lib.IntN.{ℤ, pos, negsuc, nat_abs, ◌-ℤ◌}
use lib.Ieee.{Float, nan, inf, fin, binary64, low, up, down, fits, round, rem, sum, add, sub, neg, lt, eq, ne, is_nan, of_bits}
use lib.Ieee.Bits.{is_true}
use lib.Ieee.Fits.{down_pos, up_pos, neg-fits}
use lib.Ieee.Scale.{finite, round_same}
use borrow.Author.Tests.{ne_eqb, eqb-true, lt-ltb}
use Rattle.std.proofs.lemmas.Nat.{mod-mul-add}
use Rattle.order.specs.Key.{mag, big, key, K}
use Rattle.order.proofs.Ranks.{and_l, and_r, and-of}
use Rattle.order.proofs.Facts.{tests}
use Rattle.order.proofs.Keys.{left, right, low-enough, below-big, lt-key, eq-key}
use Rattle.order.proofs.Units.{add-units}
use Rattle.consts.specs.Constants.{TURN, NEG-TURN}
use Rattle.consts.specs.Reading.{plain}
use Rattle.consts.specs.Answer.{ZERO}
use Rattle.consts.specs.Remainder.{signed, value, double, turn}
use Rattle.consts.proofs.Doubles.{UNIT, units, in-units, Size, own-size, apart-size, num_of, double-signed, double-fits, double-value, double-finite, plain-made}
use Rattle.consts.proofs.Differences.{minus-more, no_signed, apart}
use Rattle.consts.proofs.Sums.{add-made}
use Rattle.s1.specs.Rests.{Whole, whole, count, Divides, Left, rest}

-- ---- whole numbers
-- a remainder, scaled
scaled-mod : (a b k : ℕ) → 0 < b → 0 < k → (a * k) % (b * k) ≡ a % b * k
scaled-mod a b k hb hk =
    let q = a / b in
    let r = a % b in
    let e : a ≡ q * b + r = omega arith in
    let split : a * k ≡ q * (b * k) + r * k = ap (λ (n : ℕ). n * k) e ∙ add-mul (q * b) r k ∙ ap (λ (n : ℕ). n + r * k) (mul_assoc q b k) in
    let under : r < b = omega arith in
    ap (λ (n : ℕ). n % (b * k)) split ∙ mod-mul-add q (b * k) (r * k) (mul-lt-mul_of_pos_right under hk)

-- what twice b leaves, b leaves the same of
halved-mod : (a b : ℕ) → 0 < b → a % (b + b) % b ≡ a % b
halved-mod a b h =
    let q = a / (b + b) in
    let r = a % (b + b) in
    let e : a ≡ (q + q) * b + r = omega (arith, add-mul q q b) in
    sym (ap (λ (n : ℕ). n % b) e ∙ mul-add-mod_self_right (q + q) b r)

-- b goes once
once-mod : (a b : ℕ) → b ≤ a → a < b + b → a % b ≡ a - b
once-mod a b l u =
    let e : a ≡ 1 * b + (a - b) = omega arith in
    ap (λ (n : ℕ). n % b) e ∙ mod-mul-add 1 b (a - b) (omega arith)

-- ---- a double is the rounding of its own units, negative zero too
units-pos : (s : Bool) (m : ℕ) (e : ℤ) → T (fits binary64 (fin s (suc m) e)) → 0 < units (suc m) e
units-pos s m e f = go (units (suc m) e) (in-units s (suc m) e f)
  where
    some : 0 < suc m * up e * UNIT
    some = mul-pos (mul-pos (zero-lt-suc m) (up_pos e)) (pow_pos (low binary64))

    go : (u : ℕ) → u * down e ≡ suc m * up e * UNIT → 0 < u
    go zero h = absurd (omega (arith, some, h, zero-mul (down e)))
    go (suc u) h = zero-lt-suc u

no-units : units 0 (pos 0) ≡ 0
unfolding mag
no-units = refl

not-zero : (s : Bool) (m : ℕ) (e : ℤ) → T (fits binary64 (fin s (suc m) e)) → eq (fin s (suc m) e) ZERO ≡ false
unfolding key of_bits
not-zero true m e f = eq-key binary64 (fin true (suc m) e) ZERO (num_of true (suc m) e f) (num_of false 0 (pos 0) (unfold fits in tt))
    ∙ ne_eqb (big binary64 - units (suc m) e) (big binary64 + units 0 (pos 0)) (omega (arith, units-pos true m e f, below-big binary64 true (suc m) e f, no-units))
not-zero false m e f = eq-key binary64 (fin false (suc m) e) ZERO (num_of false (suc m) e f) (num_of false 0 (pos 0) (unfold fits in tt))
    ∙ ne_eqb (big binary64 + units (suc m) e) (big binary64 + units 0 (pos 0)) (omega (arith, units-pos false m e f, no-units))

is-so : {b : Bool} → T b → b ≡ true
is-so {b} t = is_true b t

own : (s : Bool) (m : ℕ) (e : ℤ) → T (fits binary64 (fin s m e)) → fin s m e ≡ round binary64 s (units m e) UNIT
own false zero (pos zero) f = unfold mag round in refl
own true zero (pos zero) f = unfold mag round in refl
own s zero (pos (suc k)) f = let h : 2 ^ suc k * 1 ≡ 1 = eqb-true (2 ^ suc k * 1) 1 (unfold fits in is-so f) in absurd (omega (arith, h, pow-suc 2 k, pow_pos k))
own s zero (negsuc k) f = let h : 1 * 2 ^ suc k ≡ 1 = eqb-true (1 * 2 ^ suc k) 1 (unfold fits in is-so f) in absurd (omega (arith, h, pow-suc 2 k, pow_pos k))
own s (suc m) e f =
    let x : Float = fin s (suc m) e in
    let made : cond (eq x ZERO) ZERO x ≡ double (signed s (units (suc m) e)) = (unfold plain in plain-made s (suc m) e f) in
    ap (λ (b : Bool). cond b ZERO x) (sym (not-zero s m e f)) ∙ made ∙ double-signed s (units (suc m) e) (units-pos s m e f)

turn-pos : 0 < turn
unfolding turn value of_bits mag
turn-pos = lit< tt

-- the kit's remainder by 2 PI, in units
rem_is : (s : Bool) (m : ℕ) (e : ℤ) → T (fits binary64 (fin s m e)) → rest (fin s m e) ≡ round binary64 s (units m e % turn) UNIT
unfolding rem of_bits
rem_is s m e f =
    let d : ℤ = negsuc 46 in
    let A = m * up e * down d in
    let B = 884279719003555 * up d * down e in
    let C = down e * down d in
    let E : down e ≤ 2 ^ low binary64 = low-enough binary64 s m e f in
    let D : down d ≤ 2 ^ low binary64 = low-enough binary64 false 884279719003555 d (unfold fits in tt) in
    let turns : units 884279719003555 d ≡ turn = (unfold turn value of_bits mag in refl) in
    let some : 0 < B = mul-pos (lit< tt) (down_pos e) in
    let same : A % B * UNIT ≡ units m e % turn * C =
    sym (scaled-mod A B UNIT some (pow_pos (low binary64)))
    ∙ (λ i. left binary64 m 884279719003555 e d E D i % right binary64 m 884279719003555 e d E D i)
    ∙ scaled-mod (units m e) (units 884279719003555 d) C (subst (λ (n : ℕ). 0 < n) (sym turns) turn-pos) (mul-pos (down_pos e) (down_pos d))
    ∙ ap (λ (n : ℕ). units m e % n * C) turns
    in
    round_same binary64 s (A % B) C (units m e % turn) UNIT (mul-pos (down_pos e) (down_pos d)) (pow_pos (low binary64)) same

-- ---- the comparison, of units
pub lt-count : {x y : Float} → Whole x → Whole y → lt x y ≡ ltb (big binary64 + count x) (big binary64 + count y)
unfolding key value
lt-count (whole {m = m} {e = e} f) (whole {m = n} {e = d} g) = lt-key binary64 (fin false m e) (fin false n d) (num_of false m e f) (num_of false n d g)

-- ---- the double of a size is whole, and of that size
no-neg : (k n : ℕ) → signed true k ≡ pos (suc n) → ⊥
no-neg zero n h = cc
no-neg (suc k) n h = cc

whole-double : (n : ℕ) → Size n → Whole (double (pos n)) × (count (double (pos n)) ≡ n)
whole-double zero z =
    let e : double (pos 0) ≡ fin false 0 (pos 0) = (unfold double round in refl) in
    let none : count (fin false 0 (pos 0)) ≡ 0 = (unfold value mag in refl) in
    let fine : T (fits binary64 (fin false 0 (pos 0))) = (unfold fits in tt) in
    (subst Whole (sym e) (whole fine), ap count e ∙ none)
whole-double (suc n) z = go (double (pos (suc n))) (double-fits (pos (suc n))) (double-finite (pos (suc n)) z) (double-value (pos (suc n)) z)
  where
    go : (x : Float) → fits binary64 x ≡ true → finite x ≡ true → value x ≡ pos (suc n) → Whole x × (count x ≡ suc n)
    go nan f h v = absurd (false≢true h)
    go (inf s) f h v = absurd (false≢true h)
    go (fin false m e) f h v = (whole (subst T (sym f) tt), ap nat_abs v)
    go (fin true m e) f h v =
        let p : signed true (units m e) ≡ value (fin true m e) = (unfold value in refl) in
        absurd (no-neg (units m e) n (p ∙ v))

-- a double is of a size
pub size_of : {x : Float} → Whole x → Size (count x)
unfolding value
size_of (whole {m = m} {e = e} f) = own-size false m e f

pub below-all : {x : Float} → Whole x → count x < 2 ^ 2098
unfolding value big
below-all (whole {m = m} {e = e} f) = below-big binary64 false m e f

-- ---- twice t
pub twice : {t : Float} → Whole t → add binary64 t t ≡ double (pos (count t + count t))
unfolding value double
twice (whole {m = m} {e = e} f) = add-units binary64 false false m m e e f f ∙ (unfold sum in refl)

twice-size : (n : ℕ) → Size n → n + n < 2 ^ 2098 → Size (n + n)
twice-size n z h =
    let e : z.q * 2 ^ z.j * 2 ≡ z.q * 2 ^ suc z.j = mul_assoc z.q (2 ^ z.j) 2 ∙ ap (λ (k : ℕ). z.q * k) (sym (pow-suc 2 z.j)) in
    record { q = z.q; j = suc z.j; small = z.small; is = omega (arith, z.is, e); under = h }

-- ---- t off, once
pub off : {r t : Float} → Whole r → Whole t → count t ≤ count r → sub binary64 r t ≡ double (pos (count r - count t))
unfolding value sub neg
off (whole {m = m} {e = e} f) (whole {m = n} {e = d} g) h = add-made false m n e d f (neg-fits binary64 (fin false n d) g) ∙ ap double (minus-more false (units m e) (units n d) h)

rest-size : (a b : ℕ) → Size a → Size b → b ≤ a → a < b + b → Size (a - b)
rest-size a b sa sb l u =
    let e : apart a (1 * b) ≡ a - b = omega arith in
    subst Size e (apart-size a b 1 sa sb (omega arith) (omega arith))

-- ---- what the functions need
-- 2 ^ 1023
abbrev pub LARGE : Float
LARGE = of_bits binary64 0x7FE0000000000000

large : Whole LARGE × (count LARGE + count LARGE ≡ 2 ^ 2098)
unfolding of_bits value mag
large = (whole {m = 1} {e = pos 1023} (unfold fits in tt), refl)

-- r is less than t
pub left-small : {r t : Float} → Divides t r → lt r t ≡ true → Left t r r
left-small {r} {t} d h =
    let l = sym (lt-count d.of d.by) ∙ h in
    record { whole = d.of; is = sym (mod-eq_of_lt {n = count r} {m = count t} (omega (tests, l))) }

-- t goes into r once
pub left-off : {r t : Float} → Divides t r → count r < count t + count t → lt r t ≡ false → Left t r (sub binary64 r t)
left-off {r} {t} d u h =
    let l = sym (lt-count d.of d.by) ∙ h in
    let once : count t ≤ count r = omega (tests, l) in
    let e = off d.of d.by once in
    let w = whole-double (count r - count t) (rest-size (count r) (count t) (size_of d.of) (size_of d.by) once u) in
    subst (Left t r) (sym e) (record { whole = w.0; is = w.1 ∙ sym (once-mod (count r) (count t) once u) })

-- twice t
pub twice-counts : {x t : Float} → Divides t x → lt t LARGE ≡ true → count (add binary64 t t) ≡ count t + count t
twice-counts {x} {t} d h =
    let l = sym (lt-count d.by large.0) ∙ h in
    let w = whole-double (count t + count t) (twice-size (count t) (size_of d.by) (omega (tests, l, large.1))) in
    ap count (twice d.by) ∙ w.1

pub divides-twice : {x t : Float} → Divides t x → lt t LARGE ≡ true → Divides (add binary64 t t) x
divides-twice {x} {t} d h =
    let l = sym (lt-count d.by large.0) ∙ h in
    let w = whole-double (count t + count t) (twice-size (count t) (size_of d.by) (omega (tests, l, large.1))) in
    let e = twice-counts d h in
    record { of = d.of; by = subst Whole (sym (twice d.by)) w.0; some = omega (arith, e, d.some) }

-- what twice t leaves is less than that, and t leaves of it what it leaves of all
module _ {x t r : Float} (d : Divides t x) (h : lt t LARGE ≡ true) (l : Left (add binary64 t t) x r) where
  leaves : count r ≡ count x % (count t + count t)
  leaves = l.is ∙ ap (λ (n : ℕ). count x % n) (twice-counts d h)

  pub left-divides : Divides t r
  left-divides = record { of = l.whole; by = d.by; some = d.some }

  pub left-less : count r < count t + count t
  left-less = omega (arith, leaves, d.some)

  pub left-both : {s : Float} → Left t r s → Left t x s
  left-both {s} k = record { whole = k.whole; is = k.is ∙ ap (λ (n : ℕ). n % count t) leaves ∙ halved-mod (count x) (count t) d.some }

-- no double is twice as large as t
pub large-less : {x t : Float} → Divides t x → lt t LARGE ≡ false → count x < count t + count t
large-less {x} {t} d h =
    let l = sym (lt-count d.by large.0) ∙ h in
    omega (tests, l, large.1, below-all d.of)

pub shrinks : {x t : Float} → Divides t x → lt t LARGE ≡ true → lt x t ≡ false → suc (count x) - count (add binary64 t t) < suc (count x) - count t
shrinks {x} {t} d h k =
    let l = sym (lt-count d.of d.by) ∙ k in
    omega (tests, l, twice-counts d h, d.some)

-- ---- the remainder by 2 PI
turn-whole : Whole TURN
unfolding of_bits
turn-whole = whole {m = 884279719003555} {e = negsuc 46} (unfold fits in tt)

turn-count : count TURN ≡ turn
unfolding turn
turn-count = refl

turn-some : 0 < count TURN
turn-some = subst (λ (n : ℕ). 0 < n) (sym turn-count) turn-pos

turn-less : turn < big binary64
unfolding turn value of_bits mag big
turn-less = lit< tt

-- the keys of 2 PI, of -2 PI and of zero
turn-key : K TURN ≡ big binary64 + turn
unfolding key turn value of_bits mag
turn-key = refl

neg-turn-key : K NEG-TURN ≡ big binary64 - turn
unfolding key turn value of_bits mag
neg-turn-key = refl

zero-key : K ZERO ≡ big binary64
unfolding key of_bits mag
zero-key = omega arith

module _ (s : Bool) (m : ℕ) (e : ℤ) (f : T (fits binary64 (fin s m e))) where
  abbrev x : Float
  x = fin s m e

  lt-turn : lt x TURN ≡ ltb (K x) (K TURN)
  lt-turn = lt-key binary64 x TURN (num_of s m e f) (unfold fits is_nan of_bits in refl)

  neg-turn-lt : lt NEG-TURN x ≡ ltb (K NEG-TURN) (K x)
  neg-turn-lt = lt-key binary64 NEG-TURN x (unfold fits is_nan of_bits in refl) (num_of s m e f)

  lt-zero : lt x ZERO ≡ ltb (K x) (K ZERO)
  lt-zero = lt-key binary64 x ZERO (num_of s m e f) (unfold fits is_nan of_bits in refl)

abbrev within : Float → Bool
within x = lt NEG-TURN x && lt x TURN

-- what is less than 2 PI in size is left
pub rest-small : (x : Float) → fits binary64 x ≡ true → within x ≡ true → x ≡ rest x
unfolding key
rest-small nan f h = unfold rem in refl
rest-small (inf true) f h = absurd (false≢true (unfold lt of_bits in h))
rest-small (inf false) f h = absurd (false≢true (unfold lt of_bits in h))
rest-small (fin s m e) f h =
    let g = subst T (sym f) tt in
    own s m e g ∙ ap (λ (n : ℕ). round binary64 s n UNIT) (sym (mod-eq_of_lt {n = units m e} {m = turn} (under s m e g h))) ∙ sym (rem_is s m e g)
  where
    under : (s : Bool) (m : ℕ) (e : ℤ) → T (fits binary64 (fin s m e)) → within (fin s m e) ≡ true → units m e < turn
    under false m e g h =
        let l = sym (lt-turn false m e g) ∙ and_r (lt NEG-TURN (fin false m e)) (lt (fin false m e) TURN) h in
        omega (tests, l, turn-key)
    under true m e g h =
        let l = sym (neg-turn-lt true m e g) ∙ and_l (lt NEG-TURN (fin true m e)) (lt (fin true m e) TURN) h in
        omega (tests, l, neg-turn-key, below-big binary64 true m e g)

-- a finite double less itself
minus-made : (s : Bool) (m : ℕ) (e : ℤ) → T (fits binary64 (fin s m e)) → sub binary64 (fin s m e) (fin s m e) ≡ double (signed s (units m e) -ℤ signed s (units m e))
unfolding sub neg
minus-made s m e f = add-made s m m e e f (neg-fits binary64 (fin s m e) f)

naught : double (pos 0) ≡ ZERO
unfolding double round of_bits
naught = refl

minus-itself : (s : Bool) (m : ℕ) (e : ℤ) → T (fits binary64 (fin s m e)) → sub binary64 (fin s m e) (fin s m e) ≡ ZERO
minus-itself s m e f =
    let u = units m e in
    minus-made s m e f ∙ ap double (minus-more s u u (omega arith) ∙ no_signed s (u - u) (omega arith)) ∙ naught

-- a NaN, and an infinity, leave none
pub rest-none : (x : Float) → fits binary64 x ≡ true → ne (sub binary64 x x) ZERO ≡ true → sub binary64 x x ≡ rest x
rest-none nan f h = unfold rem sub add in refl
rest-none (inf true) f h = unfold rem sub neg add in refl
rest-none (inf false) f h = unfold rem sub neg add in refl
rest-none (fin s m e) f h =
    let no : ne ZERO ZERO ≡ false = (unfold ne eq of_bits in refl) in
    absurd (false≢true (sym no ∙ subst (λ (y : Float). ne y ZERO ≡ true) (minus-itself s m e (subst T (sym f) tt)) h))

pub is-finite : (x : Float) → ne (sub binary64 x x) ZERO ≡ false → finite x ≡ true
is-finite nan h =
    let k : true ≡ false = (unfold sub neg add ne eq of_bits in h) in
    absurd (false≢true (sym k))
is-finite (inf true) h =
    let k : true ≡ false = (unfold sub neg add ne eq of_bits in h) in
    absurd (false≢true (sym k))
is-finite (inf false) h =
    let k : true ≡ false = (unfold sub neg add ne eq of_bits in h) in
    absurd (false≢true (sym k))
is-finite (fin s m e) h = refl

pub divides-it : (x : Float) → fits binary64 x ≡ true → finite x ≡ true → within x ≡ false → lt x ZERO ≡ false → Divides TURN x
unfolding key
divides-it nan f i w h = absurd (false≢true i)
divides-it (inf s) f i w h = absurd (false≢true i)
divides-it (fin false m e) f i w h = record { of = whole (subst T (sym f) tt); by = turn-whole; some = turn-some }
divides-it (fin true m e) f i w h =
    let g = subst T (sym f) tt in
    let l = sym (lt-zero true m e g) ∙ h in
    let none : units m e ≡ 0 = omega (tests, l, zero-key, below-big binary64 true m e g) in
    let above = neg-turn-lt true m e g ∙ lt-ltb (K NEG-TURN) (K (fin true m e)) (omega (arith, none, neg-turn-key, turn-pos, turn-less)) in
    let below = lt-turn true m e g ∙ lt-ltb (K (fin true m e)) (K TURN) (omega (arith, none, turn-key, turn-pos)) in
    absurd (false≢true (sym w ∙ and-of above below))

pub divides-minus : (x : Float) → fits binary64 x ≡ true → finite x ≡ true → lt x ZERO ≡ true → Divides TURN (neg x)
unfolding key neg
divides-minus nan f i h = absurd (false≢true i)
divides-minus (inf s) f i h = absurd (false≢true i)
divides-minus (fin true m e) f i h = record { of = whole (neg-fits binary64 (fin true m e) (subst T (sym f) tt)); by = turn-whole; some = turn-some }
divides-minus (fin false m e) f i h =
    let l = sym (lt-zero false m e (subst T (sym f) tt)) ∙ h in
    absurd (omega (tests, l, zero-key))

pub rest-left : {x r : Float} → Divides TURN x → Left TURN x r → r ≡ rest x
unfolding value
rest-left d l = go d.of l.whole l.is
  where
    go : {x r : Float} → Whole x → Whole r → count r ≡ count x % count TURN → r ≡ rest x
    go (whole {m = m} {e = e} f) (whole {m = n} {e = d} g) i =
        own false n d g ∙ ap (λ (k : ℕ). round binary64 false k UNIT) (i ∙ ap (λ (k : ℕ). units m e % k) turn-count) ∙ sym (rem_is false m e f)

pub rest-minus : (x : Float) {r : Float} → Divides TURN (neg x) → Left TURN (neg x) r → neg r ≡ rest x
unfolding value neg
rest-minus y d l = go y d.of l.whole l.is
  where
    go : (x : Float) {r : Float} → Whole (neg x) → Whole r → count r ≡ count (neg x) % count TURN → neg r ≡ rest x
    go nan w _ i = elim w [ ]
    go (inf _) w _ i = elim w [ ]
    go (fin false m e) w _ i = elim w [ ]
    go (fin true m e) (whole f) (whole {m = n} {e = d} g) i =
        own true n d (neg-fits binary64 (fin false n d) g) ∙ ap (λ (k : ℕ). round binary64 true k UNIT) (i ∙ ap (λ (k : ℕ). units m e % k) turn-count)
        ∙ sym (rem_is true m e (neg-fits binary64 (fin false m e) f))
