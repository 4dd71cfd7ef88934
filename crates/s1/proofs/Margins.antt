-- Bounds of what the circle works out from an interval's ends, which lie from -PI to PI: the length, the middle, and the ends moved by a margin. These lie
-- within 4 PI, where the remainder answers, wherever the tests before them have found the interval neither full nor empty.
-- Rounding keeps the order, so each bound is the operation's result at constants, which antt computes. Assumes nothing.
use mathlib.Core.Path.{◌≡◌, refl, sym, ◌∙◌}
use mathlib.Core.Bool.{Bool, true, false, cond, false≢true}
use lib.Ieee.{Float, binary64, of_bits, fits, add, sub, mul, lt, le, eq}
use Rattle.order.proofs.Ranks.{and_l, and_r, and-of}
use Rattle.order.proofs.Facts.{lt-le}
use Rattle.order.proofs.Monotone.{real-num}
use Rattle.order.proofs.Bounds.{Between, between, fixed, from, up_to, above, under, add-between, sub-between, mul-between, widen}
use Rattle.consts.specs.Constants.{PI, NEG-PI, TURN, THREE-PI, NEG-THREE-PI, FOUR-PI, NEG-FOUR-PI, NEG-TURN, DBL-EPSILON, NEG-ONE, TWO, HALF}
use Rattle.consts.specs.Answer.{ZERO}
use Rattle.consts.specs.Reading.{in_reach, plain, LEAST, MOST}
use Rattle.consts.specs.Remainder.{within_four_pi}
use Rattle.consts.proofs.Readings.{plain_fits, plain-le, le-plain}
use Rattle.s1.specs.Circle.{ends, center, len}

-- ---- ends and margins
pub on-circle : (x : Float) → fits binary64 x ≡ true → le NEG-PI x ≡ true → le x PI ≡ true → Between NEG-PI PI x
unfolding fits of_bits
on-circle x f p q = between NEG-PI PI x refl refl f p q

pub reaching : (x : Float) → fits binary64 x ≡ true → in_reach x ≡ true → Between LEAST MOST x
unfolding in_reach fits of_bits
reaching x f h = between LEAST MOST x refl refl f (and_l (le LEAST x) (le x MOST) h) (and_r (le LEAST x) (le x MOST) h)

-- ---- lengths and centres
pub difference : {x y : Float} → Between NEG-PI PI x → Between NEG-PI PI y → Between NEG-TURN TURN (sub binary64 x y)
unfolding fits of_bits le lt eq sub
difference p q = sub-between NEG-TURN TURN p q refl

-- the length lies from -1 to 2 PI
pub length-between : {lo hi : Float} → Between NEG-PI PI lo → Between NEG-PI PI hi → Between NEG-ONE TURN (len (ends lo hi))
unfolding len fits of_bits le lt eq add
length-between {lo} {hi} p q = first (sub binary64 hi lo) (difference q p) (le ZERO (sub binary64 hi lo)) refl
  where
    second : (e : Float) → Between ZERO TURN e → (t : Bool) → Between NEG-ONE TURN (cond t e NEG-ONE)
    second e h true = widen NEG-ONE TURN h refl
    second e h false = between NEG-ONE TURN NEG-ONE refl refl refl refl refl

    first : (d : Float) → Between NEG-TURN TURN d → (t : Bool) → le ZERO d ≡ t → Between NEG-ONE TURN (cond t d (cond (lt ZERO (add binary64 d TURN)) (add binary64 d TURN) NEG-ONE))
    first d h true t = widen NEG-ONE TURN (from ZERO refl h t) refl
    first d h false t = second (add binary64 d TURN) (add-between ZERO TURN (under ZERO refl h t) (fixed TURN refl) refl) (lt ZERO (add binary64 d TURN))

-- reading zero keeps a bound
pub plain-between : {a b x : Float} → Between a b x → Between a b (plain x)
plain-between {a} {b} {x} h =
    let n = real-num x h.real in
    between a b (plain x) h.real-low h.real-high (plain_fits x (and_l (fits binary64 x) _ h.real))
    (le-plain a x (real-num a h.real-low) n ∙ h.low) (plain-le x b n (real-num b h.real-high) ∙ h.high)

-- the middle lies from -PI to PI
pub middle-between : {lo hi : Float} → Between NEG-PI PI lo → Between NEG-PI PI hi → Between NEG-PI PI (center (ends lo hi))
unfolding center fits of_bits le lt eq add sub mul
middle-between {lo} {hi} p q = plain-between (go (mul binary64 HALF (add binary64 lo hi)) (mul-between HALF NEG-PI PI refl (add-between NEG-TURN TURN p q refl) refl) (lt hi lo))
  where
    opposite : (c : Float) → Between NEG-PI PI c → (t : Bool) → le c ZERO ≡ t → Between NEG-PI PI (cond t (add binary64 c PI) (sub binary64 c PI))
    opposite c h true t = add-between NEG-PI PI (up_to ZERO refl h t) (fixed PI refl) refl
    opposite c h false t = sub-between NEG-PI PI (above ZERO refl h t) (fixed PI refl) refl

    go : (c : Float) → Between NEG-PI PI c → (t : Bool) → Between NEG-PI PI (cond t (cond (le c ZERO) (add binary64 c PI) (sub binary64 c PI)) c)
    go c h true = opposite c h (le c ZERO) refl
    go c h false = h

-- ---- a margin that leaves an interval neither full nor empty is of size at most 3 PI: beyond that the number tested would be past its limit
-- -2 ^ 501 and 2 ^ 501
abbrev NEG-FAR : Float
NEG-FAR = of_bits binary64 0xDF40000000000000

abbrev FAR : Float
FAR = of_bits binary64 0x5F40000000000000

-- what is tested where an interval of length l grows, and where it shrinks
abbrev pub grown : Float → Float → Float
grown l m = add binary64 (add binary64 l (mul binary64 TWO m)) (mul binary64 TWO DBL-EPSILON)

abbrev pub shrunk : Float → Float → Float
shrunk l m = sub binary64 (add binary64 l (mul binary64 TWO m)) (mul binary64 TWO DBL-EPSILON)

module _ {m l : Float} (h : Between LEAST MOST m) (k : Between NEG-ONE TURN l) where
  full : Between THREE-PI MOST m → Between TURN FAR (grown l m)
  unfolding fits of_bits le lt eq add mul
  full b = add-between TURN FAR (add-between THREE-PI FAR k (mul-between TWO FOUR-PI FAR refl b refl) refl) (fixed (mul binary64 TWO DBL-EPSILON) refl) refl

  empty : Between LEAST NEG-THREE-PI m → Between NEG-FAR ZERO (shrunk l m)
  unfolding fits of_bits le lt eq add sub mul
  empty b = sub-between NEG-FAR ZERO (add-between NEG-FAR NEG-PI k (mul-between TWO NEG-FAR NEG-FOUR-PI refl b refl) refl) (fixed (mul binary64 TWO DBL-EPSILON) refl) refl

  east-margin : le ZERO m ≡ true → le TURN (grown l m) ≡ false → Between NEG-THREE-PI THREE-PI m
  unfolding fits of_bits le lt eq
  east-margin z t = go (le m THREE-PI) refl
    where
      go : (u : Bool) → le m THREE-PI ≡ u → Between NEG-THREE-PI THREE-PI m
      go true e = widen NEG-THREE-PI THREE-PI (up_to THREE-PI refl (from ZERO refl h z) e) refl
      go false e = absurd (false≢true (sym t ∙ (full (above THREE-PI refl h e)).low))

  west-margin : lt m ZERO ≡ true → le (shrunk l m) ZERO ≡ false → Between NEG-THREE-PI THREE-PI m
  unfolding fits of_bits le lt eq
  west-margin z t = go (le NEG-THREE-PI m) refl
    where
      go : (u : Bool) → le NEG-THREE-PI m ≡ u → Between NEG-THREE-PI THREE-PI m
      go true e = widen NEG-THREE-PI THREE-PI (from NEG-THREE-PI refl (up_to ZERO refl h (lt-le m ZERO z)) e) refl
      go false e = absurd (false≢true (sym t ∙ (empty (under NEG-THREE-PI refl h e)).high))

-- an end moved by such a margin, to either side
abbrev pub Moved : Float → Float → Type 0
Moved x m = (within_four_pi (sub binary64 x m) ≡ true) × (within_four_pi (add binary64 x m) ≡ true)

moved : {x m : Float} → Between NEG-PI PI x → Between NEG-THREE-PI THREE-PI m → Moved x m
unfolding within_four_pi fits of_bits le lt eq add sub
moved p b =
    let d = sub-between NEG-FOUR-PI FOUR-PI p b refl in
    let s = add-between NEG-FOUR-PI FOUR-PI p b refl in
    (and-of d.low d.high, and-of s.low s.high)

module _ {x m l : Float} (p : Between NEG-PI PI x) (h : Between LEAST MOST m) (k : Between NEG-ONE TURN l) where
  pub east : le ZERO m ≡ true → le TURN (grown l m) ≡ false → Moved x m
  east z t = moved p (east-margin h k z t)

  pub west : lt m ZERO ≡ true → le (shrunk l m) ZERO ≡ false → Moved x m
  west z t = moved p (west-margin h k z t)
