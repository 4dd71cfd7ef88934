-- Expansion: the remainders that it takes are never refused, so that it is the crate's own arithmetic with IEEE 754's remainder; and what it answers is
-- valid. Where the remainder is taken, the tests before it bound the margin (Margins). Assumes nothing.
use mathlib.Core.Path.{◌≡◌, refl, ap, ◌∙◌}
use mathlib.Core.Bool.{Bool, true, false, cond}
use lib.Ieee.{Float, binary64, of_bits, fits, add, sub, mul, lt, le, eq}
use lib.Ieee.Bits.{is_true}
use lib.Ieee.Fits.{add-fits, sub-fits}
use Rattle.order.proofs.Ranks.{and_l, and_r, and-of}
use Rattle.order.proofs.Facts.{not-le}
use Rattle.order.proofs.Bounds.{Between}
use Rattle.consts.specs.Constants.{PI, NEG-PI, TURN, DBL-EPSILON, NEG-ONE, TWO}
use Rattle.consts.specs.Answer.{ZERO, told}
use Rattle.consts.specs.Refusal.{number, accepted, bad_margin}
use Rattle.consts.specs.Reading.{in_reach, plain, NoMinus, read_number}
use Rattle.consts.specs.Remainder.{within_four_pi, remainder_of, remainder}
use Rattle.consts.proofs.Readings.{num-zero, reach-num, plain_fits, plain-reach}
use Rattle.consts.proofs.Remainders.{remainder-fits, remainder-plain}
use Rattle.consts.proofs.Turns.{stays-in-range}
use Rattle.s1.specs.declared.interval.Interval.{Interval}
use Rattle.s1.specs.Circle as circle
use Rattle.s1.specs.Circle.{FULL, EMPTY, «new», is_empty, is_full, len, moved_by, moved, widened_to}
use Rattle.s1.specs.Reading.{plain_ends, NoMinusEnds, on_circle, read_one, read_with_margin}
use Rattle.s1.specs.Answers.{circle_answer, expanded}
use Rattle.s1.specs.Places.{Valid}
use Rattle.s1.proofs.Readings.{valid-on}
use Rattle.s1.proofs.Limits.{OnCircle, valid-plain, margin-in}
use Rattle.s1.proofs.Seams.{full-valid, empty-valid, moved-valid}
use Rattle.s1.proofs.Ends.{cond-is, plain-PI, plain-NEG, plain-ends, normal-no-minus, interval-plain}
use Rattle.s1.proofs.Margins.{on-circle, reaching, length-between, Moved, east, west}

-- within 4 PI the answer is the remainder
answered : (x : Float) → within_four_pi x ≡ true → (remainder x).value ≡ remainder_of x
unfolding remainder
answered x h = simp h

by_cond : (t : Bool) {x y : Interval} → Valid x → Valid y → Valid (cond t x y)
by_cond true p q = p
by_cond false p q = q

sub-double : (x y : Float) → fits binary64 (sub binary64 x y) ≡ true
sub-double x y = is_true _ (sub-fits binary64 x y)

add-double : (x y : Float) → fits binary64 (add binary64 x y) ≡ true
add-double x y = is_true _ (add-fits binary64 x y)

module _ (i : Interval) (m : Float) (v : Valid i) (f : fits binary64 m ≡ true) (r : in_reach m ≡ true) where
  lo-between : Between NEG-PI PI i.lo
  unfolding on_circle
  lo-between = let c = (valid-on i v.is-valid).0 in on-circle i.lo v.lo-double (and_l _ (le i.lo PI) c) (and_r (le NEG-PI i.lo) _ c)

  hi-between : Between NEG-PI PI i.hi
  unfolding on_circle
  hi-between = let c = (valid-on i v.is-valid).1 in on-circle i.hi v.hi-double (and_l _ (le i.hi PI) c) (and_r (le NEG-PI i.hi) _ c)

  pub length-bounds : Between NEG-ONE TURN (len i)
  length-bounds = length-between lo-between hi-between

  -- where both ends stay within 4 PI, they are brought back by the remainder
  moved-is : Moved i.lo m → Moved i.hi m → moved i m ≡ moved_by remainder_of i m
  unfolding moved
  moved-is a b = rw (answered (sub binary64 i.lo m) a.0, answered (add binary64 i.hi m) b.1)

  -- expansion with IEEE 754's remainder
  pub read-expanded-is : circle.expanded i m ≡ widened_to (moved_by remainder_of i m) i m
  unfolding circle.expanded
  read-expanded-is = out (le ZERO m) refl
    where
      l : Float
      l = add binary64 (len i) (mul binary64 TWO m)

      e : Float
      e = mul binary64 TWO DBL-EPSILON

      grows : le ZERO m ≡ true → (t : Bool) → le TURN (add binary64 l e) ≡ t → cond t FULL (moved i m) ≡ cond t FULL (moved_by remainder_of i m)
      grows z true h = refl
      grows z false h = moved-is (east lo-between (reaching m f r) length-bounds z h) (east hi-between (reaching m f r) length-bounds z h)

      shrinks : lt m ZERO ≡ true → (t : Bool) → le (sub binary64 l e) ZERO ≡ t → cond t EMPTY (moved i m) ≡ cond t EMPTY (moved_by remainder_of i m)
      shrinks z true h = refl
      shrinks z false h = moved-is (west lo-between (reaching m f r) length-bounds z h) (west hi-between (reaching m f r) length-bounds z h)

      below : le ZERO m ≡ false → lt m ZERO ≡ true
      below h = not-le ZERO m num-zero (reach-num m f r) h

      out : (t : Bool) → le ZERO m ≡ t
          → cond t (cond (is_empty i) i (cond (le TURN (add binary64 l e)) FULL (moved i m))) (cond (is_full i) i (cond (le (sub binary64 l e) ZERO) EMPTY (moved i m)))
          ≡ cond t (cond (is_empty i) i (cond (le TURN (add binary64 l e)) FULL (moved_by remainder_of i m))) (cond (is_full i) i (cond (le (sub binary64 l e) ZERO) EMPTY (moved_by remainder_of i m)))
      out true z = ap (λ (u : Interval). cond (is_empty i) i u) (grows z (le TURN (add binary64 l e)) refl)
      out false z = ap (λ (u : Interval). cond (is_full i) i u) (shrinks (below z) (le (sub binary64 l e) ZERO) refl)

  -- ---- validity
  brought : (x : Float) → fits binary64 x ≡ true → OnCircle (remainder x).value
  unfolding remainder on_circle
  brought x g = go (within_four_pi x) refl
    where
      go : (t : Bool) → within_four_pi x ≡ t → OnCircle (told (cond t (number accepted) (number bad_margin)) (remainder_of x)).value
      go true h = let r = stays-in-range x g h in record { is-double = remainder-fits x; on-circle = and-of r.0 r.1 }
      go false h = record { is-double = unfold fits of_bits in refl; on-circle = unfold le lt eq of_bits in refl }

  pub read-expanded-valid : Valid (circle.expanded i m)
  unfolding circle.expanded moved
  read-expanded-valid =
      let z = moved-valid (remainder (sub binary64 i.lo m)).value (remainder (add binary64 i.hi m)).value (brought _ (sub-double i.lo m)) (brought _ (add-double i.hi m)) in
      by_cond (le ZERO m)
      (by_cond (is_empty i) v (by_cond (le TURN (add binary64 (add binary64 (len i) (mul binary64 TWO m)) (mul binary64 TWO DBL-EPSILON))) full-valid z))
      (by_cond (is_full i) v (by_cond (le (sub binary64 (add binary64 (len i) (mul binary64 TWO m)) (mul binary64 TWO DBL-EPSILON)) ZERO) empty-valid z))

-- ---- no negative zero
value-plain : (x : Float) → fits binary64 x ≡ true → NoMinus (remainder x).value
unfolding remainder
value-plain x g = go (within_four_pi x) refl
  where
    go : (t : Bool) → within_four_pi x ≡ t → NoMinus (told (cond t (number accepted) (number bad_margin)) (remainder_of x)).value
    go true h = remainder-plain x g h
    go false h = unfold plain eq of_bits in refl

read-expanded-plain : (i : Interval) (m : Float) → NoMinusEnds i → NoMinusEnds (circle.expanded i m)
unfolding circle.expanded moved
read-expanded-plain i m z =
    let n = normal-no-minus (remainder (sub binary64 i.lo m)).value (remainder (add binary64 i.hi m)).value (value-plain _ (sub-double i.lo m)) (value-plain _ (add-double i.hi m)) in
    let k : NoMinusEnds (moved i m) = (cond-is NoMinus (le («new» (remainder (sub binary64 i.lo m)).value (remainder (add binary64 i.hi m)).value).lo NEG-PI) plain-PI n.0, n.1) in
    cond-is NoMinusEnds (le ZERO m)
    (cond-is NoMinusEnds (is_empty i) z (cond-is NoMinusEnds (le TURN (add binary64 (add binary64 (len i) (mul binary64 TWO m)) (mul binary64 TWO DBL-EPSILON))) (plain-NEG, plain-PI) k))
    (cond-is NoMinusEnds (is_full i) z (cond-is NoMinusEnds (le (sub binary64 (add binary64 (len i) (mul binary64 TWO m)) (mul binary64 TWO DBL-EPSILON)) ZERO) (plain-PI, plain-NEG) k))

-- ---- of the answer
module _ (i : Interval) (m : Float) (v : Valid i) (f : fits binary64 m ≡ true) (r : in_reach m ≡ true) where
  pub expanded-is : expanded i m ≡ circle_answer (circle.expanded (plain_ends i) (plain m))
  unfolding expanded
  expanded-is = simp (margin-in i v m r)

  -- it is the crate's arithmetic, with IEEE 754's remainder
  pub expanded-ieee : expanded i m ≡ circle_answer (widened_to (moved_by remainder_of (plain_ends i) (plain m)) (plain_ends i) (plain m))
  expanded-ieee = expanded-is ∙ ap circle_answer (read-expanded-is (plain_ends i) (plain m) (valid-plain i v) (plain_fits m f) (plain-reach m r))

  pub expanded-valid : Valid (expanded i m).value
  expanded-valid = rw expanded-is (read-expanded-valid (plain_ends i) (plain m) (valid-plain i v) (plain_fits m f) (plain-reach m r))

pub expanded-plain : (i : Interval) (m : Float) → NoMinusEnds (expanded i m).value
unfolding expanded read_with_margin read_number read_one
expanded-plain i m = interval-plain (read_with_margin i m).refusal (circle.expanded (plain_ends i) (plain m)) (read-expanded-plain (plain_ends i) (plain m) (plain-ends i))
