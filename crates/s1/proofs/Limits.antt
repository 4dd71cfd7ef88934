-- Operands within the limits are accepted, with their zeros read, which changes no place that they hold. (What stands outside them: Refusals.) Assumes
-- nothing.
use mathlib.Core.Path.{◌≡◌, refl, sym, ◌∙◌}
use mathlib.Core.Bool.{Bool, true, false, ◌&&◌, cond}
use lib.Ieee.{Float, binary64, lt, le, eq, of_bits}
use Rattle.order.specs.Key.{Num}
use Rattle.order.proofs.Ranks.{and_l, and_r, and-of}
use Rattle.order.proofs.Keys.{lt-key, le-key, eq-key}
use Rattle.order.proofs.Facts.{tests}
use Rattle.consts.specs.Constants.{PI, NEG-PI}
use Rattle.consts.specs.Refusal.{number, accepted, first_refusal}
use Rattle.consts.specs.Reading.{in_reach, plain, read_number}
use Rattle.consts.proofs.Readings.{plain_fits, plain-num, plain-le, le-plain, plain-lt, lt-plain, plain-eq, eq-plain}
use Rattle.s1.specs.declared.interval.Interval.{Interval}
use Rattle.s1.specs.Circle.{is_valid, seam}
use Rattle.s1.specs.Reading.{plain_ends, on_circle, read_one, read_ends, read_two, read_point, read_with_point, read_with_margin}
use Rattle.s1.specs.Places.{holds, strictly_holds, Place, Valid}
pub use Rattle.s1.specs.Places.{OnCircle}
use Rattle.s1.proofs.Readings.{num_of, circle-reach, valid-reach}
use Rattle.s1.proofs.Held.{num-PI, num-NEG, lo-num, hi-num, at-num, at-PI}

-- ---- zeros read
module _ (i : Interval) (v : Valid i) where
  -- the comparisons with an end that has been read are those with the end
  valid_same : is_valid (plain_ends i) ≡ is_valid i
  unfolding is_valid
  valid_same =
      let a = lo-num v in
      let b = hi-num v in
      let c = num-PI in
      let d = num-NEG in
      simp (plain-le, le-plain, plain-eq)

  pub valid-plain : Valid (plain_ends i)
  valid-plain =
      record {
        lo-double = plain_fits i.lo v.lo-double;
        hi-double = plain_fits i.hi v.hi-double;
        is-valid = valid_same ∙ v.is-valid;
      }

  module _ (p : Float) (g : Bool) (q : Num p ≡ true) where
    pub holds_plain : holds (plain_ends i) p g ≡ holds i p g
    holds_plain =
        let a = lo-num v in
        let b = hi-num v in
        let e = plain-num i.lo (lo-num v) in
        let c = num-PI in
        let d = num-NEG in
        simp (plain-le, le-plain, plain-lt, lt-plain, plain-eq)

    pub strict-plain : strictly_holds (plain_ends i) p g ≡ strictly_holds i p g
    strict-plain =
        let a = lo-num v in
        let b = hi-num v in
        let e = plain-num i.lo (lo-num v) in
        let c = num-PI in
        let d = num-NEG in
        simp (plain-le, le-plain, plain-lt, lt-plain, plain-eq, eq-plain)

    -- the point's own zero makes no difference either
    pub point-plain : holds i (plain p) g ≡ holds i p g
    point-plain =
        let a = lo-num v in
        let b = hi-num v in
        simp (plain-le, le-plain, plain-lt)

    pub strict-point : strictly_holds i (plain p) g ≡ strictly_holds i p g
    strict-point =
        let a = lo-num v in
        let b = hi-num v in
        simp (plain-le, le-plain, plain-lt, plain-eq)

pub plain-place : {x : Float} → Place x false → Place (plain x) false
plain-place {x} q =
    let n = at-num q in
    record {
      is-double = plain_fits x q.is-double;
      is-place = rw (lt-plain NEG-PI x num-NEG n, plain-le x PI n num-PI) q.is-place;
    }

-- ---- a point of the circle, and its place
module _ {p : Float} (q : OnCircle p) where
  from-west : le NEG-PI p ≡ true
  unfolding on_circle
  from-west = and_l _ (le p PI) q.on-circle

  to-east : le p PI ≡ true
  unfolding on_circle
  to-east = and_r (le NEG-PI p) _ q.on-circle

  pub point-num : Num p ≡ true
  point-num = num_of p q.is-double from-west

  -- -PI is the place PI, every other point is a place by itself
  pub seam-place : Place (seam p) false
  unfolding seam
  seam-place = go (eq p NEG-PI) refl
    where
      go : (t : Bool) → eq p NEG-PI ≡ t → Place (cond t PI p) false
      go true h = at-PI
      go false h =
          let n = point-num in
          let m = num-NEG in
          let a = simp (le-key binary64) at from-west in
          let b = simp (eq-key binary64) at h in
          let c : lt NEG-PI p ≡ true = simp (lt-key binary64) (omega tests) in
          record { is-double = q.is-double; is-place = and-of c to-east }

  -- reading zero and reading the seam do not meet
  pub seam-plain : seam (plain p) ≡ plain (seam p)
  unfolding seam
  seam-plain = rw (plain-eq p NEG-PI point-num num-NEG) (go (eq p NEG-PI))
    where
      plain-PI : plain PI ≡ PI
      plain-PI = unfold plain eq of_bits in refl

      go : (t : Bool) → cond t PI (plain p) ≡ plain (cond t PI p)
      go true = sym plain-PI
      go false = refl

pub circle-plain : {p : Float} → OnCircle p → OnCircle (plain p)
unfolding on_circle
circle-plain {p} q =
    let n = point-num q in
    record { is-double = plain_fits p q.is-double; on-circle = rw (le-plain NEG-PI p num-NEG n, plain-le p PI n num-PI) q.on-circle }

-- ---- within the limits
module _ (i : Interval) (v : Valid i) where
  reach-in : in_reach i.lo && in_reach i.hi ≡ true
  reach-in = valid-reach i v.lo-double v.hi-double v.is-valid

  pub one_in : read_one i ≡ record { refusal = number accepted; value = plain_ends i }
  unfolding read_one
  one_in = simp (reach-in, v.is-valid)

  pub point-in : (p : Float) → OnCircle p → read_with_point i p ≡ record { refusal = number accepted; value = plain_ends i; number = plain p }
  unfolding read_with_point read_one read_point first_refusal
  point-in p q = simp (reach-in, v.is-valid, q.on-circle)

  pub margin-in : (m : Float) → in_reach m ≡ true → read_with_margin i m ≡ record { refusal = number accepted; value = plain_ends i; number = plain m }
  unfolding read_with_margin read_one read_number first_refusal
  margin-in m h = simp (reach-in, v.is-valid, h)

pub two_in : (i o : Interval) → Valid i → Valid o → read_two i o ≡ record { refusal = number accepted; left = plain_ends i; right = plain_ends o }
unfolding read_two read_one first_refusal
two_in i o v w = simp (reach-in i v, v.is-valid, reach-in o w, w.is-valid)

pub read-point : (p : Float) → OnCircle p → read_point p ≡ record { refusal = number accepted; value = plain p }
unfolding read_point
read-point p q = simp q.on-circle

pub ends-in : (lo hi : Float) → OnCircle lo → OnCircle hi → read_ends lo hi ≡ record { refusal = number accepted; value = record { lo = plain lo; hi = plain hi } }
unfolding read_ends
ends-in lo hi q r = simp (circle-reach lo q.is-double q.on-circle, circle-reach hi r.is-double r.on-circle, q.on-circle, r.on-circle)
