-- What follows of a longitude interval by its definition: when it is empty, where it ends, and what single points, FULL and EMPTY hold. Assumes nothing.
use mathlib.Core.Path.{◌≡◌, refl, sym, ap, ◌∙◌}
use mathlib.Core.Bool.{Bool, true, false, not, ◌&&◌, ◌||◌, cond, false≢true}
use lib.Ieee.{Float, binary64, of_bits, lt, le, eq}
use Rattle.order.specs.Key.{Num}
use Rattle.order.proofs.Keys.{lt-key, le-key, eq-key}
use Rattle.order.proofs.Ranks.{and_l, and_r, and-of, or-of-r}
use Rattle.order.proofs.Facts.{tests, le_refl, lt-le, not-lt}
use Rattle.consts.specs.Constants.{PI, NEG-PI}
use Rattle.consts.specs.Reading.{plain}
use Rattle.s1.specs.declared.interval.Interval.{Interval as Circle}
use Rattle.s1.specs.Circle as circle
use Rattle.s1.specs.Circle.{seam}
use Rattle.s1.specs.Places.{Place as LngPlace, Valid as LngValid, place, holds as lng_holds}
use Rattle.s1.proofs.Limits.{OnCircle, point-num, seam-place, seam-plain as plain-seam, point-plain}
use Rattle.s2.proofs.Readings.{lng-nums, pi-nums, lng-place-num}

-- ---- by the definition
module _ (x y : Float) (n : Num x ≡ true) (m : Num y ≡ true) where
  pub below : le x y ≡ true → eq y x ≡ false → lt x y ≡ true
  below h k = simp (lt-key binary64) (omega (tests, simp (le-key binary64) at h, simp (eq-key binary64) at k))

  above : lt x y ≡ true → eq y x ≡ false
  above h = simp (eq-key binary64) (omega (tests, simp (lt-key binary64) at h))

pub apart : lt NEG-PI PI ≡ true
unfolding lt of_bits
apart = refl

-- no number is -PI and PI
two_ends : (x : Float) → Num x ≡ true → eq x NEG-PI ≡ true → eq x PI ≡ true → ⊥
two_ends x n h k =
    let a = pi-nums.0 in
    let b = pi-nums.1 in
    omega (tests, simp (eq-key binary64) at h, simp (eq-key binary64) at k, simp (lt-key binary64) at apart)

-- EMPTY is inverted
empty-inverted : (lo hi : Float) → Num lo ≡ true → Num hi ≡ true → eq lo PI ≡ true → eq hi NEG-PI ≡ true → lt hi lo ≡ true
empty-inverted lo hi n m h k =
    let a = pi-nums.0 in
    let b = pi-nums.1 in
    simp (lt-key binary64) (omega (tests, simp (eq-key binary64) at h, simp (eq-key binary64) at k, simp (lt-key binary64) at apart))

no_place : (t : Bool) → t && false ≡ false
no_place true = refl
no_place false = refl

-- where hi is -PI only with lo at PI, and the interval is not EMPTY, hi is not -PI
no-seam : (s t : Bool) → not (t && not s) ≡ true → s && t ≡ false → t ≡ false
no-seam true t c h = h
no-seam false true c h = absurd (false≢true c)
no-seam false false c h = refl

module _ {i : Circle} (v : LngValid i) where
  -- an interval that holds a place is not EMPTY
  pub lng-filled : (at : Float) (g : Bool) → lng_holds i at g ≡ true → circle.is_empty i ≡ false
  unfolding circle.is_empty
  lng-filled at g h = go (circle.is_empty i) refl
    where
      go : (t : Bool) → circle.is_empty i ≡ t → circle.is_empty i ≡ false
      go false e = e
      go true e =
          let d = empty-inverted i.lo i.hi (lng-nums v).0 (lng-nums v).1 (and_l (eq i.lo PI) (eq i.hi NEG-PI) e) (and_r (eq i.lo PI) (eq i.hi NEG-PI) e) in
          absurd (false≢true (sym (no_place (le i.lo at || cond g (lt at i.hi) (le at i.hi))) ∙ (simp (d, e) at h)))

  -- one that is not EMPTY holds its eastern end, which is a place
  pub lng-hi : circle.is_empty i ≡ false → LngPlace i.hi false × (lng_holds i i.hi false ≡ true)
  unfolding circle.is_empty circle.is_valid
  lng-hi h =
      let n = (lng-nums v).0 in
      let m = (lng-nums v).1 in
      let a : le NEG-PI i.hi ≡ true = search (and_l, and_r, v.is-valid) in
      let b : le i.hi PI ≡ true = search (and_l, and_r, v.is-valid) in
      let c : not (eq i.hi NEG-PI && not (eq i.lo PI)) ≡ true = search (and_l, and_r, v.is-valid) in
      let r = le_refl i.hi m in (
        record { is-double = v.hi-double; is-place = and-of (below NEG-PI i.hi pi-nums.0 m a (no-seam (eq i.lo PI) (eq i.hi NEG-PI) c h)) b },
        held (lt i.hi i.lo) refl r,
      )
    where
      held : (t : Bool) → lt i.hi i.lo ≡ t → le i.hi i.hi ≡ true → lng_holds i i.hi false ≡ true
      held true e r = simp (e, h, or-of-r (le i.lo i.hi) (le i.hi i.hi) r)
      held false e r = simp (e, not-lt i.hi i.lo (lng-nums v).1 (lng-nums v).0 e, r)

-- ---- the place of a point
module _ {p : Float} (q : OnCircle p) where
  -- a single point is stored at its place
  pub normal-seam : circle.«new» p p ≡ circle.ends (seam p) (seam p)
  unfolding circle.«new» seam
  normal-seam = go (eq p NEG-PI) (eq p PI) refl refl
    where
      go : (s t : Bool) → eq p NEG-PI ≡ s → eq p PI ≡ t → circle.«new» p p ≡ circle.ends (seam p) (seam p)
      go false t e d = simp e
      go true false e d = simp (e, d)
      go true true e d = absurd (two_ends p (point-num q) e d)

-- its own zero makes no difference
pub seam-plain : {i : Circle} {p : Float} → LngValid i → OnCircle p → lng_holds i (seam (plain p)) false ≡ lng_holds i (seam p) false
seam-plain {i} {p} v q = ap (λ (x : Float). lng_holds i x false) (plain-seam q) ∙ point-plain i v (seam p) false (lng-place-num (seam-place q))

-- FULL holds every place
pub full-holds : (at : Float) (g : Bool) → LngPlace at g → lng_holds circle.FULL at g ≡ true
full-holds at g q = go g q.is-place
  where
    no-turn : lt PI NEG-PI ≡ false
    no-turn = unfold lt of_bits in refl

    go : (g : Bool) → place at g ≡ true → lng_holds circle.FULL at g ≡ true
    go true h = simp no-turn h
    go false h = simp no-turn (and-of (lt-le NEG-PI at (and_l (lt NEG-PI at) (le at PI) h)) (and_r (lt NEG-PI at) (le at PI) h))

-- and EMPTY none
pub empty_holds : (at : Float) (g : Bool) → lng_holds circle.EMPTY at g ≡ true → ⊥
empty_holds at g h = false≢true (sym (no_place (le PI at || cond g (lt at NEG-PI) (le at NEG-PI))) ∙ (simp (turn, both) at h))
  where
    turn : lt NEG-PI PI ≡ true
    turn = apart

    both : eq PI PI && eq NEG-PI NEG-PI ≡ true
    both = unfold eq of_bits in refl

-- ---- a single point
module _ {at : Float} (q : LngPlace at false) where
  pub lone-valid : LngValid (circle.ends at at)
  unfolding circle.is_valid
  lone-valid =
      let n = lng-place-num q in
      let a = and_l (lt NEG-PI at) (le at PI) q.is-place in
      let b = and_r (lt NEG-PI at) (le at PI) q.is-place in
      let l = lt-le NEG-PI at a in
      record { lo-double = q.is-double; hi-double = q.is-double; is-valid = simp (l, b, above NEG-PI at pi-nums.0 n a) }

  pub lone-filled : circle.is_empty (circle.ends at at) ≡ false
  unfolding circle.is_empty
  lone-filled =
      let a = and_l (lt NEG-PI at) (le at PI) q.is-place in
      simp (above NEG-PI at pi-nums.0 (lng-place-num q) a) (no_place (eq at PI))
