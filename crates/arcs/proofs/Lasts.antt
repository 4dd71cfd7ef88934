-- One piece after the front, clipped by an arc over the seam with no loop: where the piece goes on past the arc's gap it is parted or moved, and where it
-- ends before the gap does it is closed. Then the turns of the loops of src/sweep.rt. Assumes nothing.
use mathlib.Core.Path.{◌≡◌, refl, sym, ap, ◌∙◌}
use mathlib.Core.Bool.{Bool, true, false, not, ◌&&◌, ◌||◌, cond, false≢true}
use mathlib.Core.List.{List, [], ◌∷◌, ◌++◌, append_assoc}
use Prim.Native.Nat.{ℕ, ◌+◌, ◌<◌}
use native.Mathlib.Numerals.{add-one}
use native.Mathlib.Omega.{arith}
use lib.ListN.{length, take, drop, get_or, set}
use Rattle.std.proofs.Common.{length-drop}
use lib.Seq.{take-suc-set, take-set-le}
use lib.Ieee.{Float, nan, binary64, fits, lt, le, eq}
use Rattle.order.specs.Key.{Num}
use Rattle.order.specs.Choice.{min, max}
use Rattle.order.proofs.Ranks.{and_l, and_r, and-of, and-off, or-of-l, or-of-r}
use Rattle.order.proofs.Facts.{le_refl, lt-le, num-l, num-r, le-no, lt-not-eq, not-lt}
use Rattle.consts.specs.Constants.{PI, NEG-PI}
use Rattle.s1.specs.declared.interval.Interval.{Interval}
use Rattle.s1.specs.Circle.{ends, is_full, is_empty}
use Rattle.s1.specs.Places.{holds}
use Rattle.s1.proofs.Held.{num-PI, num-NEG}
use Rattle.entries.specs.Lists.{All}
use Rattle.arcs.specs.CommonArcs.{some_holds}
use Rattle.arcs.specs.Clipping.{before, sooner, insert, cut, end_at, clip, whole, step, steps}
use Rattle.arcs.specs.Inside.{settles, Settled, Spared, passes, Passed, parted, closed, IsSwept, Skipped, IsEnded, Firsts}
use Rattle.arcs.proofs.Turns.{step-first, clip-open, clip-cut, clipped-turn}
use Rattle.arcs.proofs.Fronts.{lt_no, lt-ne, lt-le-lt, le-lt, holds-is, before-is, inverted, lo-under, num-hi, num-lo, arc-some, all-still, step-front, step-settled, all_append}

-- ---- what is used of a piece that goes on past the gap, whether it leads over the seam or not
record Past (a x : Interval) : Type 0 where
  held : lt x.lo a.lo ≡ true → is_empty x ≡ false → holds x a.lo false ≡ true
  new-end : before a.lo x.hi a.hi ≡ true
  old-cut : le x.lo a.hi ≡ true → before x.lo x.hi a.hi ≡ false
  uncut : le a.lo x.lo ≡ true → before x.lo x.hi a.hi ≡ true
  same : holds x a.lo false ≡ true → le x.lo a.lo ≡ true

before-yes : (s x y : Float) → le s x ≡ true → lt y s ≡ true → before s x y ≡ true
unfolding before
before-yes s x y p q = ap (λ (w : Bool). cond w (lt y s || le x y) (lt y s && le x y)) p ∙ ap (λ (w : Bool). w || le x y) q

or_left : (s t : Bool) → s || t ≡ true → t ≡ false → s ≡ true
or_left true t h k = refl
or_left false t h k = absurd (false≢true (sym k ∙ h))

module _ (a x : Interval) (nl : Num x.lo ≡ true) (nh : Num x.hi ≡ true) (ns : Num a.lo ≡ true) (nt : Num a.hi ≡ true) (i : lt a.hi a.lo ≡ true) where
  past-rising : le x.lo x.hi ≡ true → le a.lo x.hi ≡ true → Past a x
  past-rising r c =
      let h = holds-is x a.lo false (le-no x.lo x.hi nl nh r) in
      record {
        held = λ p e. h ∙ and-of (lt-le x.lo a.lo p) c;
        new-end = before-yes a.lo x.hi a.hi c i;
        old-cut = λ p. before-is x.lo x.hi a.hi true false false r (le-no x.lo a.hi nl nt p) (lt_no a.hi x.hi nt nh (lt-le-lt a.hi a.lo x.hi nt ns nh i c));
        uncut = λ p. before-yes x.lo x.hi a.hi r (lt-le-lt a.hi a.lo x.lo nt ns nl i p);
        same = λ p. and_l (le x.lo a.lo) (le a.lo x.hi) (sym h ∙ p);
      }

  past-crossing : lt x.hi x.lo ≡ true → le x.hi a.hi ≡ true → Past a x
  past-crossing r c =
      let h = holds-is x a.lo true r in
      let n : le a.lo x.hi ≡ false = lt_no x.hi a.lo nh ns (le-lt x.hi a.hi a.lo nh nt ns c i) in
      let m : le x.lo x.hi ≡ false = lt_no x.hi x.lo nh nl r in
      record {
        held = λ p e. h ∙ and-of (or-of-l (le x.lo a.lo) (le a.lo x.hi) (lt-le x.lo a.lo p)) (ap not e);
        new-end = before-is a.lo x.hi a.hi false true true n i c;
        old-cut = λ p. before-is x.lo x.hi a.hi false false true m (le-no x.lo a.hi nl nt p) c;
        uncut = λ p. before-is x.lo x.hi a.hi false true true m (lt-le-lt a.hi a.lo x.lo nt ns nl i p) c;
        same = λ p. or_left (le x.lo a.lo) (le a.lo x.hi) (and_l (le x.lo a.lo || le a.lo x.hi) (not (is_empty x)) (sym h ∙ p)) n;
      }

-- ---- the piece where it starts in the arc, cut at the end met first
module _ (a x : Interval) (i : lt a.hi a.lo ≡ true) (g : is_empty a ≡ false) where
  starts : (t : Bool) → le a.lo x.lo || le x.lo a.hi ≡ t → holds a x.lo false ≡ t && true
  starts t e = holds-is a x.lo true i ∙ ap (λ (w : Bool). w && not (is_empty a)) e ∙ ap (λ (w : Bool). t && not w) g

  cut-is : (t w : Bool) → le a.lo x.lo || le x.lo a.hi ≡ t → before x.lo x.hi a.hi ≡ w → cut a (x ∷ []) ≡ cond (t && true) (ends x.lo (cond w x.hi a.hi) ∷ []) []
  unfolding cut sooner
  cut-is t w p r =
      ap (λ (v : Bool). cond v (ends x.lo (cond (before x.lo x.hi a.hi) x.hi a.hi) ∷ []) []) (starts t p)
      ∙ ap (λ (v : Bool). cond (t && true) (ends x.lo (cond v x.hi a.hi) ∷ []) []) r

-- ---- a piece that goes on past the gap
module _ (a x : Interval) (nl : Num x.lo ≡ true) (nh : Num x.hi ≡ true) (ns : Num a.lo ≡ true) (nt : Num a.hi ≡ true) (i : lt a.hi a.lo ≡ true) (g : is_empty a ≡ false)
    (u : le a.lo PI ≡ true) (q : Past a x) where
  some : lt x.lo a.lo ≡ true → is_empty x ≡ false
  unfolding is_empty
  some p = ap (λ (w : Bool). w && eq x.hi NEG-PI) (lt-ne x.lo PI nl num-PI (lt-le-lt x.lo a.lo PI nl ns num-PI p u))

  new_is : (p : List Interval) → lt x.lo a.lo ≡ true → p ≡ cut a (x ∷ []) → clip (x ∷ []) a ≡ insert (ends a.lo x.hi) p
  unfolding some_holds end_at sooner
  new_is p b c =
      let h = q.held b (some b) in
      sym (clip-open (x ∷ []) a false true (sym g) (sym (or-of-l (holds x a.lo false) false h)) x.hi x.hi p
      (sym (ap (λ (v : Bool). cond v x.hi a.hi) h)) c (sym (ap (λ (v : Bool). cond v x.hi a.hi) q.new-end)) refl)

  split : le x.lo a.hi ≡ true → clip (x ∷ []) a ≡ ends x.lo a.hi ∷ ends a.lo x.hi ∷ []
  unfolding insert
  split p =
      let b = le-lt x.lo a.hi a.lo nl nt ns p i in
      new_is (ends x.lo a.hi ∷ []) b (sym (cut-is a x i g true false (or-of-r (le a.lo x.lo) _ p) (q.old-cut p)))
      ∙ ap (λ (v : Bool). cond v (ends a.lo x.hi ∷ ends x.lo a.hi ∷ []) (cond (lt x.lo a.lo) (ends x.lo a.hi ∷ ends a.lo x.hi ∷ []) (ends x.lo a.hi ∷ []))) (le-no x.lo a.lo nl ns (lt-le x.lo a.lo b))
      ∙ ap (λ (v : Bool). cond v (ends x.lo a.hi ∷ ends a.lo x.hi ∷ []) (ends x.lo a.hi ∷ [])) b

  moved : le x.lo a.hi ≡ false → lt x.lo a.lo ≡ true → clip (x ∷ []) a ≡ ends a.lo x.hi ∷ []
  unfolding insert
  moved p b =
      let f : le a.lo x.lo || le x.lo a.hi ≡ false = ap (λ (v : Bool). v || le x.lo a.hi) (lt_no x.lo a.lo nl ns b) ∙ p in
      new_is [] b (sym (cut-is a x i g false (before x.lo x.hi a.hi) f refl))

  kept : lt x.lo a.lo ≡ false → clip (x ∷ []) a ≡ x ∷ []
  kept n = go (holds x a.lo false) refl
    where
      w : le a.lo x.lo ≡ true
      w = not-lt x.lo a.lo nl ns n

      c : cut a (x ∷ []) ≡ x ∷ []
      c = cut-is a x i g true true (or-of-l (le a.lo x.lo) (le x.lo a.hi) w) (q.uncut w)

      go : (t : Bool) → holds x a.lo false ≡ t → clip (x ∷ []) a ≡ x ∷ []
      go true e =
          unfold some_holds end_at insert in
          (sym (clip-open (x ∷ []) a false true (sym g) (sym (or-of-l (holds x a.lo false) false e)) x.hi (sooner a.lo x.hi a.hi) (x ∷ [])
          (sym (ap (λ (v : Bool). cond v x.hi a.hi) e)) (sym c) refl refl)
          ∙ ap (λ (v : Bool). cond v (ends a.lo (sooner a.lo x.hi a.hi) ∷ x ∷ []) (cond (lt x.lo a.lo) (x ∷ ends a.lo (sooner a.lo x.hi a.hi) ∷ []) (x ∷ []))) (le-no x.lo a.lo nl ns (q.same e))
          ∙ ap (λ (v : Bool). cond v (x ∷ ends a.lo (sooner a.lo x.hi a.hi) ∷ []) (x ∷ [])) n)
      go false e = unfold some_holds in (clip-cut (x ∷ []) a false false (sym g) (sym (ap (λ (v : Bool). v || false) e)) refl ∙ c)

  last-is : clip (x ∷ []) a ≡ parted a x
  unfolding parted max
  last-is = go (le x.lo a.hi) (lt x.lo a.lo) refl refl
    where
      go : (p n : Bool) → le x.lo a.hi ≡ p → lt x.lo a.lo ≡ n
          → clip (x ∷ []) a ≡ cond p (ends x.lo a.hi ∷ ends (cond n a.lo x.lo) x.hi ∷ []) (ends (cond n a.lo x.lo) x.hi ∷ [])
      go true true e f = split e
      go true false e f = absurd (false≢true (sym f ∙ le-lt x.lo a.hi a.lo nl nt ns e i))
      go false true e f = moved e f
      go false false e f = kept f

-- by the tests alone, of doubles
pub parted-is : (a x : Interval) (b : Float) → Spared a b true → Passed a x true → clip (x ∷ []) a ≡ parted a x
unfolding passes
parted-is a x b o p = go (le x.lo x.hi) refl (sym p.is)
  where
    i : lt a.hi a.lo ≡ true
    i = inverted a b o

    nt : Num a.hi ≡ true
    nt = num-hi a b o

    ns : Num a.lo ≡ true
    ns = num-lo a b o

    by : Num x.lo ≡ true → Num x.hi ≡ true → Past a x → clip (x ∷ []) a ≡ parted a x
    by nl nh q = last-is a x nl nh ns nt i (arc-some a b o) (lo-under a b o) q

    go : (t : Bool) → le x.lo x.hi ≡ t → cond t (le a.lo x.hi) (lt x.hi x.lo && le x.hi a.hi) ≡ true → clip (x ∷ []) a ≡ parted a x
    go true r c =
        let nl = num-l x.lo x.hi p.lo-double r in
        let nh = num-r x.lo x.hi p.hi-double r in
        by nl nh (past-rising a x nl nh ns nt i r c)
    go false r c =
        let k = and_l (lt x.hi x.lo) (le x.hi a.hi) c in
        let nl = num-r x.hi x.lo p.lo-double (lt-le x.hi x.lo k) in
        let nh = num-l x.hi x.lo p.hi-double (lt-le x.hi x.lo k) in
        by nl nh (past-crossing a x nl nh ns nt i k (and_r (lt x.hi x.lo) (le x.hi a.hi) c))

-- by where the piece starts
parted-as : (a x : Interval) (t : Bool) → le x.lo a.hi ≡ t → parted a x ≡ cond t (ends x.lo a.hi ∷ ends (max x.lo a.lo) x.hi ∷ []) (ends (max x.lo a.lo) x.hi ∷ [])
unfolding parted
parted-as a x t e = ap (λ (u : Bool). cond u (ends x.lo a.hi ∷ ends (max x.lo a.lo) x.hi ∷ []) (ends (max x.lo a.lo) x.hi ∷ [])) e

-- ---- a piece that ends before the gap does: it starts before the gap, or in it and nothing is left
module _ (a x : Interval) (b : Float) (o : Spared a b true) (xl : fits binary64 x.lo ≡ true) (xh : fits binary64 x.hi ≡ true) (r : le x.lo x.hi ≡ true) (c : lt x.hi a.lo ≡ true) where
  nl : Num x.lo ≡ true
  nl = num-l x.lo x.hi xl r

  nh : Num x.hi ≡ true
  nh = num-r x.lo x.hi xh r

  ns : Num a.lo ≡ true
  ns = num-lo a b o

  nt : Num a.hi ≡ true
  nt = num-hi a b o

  clear : holds x a.lo false ≡ false
  clear = holds-is x a.lo false (le-no x.lo x.hi nl nh r) ∙ and-off (le x.lo a.lo) _ (lt_no x.hi a.lo nh ns c)

  pub closed_is : clip (x ∷ []) a ≡ closed a x
  unfolding some_holds closed min
  closed_is =
      clip-cut (x ∷ []) a false false (sym (arc-some a b o)) (sym (ap (λ (v : Bool). v || false) clear)) refl ∙ go (le x.lo a.hi) (lt a.hi x.hi) refl refl
    where
      from : (t : Bool) → le x.lo a.hi ≡ t → le a.lo x.lo || le x.lo a.hi ≡ t
      from t e = ap (λ (v : Bool). v || le x.lo a.hi) (lt_no x.lo a.lo nl ns (le-lt x.lo x.hi a.lo nl nh ns r c)) ∙ e

      go : (t w : Bool) → le x.lo a.hi ≡ t → lt a.hi x.hi ≡ w → cut a (x ∷ []) ≡ cond t (ends x.lo (cond w a.hi x.hi) ∷ []) []
      go true true e f =
          cut-is a x (inverted a b o) (arc-some a b o) true false (from true e) (before-is x.lo x.hi a.hi true false false r (le-no x.lo a.hi nl nt e) (lt_no a.hi x.hi nt nh f))
      go true false e f =
          cut-is a x (inverted a b o) (arc-some a b o) true true (from true e) (before-is x.lo x.hi a.hi true false true r (le-no x.lo a.hi nl nt e) (not-lt a.hi x.hi nt nh f))
      go false w e f = cut-is a x (inverted a b o) (arc-some a b o) false (before x.lo x.hi a.hi) (from false e) refl

  -- what is left is settled
  closed-settled : All (Settled a.hi) (closed a x)
  unfolding closed min settles
  closed-settled = go (le x.lo a.hi) (lt a.hi x.hi) refl refl
    where
      go : (t w : Bool) → le x.lo a.hi ≡ t → lt a.hi x.hi ≡ w → All (Settled a.hi) (cond t (ends x.lo (cond w a.hi x.hi) ∷ []) [])
      go true true e f = (record { lo-double = xl; hi-double = o.hi-double; is-settled = and-of e (le_refl a.hi nt) }, tt)
      go true false e f = (record { lo-double = xl; hi-double = xh; is-settled = and-of r (not-lt a.hi x.hi nt nh f) }, tt)
      go false w e f = tt

-- ---- a piece that starts above the seam is not FULL
not_full : (x : Interval) → fits binary64 x.lo ≡ true → lt NEG-PI x.lo ≡ true → is_full x ≡ false
unfolding is_full
not_full x d r = ap (λ (t : Bool). t && eq x.hi PI) (lt-not-eq NEG-PI x.lo num-NEG (num-r NEG-PI x.lo d (lt-le NEG-PI x.lo r)) r)

-- and the larger of its start and the arc's is above the seam too
above : (x y : Float) → fits binary64 x ≡ true → Num y ≡ true → lt NEG-PI x ≡ true → lt NEG-PI (max x y) ≡ true
unfolding max
above x y d ny r = go (lt x y) refl
  where
    go : (t : Bool) → lt x y ≡ t → lt NEG-PI (cond t y x) ≡ true
    go true e = lt-le-lt NEG-PI x y num-NEG (num-r NEG-PI x d (lt-le NEG-PI x r)) ny r (lt-le x y e)
    go false e = r

-- FULL is replaced by the first arc
pub full-first : (x a : Interval) → fits binary64 a.lo ≡ true → is_full x ≡ true → lt NEG-PI a.lo ≡ true → is_empty a ≡ false → step (x ∷ []) a ≡ a ∷ []
unfolding whole
full-first x a d w r e = step-first (x ∷ []) a (not_full a d r) false w e

-- ---- one piece more
pub put_last : (d : List Interval) (f : ℕ) (x : Interval) → f < length d → take (f + 1) (set d f x) ≡ take f d ++ (x ∷ [])
put_last d f x b = rw (add-one f) (take-suc-set d f x b)

-- ---- a turn of the sweep
module _ (arcs d : List Interval) (start : Interval) (k f : ℕ) (b : Float) (x z : Interval) (h : k < length arcs) (room : length arcs < length d)
    (w : IsSwept arcs start (record { k = k; f = f; b = b; x = x }) d) where
  abbrev a : Interval
  a = get_or arcs k z

  abbrev front : List Interval
  front = take f d

  module _ (o : Spared (get_or arcs k z) b true) where
    -- the piece clipped, with the front before it
    last_turn : (t : List Interval) → fits binary64 x.lo ≡ true → clip (x ∷ []) a ≡ t → steps (front ++ t) (drop (k + 1) arcs) ≡ steps (start ∷ []) arcs
    unfolding whole
    last_turn t d e =
        clipped-turn arcs k z h (front ++ (x ∷ [])) (front ++ t) (ap (λ (r : List Interval). front ++ r) (sym e) ∙ sym (step-front a b o front (x ∷ []) w.settled (not_full x d w.part))) ∙ w.is

    -- a piece that ends before the gap is closed, and the arcs that leave what is left as it is are skipped
    pub closed-turn : fits binary64 x.lo ≡ true → fits binary64 x.hi ≡ true → le x.lo x.hi ≡ true → lt x.hi (get_or arcs k z).lo ≡ true → (m : ℕ) (l : List Interval)
        → IsEnded (drop (k + 1) arcs) (get_or arcs k z) x f d m l → Firsts m l (steps (start ∷ []) arcs) (length arcs + 1)
    closed-turn xl xh r c m l e = record {
      is = e.is (all_append (Settled a.hi) front (closed a x) (all-still a b o front w.settled) (closed-settled a x b o xl xh r c))
          ∙ last_turn (closed a x) xl (closed_is a x b o xl xh r c);
      few = omega (arith, e.few, w.few, length-drop (k + 1) arcs);
    }

    module _ (p : Passed (get_or arcs k z) x true) (r : Float) (m : r ≡ max x.lo (get_or arcs k z).lo) where
      new-part : lt NEG-PI r ≡ true
      new-part = rw m (above x.lo a.lo p.lo-double (num-lo a b o) w.part)

      parted-turn : le x.lo (get_or arcs k z).hi ≡ true
          → IsSwept arcs start (record { k = k + 1; f = f + 1; b = (get_or arcs k z).hi; x = ends r x.hi }) (set d f (ends x.lo (get_or arcs k z).hi))
      parted-turn e = record {
        is = ap (λ (l : List Interval). steps (l ++ (ends r x.hi ∷ [])) (drop (k + 1) arcs)) put
            ∙ ap (λ (l : List Interval). steps l (drop (k + 1) arcs)) (append_assoc front (ends x.lo a.hi ∷ []) (ends r x.hi ∷ []))
            ∙ last_turn (ends x.lo a.hi ∷ ends r x.hi ∷ []) p.lo-double (parted-is a x b o p ∙ parted-as a x true e ∙ ap (λ (y : Float). ends x.lo a.hi ∷ ends y x.hi ∷ []) (sym m));
        settled = rw put (all_append (Settled a.hi) front (ends x.lo a.hi ∷ []) (all-still a b o front w.settled) (new-one, tt));
        part = new-part;
        up_to = omega arith;
        few = omega (arith, w.few);
      }
        where
          put : take (f + 1) (set d f (ends x.lo a.hi)) ≡ front ++ (ends x.lo a.hi ∷ [])
          put = put_last d f (ends x.lo a.hi) (omega (arith, w.few))

          new-one : Settled a.hi (ends x.lo a.hi)
          new-one = unfold settles in record { lo-double = p.lo-double; hi-double = o.hi-double; is-settled = and-of e (le_refl a.hi (num-hi a b o)) }

      moved-turn : le x.lo (get_or arcs k z).hi ≡ false
          → IsSwept arcs start (record { k = k + 1; f = f; b = (get_or arcs k z).hi; x = ends r x.hi }) (set d f (ends x.lo (get_or arcs k z).hi))
      moved-turn e = record {
        is = ap (λ (l : List Interval). steps (l ++ (ends r x.hi ∷ [])) (drop (k + 1) arcs)) as_before
            ∙ last_turn (ends r x.hi ∷ []) p.lo-double (parted-is a x b o p ∙ parted-as a x false e ∙ ap (λ (y : Float). ends y x.hi ∷ []) (sym m));
        settled = rw as_before (all-still a b o front w.settled);
        part = new-part;
        up_to = omega arith;
        few = omega (arith, w.few);
      }
        where
          as_before : take f (set d f (ends x.lo a.hi)) ≡ front
          as_before = take-set-le f d f (ends x.lo a.hi) (omega arith)

      -- either way: the piece is put after the front, and g counts it where the gap parts it
      pub swept-turn : (g : ℕ) → g ≡ cond (le x.lo (get_or arcs k z).hi) (f + 1) f
          → IsSwept arcs start (record { k = k + 1; f = g; b = (get_or arcs k z).hi; x = ends r x.hi }) (set d f (ends x.lo (get_or arcs k z).hi))
      swept-turn g e = rw e (by-test (le x.lo (get_or arcs k z).hi) refl)
        where
          by-test : (t : Bool) → le x.lo (get_or arcs k z).hi ≡ t
              → IsSwept arcs start (record { k = k + 1; f = cond t (f + 1) f; b = (get_or arcs k z).hi; x = ends r x.hi }) (set d f (ends x.lo (get_or arcs k z).hi))
          by-test true h = parted-turn h
          by-test false h = moved-turn h

-- ---- a turn over arcs that leave settled pieces as they are
pub skipped_turn : (arcs : List Interval) (k : ℕ) (b : Float) → k < length arcs → Skipped arcs b k → Spared (get_or arcs k (ends nan nan)) b true → Skipped arcs b (k + 1)
skipped_turn arcs k b h w o = record {
  is = λ l q. clipped-turn arcs k (ends nan nan) h l l (sym (step-settled (get_or arcs k (ends nan nan)) b o l q)) ∙ w.is l q;
  up_to = omega arith;
}
