-- Pieces at the front stay as they are: a piece that ends at b or before it lies in an arc that leads over the seam to b or a later end, and does not hold
-- the arc's western end. So the arc clips only the pieces after the front. Assumes nothing.
use mathlib.Core.Path.{◌≡◌, refl, sym, ap, ◌∙◌}
use mathlib.Core.Bool.{Bool, true, false, not, ◌&&◌, ◌||◌, cond}
use mathlib.Core.List.{List, [], ◌∷◌, ◌++◌, append-nil}
use lib.Ieee.{Float, binary64, lt, le, eq}
use Rattle.order.specs.Key.{Num}
use Rattle.order.proofs.Keys.{lt-key, le-key, eq-key}
use Rattle.order.proofs.Ranks.{and_l, and_r, and-of, and-off, or-of-r}
use Rattle.order.proofs.Facts.{tests, le_trans, lt-le, num-l, num-r, le-no, lt-not-eq}
use Rattle.consts.specs.Constants.{PI, NEG-PI}
use Rattle.s1.specs.declared.interval.Interval.{Interval}
use Rattle.s1.specs.Circle.{ends, is_full, is_empty}
use Rattle.s1.specs.Places.{holds}
use Rattle.s1.proofs.Held.{num-PI, num-NEG}
use Rattle.entries.specs.Lists.{All}
use Rattle.arcs.specs.CommonArcs.{some_holds}
use Rattle.arcs.specs.Clipping.{before, sooner, insert, cut, end_at, clip, whole, step}
use Rattle.arcs.specs.Inside.{settles, Settled, spares, Spared}
use Rattle.arcs.proofs.Turns.{step-rest, clip-cut}

-- ---- the order of doubles
module _ (x y : Float) (nx : Num x ≡ true) (ny : Num y ≡ true) where
  pub lt_no : lt x y ≡ true → le y x ≡ false
  lt_no h = simp (le-key binary64) (omega (tests, simp (lt-key binary64) at h))

  pub lt-ne : lt x y ≡ true → eq x y ≡ false
  lt-ne h = simp (eq-key binary64) (omega (tests, simp (lt-key binary64) at h))

module _ (x y z : Float) (nx : Num x ≡ true) (ny : Num y ≡ true) (nz : Num z ≡ true) where
  pub lt-le-lt : lt x y ≡ true → le y z ≡ true → lt x z ≡ true
  lt-le-lt h k = simp (lt-key binary64) (omega (tests, simp (lt-key binary64) at h, simp (le-key binary64) at k))

  pub le-lt : le x y ≡ true → lt y z ≡ true → lt x z ≡ true
  le-lt h k = simp (lt-key binary64) (omega (tests, simp (le-key binary64) at h, simp (lt-key binary64) at k))

-- ---- what an interval holds, and which end is met first, by the tests' outcomes
pub holds-is : (x : Interval) (p : Float) (t : Bool) → lt x.hi x.lo ≡ t → holds x p false ≡ cond t ((le x.lo p || le p x.hi) && not (is_empty x)) (le x.lo p && le p x.hi)
unfolding is_empty
holds-is x p t e = ap (λ (w : Bool). cond w ((le x.lo p || le p x.hi) && not (is_empty x)) (le x.lo p && le p x.hi)) e

pub before-is : (s x y : Float) (t u v : Bool) → le s x ≡ t → lt y s ≡ u → le x y ≡ v → before s x y ≡ cond t (u || v) (u && v)
unfolding before
before-is s x y t u v p q r =
    ap (λ (w : Bool). cond w (lt y s || le x y) (lt y s && le x y)) p ∙ ap (λ (w : Bool). cond t (w || le x y) (w && le x y)) q ∙ ap (λ (w : Bool). cond t (u || w) (u && w)) r

-- ---- an arc that spares what ends at b or before it
module _ (a : Interval) (b : Float) (o : Spared a b true) where
  tested : spares a b ≡ true
  tested = sym o.is

  later : le b a.hi ≡ true
  unfolding spares
  later = and_l _ _ (and_l _ _ tested)

  pub inverted : lt a.hi a.lo ≡ true
  unfolding spares
  inverted = and_r (le b a.hi) _ (and_l _ _ tested)

  over : lt NEG-PI a.hi ≡ true
  unfolding spares
  over = and_l _ _ (and_r (le b a.hi && lt a.hi a.lo) _ tested)

  pub lo-under : le a.lo PI ≡ true
  unfolding spares
  lo-under = and_r (lt NEG-PI a.hi) _ (and_r (le b a.hi && lt a.hi a.lo) _ tested)

  num-b : Num b ≡ true
  num-b = num-l b a.hi o.b-double later

  pub num-hi : Num a.hi ≡ true
  num-hi = num-r b a.hi o.hi-double later

  pub num-lo : Num a.lo ≡ true
  num-lo = num-r a.hi a.lo o.lo-double (lt-le a.hi a.lo inverted)

  under : lt a.hi PI ≡ true
  under = lt-le-lt a.hi a.lo PI num-hi num-lo num-PI inverted lo-under

  arc-part : is_full a ≡ false
  unfolding is_full
  arc-part = and-off (eq a.lo NEG-PI) (eq a.hi PI) (lt-ne a.hi PI num-hi num-PI under)

  pub arc-some : is_empty a ≡ false
  unfolding is_empty
  arc-some = and-off (eq a.lo PI) (eq a.hi NEG-PI) (lt-not-eq NEG-PI a.hi num-NEG num-hi over)

  -- a piece that ends at b or before it
  module _ (p : Interval) (q : Settled b p) where
    rises : le p.lo p.hi ≡ true
    unfolding settles
    rises = and_l _ _ q.is-settled

    ends_by : le p.hi b ≡ true
    unfolding settles
    ends_by = and_r (le p.lo p.hi) _ q.is-settled

    num-start : Num p.lo ≡ true
    num-start = num-l p.lo p.hi q.lo-double rises

    num-end : Num p.hi ≡ true
    num-end = num-r p.lo p.hi q.hi-double rises

    end-in : le p.hi a.hi ≡ true
    end-in = le_trans p.hi b a.hi num-end num-b num-hi ends_by later

    start-in : le p.lo a.hi ≡ true
    start-in = le_trans p.lo p.hi a.hi num-start num-end num-hi rises end-in

    starts : holds a p.lo false ≡ true
    starts = holds-is a p.lo true inverted ∙ and-of (or-of-r (le a.lo p.lo) _ start-in) (ap not arc-some)

    end-first : before p.lo p.hi a.hi ≡ true
    end-first = before-is p.lo p.hi a.hi true false true rises (le-no p.lo a.hi num-start num-hi start-in) end-in

    uncut : ends p.lo (sooner p.lo p.hi a.hi) ≡ p
    unfolding sooner
    uncut = ap (λ (t : Bool). ends p.lo (cond t p.hi a.hi)) end-first

    not-held : holds p a.lo false ≡ false
    not-held =
        holds-is p a.lo false (le-no p.lo p.hi num-start num-end rises)
        ∙ and-off (le p.lo a.lo) _ (lt_no p.hi a.lo num-end num-lo (le-lt p.hi a.hi a.lo num-end num-hi num-lo end-in inverted))

    below : lt p.lo a.lo ≡ true
    below = le-lt p.lo a.hi a.lo num-start num-hi num-lo start-in inverted

    part : is_full p ≡ false
    unfolding is_full
    part = and-off (eq p.lo NEG-PI) _ (lt-ne p.hi PI num-end num-PI (le-lt p.hi a.hi PI num-end num-hi num-PI end-in under))

    pub still-settled : Settled a.hi p
    unfolding settles
    still-settled = record { lo-double = q.lo-double; hi-double = q.hi-double; is-settled = and-of rises end-in }

  -- a front of such pieces, and the pieces t after it
  pub all-still : (l : List Interval) → All (Settled b) l → All (Settled a.hi) l
  all-still [] q = tt
  all-still (p ∷ l) q = (still-settled p q.0, all-still l q.1)

  module _ (t : List Interval) where
    cut-front : (l : List Interval) → All (Settled b) l → cut a (l ++ t) ≡ l ++ cut a t
    unfolding cut
    cut-front [] q = refl
    cut-front (p ∷ l) q =
        ap (λ (u : Bool). cond u (ends p.lo (sooner p.lo p.hi a.hi) ∷ cut a (l ++ t)) (cut a (l ++ t))) (starts p q.0)
        ∙ ap (λ (x : Interval). x ∷ cut a (l ++ t)) (uncut p q.0) ∙ ap (λ (r : List Interval). p ∷ r) (cut-front l q.1)

    holds-front : (l : List Interval) → All (Settled b) l → some_holds (l ++ t) a.lo false ≡ some_holds t a.lo false
    unfolding some_holds
    holds-front [] q = refl
    holds-front (p ∷ l) q = ap (λ (u : Bool). u || some_holds (l ++ t) a.lo false) (not-held p q.0) ∙ holds-front l q.1

    end-front : (e : Float) (l : List Interval) → All (Settled b) l → end_at a.lo e (l ++ t) ≡ end_at a.lo e t
    unfolding end_at
    end-front e [] q = refl
    end-front e (p ∷ l) q = ap (λ (u : Bool). end_at a.lo (cond u p.hi e) (l ++ t)) (not-held p q.0) ∙ end-front e l q.1

    whole-front : (l : List Interval) → All (Settled b) l → whole t ≡ false → whole (l ++ t) ≡ false
    unfolding whole
    whole-front [] q h = h
    whole-front (p ∷ l) q h = part p q.0

  insert-front : (e : Float) (t l : List Interval) → All (Settled b) l → insert (ends a.lo e) (l ++ t) ≡ l ++ insert (ends a.lo e) t
  unfolding insert
  insert-front e t [] q = refl
  insert-front e t (p ∷ l) q =
      ap (λ (u : Bool). cond u (ends a.lo e ∷ p ∷ (l ++ t)) (cond (lt p.lo a.lo) (p ∷ insert (ends a.lo e) (l ++ t)) (p ∷ (l ++ t))))
      (le-no p.lo a.lo (num-start p q.0) num-lo (lt-le p.lo a.lo (below p q.0)))
      ∙ ap (λ (u : Bool). cond u (p ∷ insert (ends a.lo e) (l ++ t)) (p ∷ (l ++ t))) (below p q.0) ∙ ap (λ (r : List Interval). p ∷ r) (insert-front e t l q.1)

  module _ (l t : List Interval) (q : All (Settled b) l) where
    clip-front : clip (l ++ t) a ≡ l ++ clip t a
    unfolding clip
    clip-front =
        ap (λ (u : Bool). cond (not (is_empty a) && u) (insert (ends a.lo (sooner a.lo (end_at a.lo a.hi (l ++ t)) a.hi)) (cut a (l ++ t))) (cut a (l ++ t))) (holds-front t l q)
        ∙ ap (λ (e : Float). cond (not (is_empty a) && some_holds t a.lo false) (insert (ends a.lo (sooner a.lo e a.hi)) (cut a (l ++ t))) (cut a (l ++ t))) (end-front t a.hi l q)
        ∙ ap (λ (r : List Interval). cond (not (is_empty a) && some_holds t a.lo false) (insert (ends a.lo (sooner a.lo (end_at a.lo a.hi t) a.hi)) r) r) (cut-front t l q)
        ∙ go (not (is_empty a) && some_holds t a.lo false)
      where
        go : (u : Bool)
            → cond u (insert (ends a.lo (sooner a.lo (end_at a.lo a.hi t) a.hi)) (l ++ cut a t)) (l ++ cut a t)
            ≡ l ++ cond u (insert (ends a.lo (sooner a.lo (end_at a.lo a.hi t) a.hi)) (cut a t)) (cut a t)
        go true = insert-front (sooner a.lo (end_at a.lo a.hi t) a.hi) (cut a t) l q
        go false = refl

    -- the arc clips the pieces after the front alone
    pub step-front : whole t ≡ false → step (l ++ t) a ≡ l ++ clip t a
    step-front h = step-rest (l ++ t) a arc-part (whole-front t l q h) ∙ clip-front

  clip-none : clip [] a ≡ []
  unfolding some_holds cut
  clip-none = clip-cut [] a false false (sym arc-some) refl refl

  pub step-settled : (l : List Interval) → All (Settled b) l → step l a ≡ l
  unfolding whole
  step-settled l q =
      ap (λ (r : List Interval). step r a) (sym (append-nil l)) ∙ step-front l [] q refl ∙ ap (λ (r : List Interval). l ++ r) clip-none ∙ append-nil l

-- ---- the front and more
pub all_append : (P : Interval → Type 0) (l t : List Interval) → All P l → All P t → All P (l ++ t)
all_append P [] t q r = r
all_append P (x ∷ l) t q r = (q.0, all_append P l t q.1 r)
