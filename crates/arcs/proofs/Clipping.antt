-- Clipping finds the common pieces. After each arc either all arcs so far are FULL and FULL was found, or what was found is kept: pieces of the arcs so
-- far, in rising order, at most as many as the arcs, with one for every start. The arcs so far lie in reverse; what is common does not depend on their
-- order. Assumes nothing.
use mathlib.Core.Path.{◌≡◌, refl, sym, ap, ◌∙◌, subst}
use mathlib.Core.Bool.{Bool, true, false, not, ◌&&◌, ◌||◌, cond, false≢true}
use mathlib.Core.List.{List, [], ◌∷◌}
use mathlib.Core.Logic.{◌⊎◌, inl, inr}
use Prim.Native.Nat.{◌+◌, ◌≤◌}
use native.Mathlib.Omega.{arith}
use lib.ListN.{length}
use lib.Ieee.{Float, lt}
use Rattle.order.proofs.Ranks.{and_l, and_r, and-of}
use Rattle.order.proofs.Facts.{eq_refl}
use Rattle.s1.specs.declared.interval.Interval.{Interval}
use Rattle.s1.specs.Circle.{ends, FULL, is_full, is_empty}
use Rattle.s1.specs.Places.{holds, Place, Valid}
use Rattle.s1.proofs.Held.{at-PI, lo-num, full-fwd}
use Rattle.entries.specs.Lists.{All, Pairs, Mem, first, later}
use Rattle.entries.proofs.Entries.{all-at, all_of, no-mem, each-cons, pairs-map}
use Rattle.arcs.specs.CommonArcs.{every_holds, some_holds, ArcsApart, ArcsUnjoined, LowerArc, PlainArc, CommonArcs}
use Rattle.arcs.specs.Clipping.{before, sooner, insert, cut, end_at, clip, whole, step, steps, common}
use Rattle.std.proofs.lemmas.Bool.{not-true}
use Rattle.arcs.proofs.Tests.{both_ways, or_right}
use Rattle.arcs.proofs.Orders.{IsNum, lo-is, hi-is, at-is, trans-at, total-at, self-at, pass-at, same_at, along-at}
use Rattle.arcs.proofs.Pieces.{full-full, filled, lo-place, own-lo, every-at, every_of, some_of, some_at, IsPiece, made, piece-valid, piece-live, piece-part, piece-sound, piece-apart, piece-unjoined, Has, all_insert, keep-insert, has-insert, rise-insert}
use Rattle.arcs.proofs.Pieces.{one_more, valids, pairs_of, starts, all_full, Nearest, none-part, nearest, start_of, reached, of-full}

-- ---- the pieces so far, none of them FULL: what they are, and that each start is among them
pub record Kept (arcs found : List Interval) : Type 0 where
  pub are : All (IsPiece arcs) found
  pub rise : Pairs LowerArc found
  pub has : (j : Interval) → Mem j arcs → starts arcs j ≡ true → Has j.lo found
  pub few : length found ≤ length arcs

plain-piece : (arcs : List Interval) → All PlainArc arcs → {x : Interval} → IsPiece arcs x → PlainArc x
plain-piece arcs a (made m) = ((all-at PlainArc a m.start-in).0, (all-at PlainArc a m.stop-in).1)

module _ (arcs found : List Interval) (v : All Valid arcs) (z : all_full arcs ≡ false) (k : Kept arcs found) where
  complete : (p : Float) (g : Bool) → Place p g → every_holds arcs p g ≡ true → some_holds found p g ≡ true
  complete p g q h = go (nearest p (at-is q) arcs v)
    where
      go : (all_full arcs ≡ true) ⊎ ((j : Interval) × Nearest p arcs j) → some_holds found p g ≡ true
      go (inl t) = absurd (false≢true (sym z ∙ t))
      go (inr (j, n)) =
          let t = k.has j n.0 (start_of arcs v p g q h j n) in
          some_of p g t.1 (reached arcs v p g q h j n (all-at (IsPiece arcs) k.are t.1) t.2)

  kept-common : All PlainArc arcs → CommonArcs arcs found
  kept-common r = record {
    valid = valids arcs v found k.are;
    non-empty = all_of (λ x. is_empty x ≡ false) found (λ x m. piece-live arcs v (all-at (IsPiece arcs) k.are m));
    exact = λ p g q. both_ways _ _
        (λ h. let t = some_at found p g h in piece-sound arcs v (all-at (IsPiece arcs) k.are t.1) p g q t.2)
        (complete p g q);
    apart = pairs_of arcs v ArcsApart found k.are k.rise (λ x y a b h. piece-apart arcs v a b h);
    unjoined = pairs_of arcs v (ArcsUnjoined arcs) found k.are k.rise (λ x y a b h. piece-unjoined arcs v a b h);
    rising = k.rise;
    plain = all_of PlainArc found (λ x m. plain-piece arcs r (all-at (IsPiece arcs) k.are m));
  }

self-first : {s x : Float} → IsNum s → IsNum x → before s x x ≡ true
self-first n m = and_l _ _ (and_l _ _ (self-at n m m m))

-- ---- cutting
all-cut : (P Q : Interval → Type 0) (i : Interval) → ((x : Interval) → P x → holds i x.lo false ≡ true → Q (ends x.lo (sooner x.lo x.hi i.hi)))
    → (l : List Interval) → All P l → All Q (cut i l)
unfolding cut
all-cut P Q i f [] a = tt
all-cut P Q i f (x ∷ l) a = go (holds i x.lo false) refl (all-cut P Q i f l a.1)
  where
    go : (t : Bool) → holds i x.lo false ≡ t → All Q (cut i l) → All Q (cond t (ends x.lo (sooner x.lo x.hi i.hi) ∷ cut i l) (cut i l))
    go true e r = (f x a.0 e, r)
    go false e r = r

rise-cut : (i : Interval) (l : List Interval) → Pairs LowerArc l → Pairs LowerArc (cut i l)
unfolding cut
rise-cut i [] r = tt
rise-cut i (x ∷ l) r = go (holds i x.lo false) (rise-cut i l r.1)
  where
    go : (t : Bool) → Pairs LowerArc (cut i l) → Pairs LowerArc (cond t (ends x.lo (sooner x.lo x.hi i.hi) ∷ cut i l) (cut i l))
    go true k = (all-cut (LowerArc x) (λ y. lt x.lo y.lo ≡ true) i (λ y h e. h) l r.0, k)
    go false k = k

keep-cut : {x : Interval} (i : Interval) (l : List Interval) → Mem x l → holds i x.lo false ≡ true → Mem (ends x.lo (sooner x.lo x.hi i.hi)) (cut i l)
unfolding cut
keep-cut i [] m h = elim m [ ]
keep-cut i (y ∷ l) m h = go m h (holds i y.lo false) refl (keep-cut i l)
  where
    go : {x : Interval} → Mem x (y ∷ l) → holds i x.lo false ≡ true → (t : Bool) → holds i y.lo false ≡ t
        → (Mem x l → holds i x.lo false ≡ true → Mem (ends x.lo (sooner x.lo x.hi i.hi)) (cut i l))
        → Mem (ends x.lo (sooner x.lo x.hi i.hi)) (cond t (ends y.lo (sooner y.lo y.hi i.hi) ∷ cut i l) (cut i l))
    go first h true e r = first
    go first h false e r = absurd (false≢true (sym e ∙ h))
    go (later n) h true e r = later (r n h)
    go (later n) h false e r = r n h

cut-few : (i : Interval) (l : List Interval) → length (cut i l) ≤ length l
unfolding cut
cut-few i [] = omega arith
cut-few i (x ∷ l) = go (holds i x.lo false) (cut-few i l)
  where
    go : (t : Bool) → length (cut i l) ≤ length l → length (cond t (ends x.lo (sooner x.lo x.hi i.hi) ∷ cut i l) (cut i l)) ≤ length (x ∷ l)
    go true h = omega arith
    go false h = omega arith

-- the end of a piece that holds s
abbrev EndAt : Float → Float → List Interval → Float → Type 0
EndAt s e l r = ((r ≡ e) × (some_holds l s false ≡ false)) ⊎ ((x : Interval) × Mem x l × (holds x s false ≡ true) × (r ≡ x.hi))

end-at : (s e : Float) (l : List Interval) → EndAt s e l (end_at s e l)
unfolding end_at some_holds
end-at s e [] = inl (refl, refl)
end-at s e (y ∷ l) = go (holds y s false) refl (λ d. end-at s d l)
  where
    go : (t : Bool) → holds y s false ≡ t → ((d : Float) → EndAt s d l (end_at s d l)) → EndAt s e (y ∷ l) (end_at s (cond t y.hi e) l)
    go true h r = elim (r y.hi) [ inl (q, n) ↦ inr (y, first, h, q) | inr (x, m, a, b) ↦ inr (x, later m, a, b) ]
    go false h r = elim (r e) [ inl (q, n) ↦ inl (q, ap (λ (t : Bool). t || some_holds l s false) h ∙ n) | inr (x, m, a, b) ↦ inr (x, later m, a, b) ]

-- ---- one arc more
module _ (arcs : List Interval) (v : All Valid arcs) (i : Interval) (w : Valid i) where
  -- from the western end of s, a common place, east to the first of the end so far and the end of i
  extend : {s stop : Interval} → is_full i ≡ false → Valid s → Mem s (i ∷ arcs) → is_full s ≡ false → Mem stop arcs → is_full stop ≡ false
      → every_holds (i ∷ arcs) s.lo false ≡ true → ((j : Interval) → Mem j arcs → is_full j ≡ false → before s.lo stop.hi j.hi ≡ true)
      → IsPiece (i ∷ arcs) (ends s.lo (sooner s.lo stop.hi i.hi))
  unfolding sooner
  extend {s} {stop} f u m a n b h c = go (before s.lo stop.hi i.hi) refl
    where
      go : (t : Bool) → before s.lo stop.hi i.hi ≡ t → IsPiece (i ∷ arcs) (ends s.lo (cond t stop.hi i.hi))
      go true e = made {start = s} {stop = stop} (record {
        start-in = m;
        start-part = a;
        stop-in = later n;
        stop-part = b;
        inside = h;
        first-end = each-cons (λ j. is_full j ≡ false → before s.lo stop.hi j.hi ≡ true) (λ z. e) c;
      })
      go false e = made {start = s} {stop = i} (record {
        start-in = m;
        start-part = a;
        stop-in = first;
        stop-part = f;
        inside = h;
        first-end = each-cons (λ j. is_full j ≡ false → before s.lo i.hi j.hi ≡ true) (λ z. self-first (lo-is u) (hi-is w))
            (λ j o z. trans-at (lo-is u) (hi-is w) (hi-is (all-at Valid v n)) (hi-is (all-at Valid v o))
            (or_right (before s.lo stop.hi i.hi) _ (total-at (lo-is u) (hi-is (all-at Valid v n)) (hi-is w) (hi-is w)) e) (c j o z));
      })

  cut-piece : is_full i ≡ false → {x : Interval} → IsPiece arcs x → holds i x.lo false ≡ true → IsPiece (i ∷ arcs) (ends x.lo (sooner x.lo x.hi i.hi))
  unfolding every_holds
  cut-piece f (made {start} {stop} m) h =
      extend {s = start} {stop = stop} f (all-at Valid v m.start-in) (later m.start-in) m.start-part m.stop-in m.stop-part (and-of h m.inside) m.first-end

  open-piece : is_full i ≡ false → is_empty i ≡ false → {x : Interval} → IsPiece arcs x → holds x i.lo false ≡ true → IsPiece (i ∷ arcs) (ends i.lo (sooner i.lo x.hi i.hi))
  unfolding every_holds
  open-piece f n {x} (made {start} {stop} m) h =
      extend {s = i} {stop = stop} f w first f m.stop-in m.stop-part
      (and-of (own-lo w n) (piece-sound arcs v (made m) i.lo false (lo-place w f) h))
      (λ j o z. along-at (lo-is (all-at Valid v m.start-in)) (lo-is w) (hi-is (all-at Valid v m.stop-in)) (hi-is (all-at Valid v o))
      (pass-at (piece-valid arcs v (made m)) w at-PI h) (m.first-end j o z))

  wide-piece : is_full i ≡ true → {x : Interval} → IsPiece arcs x → IsPiece (i ∷ arcs) x
  unfolding every_holds
  wide-piece f (made {start} {stop} m) = made {start = start} {stop = stop} (record {
    start-in = later m.start-in;
    start-part = m.start-part;
    stop-in = later m.stop-in;
    stop-part = m.stop-part;
    inside = and-of (full-fwd w w (lo-place (all-at Valid v m.start-in) m.start-part) f) m.inside;
    first-end = each-cons (λ j. is_full j ≡ false → before start.lo stop.hi j.hi ≡ true) (λ z. absurd (false≢true (sym z ∙ f))) m.first-end;
  })

  -- a start of the longer list
  start-old : (j : Interval) → starts (i ∷ arcs) j ≡ true → starts arcs j ≡ true
  unfolding starts every_holds
  start-old j h = and-of {a = not (is_full j)} (and_l (not (is_full j)) _ h) (and_r (holds i j.lo false) _ (and_r (not (is_full j)) _ h))

  start-new : (j : Interval) → starts (i ∷ arcs) j ≡ true → holds i j.lo false ≡ true
  unfolding starts every_holds
  start-new j h = and_l _ _ (and_r (not (is_full j)) _ h)

  start-every : starts (i ∷ arcs) i ≡ true → every_holds arcs i.lo false ≡ true
  unfolding starts every_holds
  start-every h = and_r (holds i i.lo false) _ (and_r (not (is_full i)) _ h)

  start-part : (j : Interval) → starts (i ∷ arcs) j ≡ true → is_full j ≡ false
  unfolding starts
  start-part j h = not-true (is_full j) (and_l _ _ h)

  kept-wide : (found : List Interval) → is_full i ≡ true → Kept arcs found → Kept (i ∷ arcs) found
  kept-wide found f k = record {
    are = all_of (IsPiece (i ∷ arcs)) found (λ x m. wide-piece f (all-at (IsPiece arcs) k.are m));
    rise = k.rise;
    has = each-cons (λ j. starts (i ∷ arcs) j ≡ true → Has j.lo found) (λ h. absurd (false≢true (sym (start-part i h) ∙ f))) (λ j m h. k.has j m (start-old j h));
    few = omega (arith, k.few);
  }

  -- the first arc that is not FULL
  kept-first : is_full i ≡ false → all_full arcs ≡ true → Kept (i ∷ arcs) (cond (is_empty i) [] (i ∷ []))
  kept-first f a = go (is_empty i) refl
    where
      old : (P : Interval → Type 0) (j : Interval) → Mem j arcs → is_full j ≡ false → P j
      old P j m z = absurd (false≢true (sym z ∙ none-part arcs a m))

      go : (t : Bool) → is_empty i ≡ t → Kept (i ∷ arcs) (cond t [] (i ∷ []))
      go true e = record {
        are = tt;
        rise = tt;
        has = each-cons (λ j. starts (i ∷ arcs) j ≡ true → Has j.lo []) (λ h. absurd (false≢true (sym (filled w (lo-place w f) (start-new i h)) ∙ e)))
            (λ j m h. old (λ y. Has y.lo []) j m (start-part j h));
        few = omega arith;
      }
      go false e = record {
        are = (
          made {start = i} {stop = i} (record {
            start-in = first;
            start-part = f;
            stop-in = first;
            stop-part = f;
            inside = every_of (i ∷ arcs) i.lo false (each-cons (λ j. holds j i.lo false ≡ true) (own-lo w e) (λ j m. full-fwd (all-at Valid v m) w (lo-place w f) (none-part arcs a m)));
            first-end = each-cons (λ j. is_full j ≡ false → before i.lo i.hi j.hi ≡ true) (λ z. self-first (lo-is w) (hi-is w)) (λ j m z. old (λ y. before i.lo i.hi y.hi ≡ true) j m z);
          }),
          tt,
        );
        rise = (tt, tt);
        has = each-cons (λ j. starts (i ∷ arcs) j ≡ true → Has j.lo (i ∷ [])) (λ h. (i, first, eq_refl i.lo (lo-num w)))
            (λ j m h. old (λ y. Has y.lo (i ∷ [])) j m (start-part j h));
        few = omega arith;
      }

  kept-clip : (found : List Interval) → is_full i ≡ false → all_full arcs ≡ false → Kept arcs found → Kept (i ∷ arcs) (clip found i)
  unfolding clip
  kept-clip found f z k = go (not (is_empty i) && some_holds found i.lo false) refl
    where
      are : All (IsPiece (i ∷ arcs)) (cut i found)
      are = all-cut (IsPiece arcs) (IsPiece (i ∷ arcs)) i (λ x a h. cut-piece f a h) found k.are

      rise : Pairs LowerArc (cut i found)
      rise = rise-cut i found k.rise

      -- a start of an arc before
      has-old : (j : Interval) → Mem j arcs → starts (i ∷ arcs) j ≡ true → Has j.lo (cut i found)
      has-old j m h =
          let t = k.has j m (start-old j h) in
          let a = all-at (IsPiece arcs) k.are t.1 in
          (ends t.0.lo (sooner t.0.lo t.0.hi i.hi), keep-cut i found t.1 (same_at (lo-is w) (hi-is w) (lo-is (all-at Valid v m)) (lo-is (piece-valid arcs v a)) _ t.2 (start-new j h)), t.2)

      piece-new : not (is_empty i) && some_holds found i.lo false ≡ true → EndAt i.lo i.hi found (end_at i.lo i.hi found)
          → IsPiece (i ∷ arcs) (ends i.lo (sooner i.lo (end_at i.lo i.hi found) i.hi))
      piece-new h (inl (q, n)) = absurd (false≢true (sym n ∙ and_r (not (is_empty i)) _ h))
      piece-new h (inr (x, m, a, b)) =
          subst (λ (e : Float). IsPiece (i ∷ arcs) (ends i.lo (sooner i.lo e i.hi))) (sym b) (open-piece f (not-true (is_empty i) (and_l _ _ h)) (all-at (IsPiece arcs) k.are m) a)

      go : (t : Bool) → not (is_empty i) && some_holds found i.lo false ≡ t → Kept (i ∷ arcs) (cond t (insert (ends i.lo (sooner i.lo (end_at i.lo i.hi found) i.hi)) (cut i found)) (cut i found))
      go true h =
          let a = piece-new h (end-at i.lo i.hi found) in
          record {
            are = all_insert (IsPiece (i ∷ arcs)) _ (cut i found) a are;
            rise = rise-insert _ (cut i found) (piece-valid (i ∷ arcs) (w, v) a) (valids (i ∷ arcs) (w, v) (cut i found) are) rise;
            has = each-cons (λ j. starts (i ∷ arcs) j ≡ true → Has j.lo (insert (ends i.lo (sooner i.lo (end_at i.lo i.hi found) i.hi)) (cut i found)))
                (λ o. has-insert _ (cut i found) (piece-valid (i ∷ arcs) (w, v) a) (valids (i ∷ arcs) (w, v) (cut i found) are))
                (λ j m o. let t = has-old j m o in (t.0, keep-insert _ (cut i found) t.1, t.2));
            few = omega (arith, one_more (ends i.lo (sooner i.lo (end_at i.lo i.hi found) i.hi)) (cut i found), cut-few i found, k.few);
          }
      go false h = record {
        are = are;
        rise = rise;
        has = each-cons (λ j. starts (i ∷ arcs) j ≡ true → Has j.lo (cut i found))
            (λ o. absurd (false≢true (sym h ∙ and-of (ap not (filled w (lo-place w f) (start-new i o))) (complete arcs found v z k i.lo false (lo-place w f) (start-every o))))) has-old;
        few = omega (arith, cut-few i found, k.few);
      }

-- ---- the fold: all arcs FULL so far and FULL found, or pieces kept
pub data State (arcs : List Interval) : List Interval → Type 0 where
  all-full : all_full arcs ≡ true → State arcs (FULL ∷ [])
  some-part : {found : List Interval} → all_full arcs ≡ false → Kept arcs found → State arcs found

state-common : (arcs found : List Interval) → All Valid arcs → All PlainArc arcs → State arcs found → CommonArcs arcs found
state-common arcs found v r (all-full z) = of-full arcs v z
state-common arcs found v r (some-part z k) = kept-common arcs found v z k r

not-whole : (arcs found : List Interval) → All Valid arcs → All (IsPiece arcs) found → whole found ≡ false
unfolding whole
not-whole arcs [] v a = refl
not-whole arcs (x ∷ l) v a = piece-part arcs v a.0

pub full-whole : whole (FULL ∷ []) ≡ true
unfolding whole
full-whole = full-full

module _ (arcs : List Interval) (v : All Valid arcs) (i : Interval) (w : Valid i) where
  next-full : (t : Bool) → is_full i ≡ t → all_full arcs ≡ true → State (i ∷ arcs) (cond t (FULL ∷ []) (cond (whole (FULL ∷ [])) (cond (is_empty i) [] (i ∷ [])) (clip (FULL ∷ []) i)))
  unfolding all_full
  next-full true f z = all-full (and-of f z)
  next-full false f z =
      subst (λ (t : Bool). State (i ∷ arcs) (cond t (cond (is_empty i) [] (i ∷ [])) (clip (FULL ∷ []) i))) (sym full-whole)
      (some-part (ap (λ (t : Bool). t && all_full arcs) f) (kept-first arcs v i w f z))

  next-part : (found : List Interval) (t : Bool) → is_full i ≡ t → all_full arcs ≡ false → Kept arcs found
      → State (i ∷ arcs) (cond t found (cond (whole found) (cond (is_empty i) [] (i ∷ [])) (clip found i)))
  unfolding all_full
  next-part found true f z k = some-part (ap (λ (t : Bool). t && all_full arcs) f ∙ z) (kept-wide arcs v i w found f k)
  next-part found false f z k =
      subst (λ (t : Bool). State (i ∷ arcs) (cond t (cond (is_empty i) [] (i ∷ [])) (clip found i))) (sym (not-whole arcs found v k.are))
      (some-part (ap (λ (t : Bool). t && all_full arcs) f) (kept-clip arcs v i w found f z k))

  pub step-state : {found : List Interval} → State arcs found → State (i ∷ arcs) (step found i)
  unfolding step
  step-state (all-full z) = next-full (is_full i) refl z
  step-state {found} (some-part z k) = next-part found (is_full i) refl z k

-- the arcs of l, then those of arcs
onto : List Interval → List Interval → List Interval
onto arcs [] = arcs
onto arcs (i ∷ l) = onto (i ∷ arcs) l

all-onto : (P : Interval → Type 0) (arcs l : List Interval) → All P arcs → All P l → All P (onto arcs l)
unfolding onto
all-onto P arcs [] a b = a
all-onto P arcs (i ∷ l) a b = all-onto P (i ∷ arcs) l (b.0, a) b.1

onto-old : {j : Interval} (arcs l : List Interval) → Mem j arcs → Mem j (onto arcs l)
unfolding onto
onto-old arcs [] m = m
onto-old arcs (i ∷ l) m = onto-old (i ∷ arcs) l (later m)

onto-new : {j : Interval} (arcs l : List Interval) → Mem j l → Mem j (onto arcs l)
unfolding onto
onto-new {j = j} arcs [] x = elim x [ ]
onto-new arcs (i ∷ l) first = onto-old (i ∷ arcs) l first
onto-new arcs (i ∷ l) (later m) = onto-new (i ∷ arcs) l m

onto-at : (P : Interval → Type 0) (arcs l : List Interval) → ((j : Interval) → Mem j arcs → P j) → ((j : Interval) → Mem j l → P j) → (j : Interval) → Mem j (onto arcs l) → P j
unfolding onto
onto-at P arcs [] f g = f
onto-at P arcs (i ∷ l) f g = onto-at P (i ∷ arcs) l (each-cons P (g i first) f) (λ j m. g j (later m))

steps-state : (arcs l : List Interval) → All Valid arcs → All Valid l → {found : List Interval} → State arcs found → State (onto arcs l) (steps found l)
unfolding onto steps
steps-state arcs [] v w s = s
steps-state arcs (i ∷ l) v w {found} s = steps-state (i ∷ arcs) l (w.0, v) w.1 (step-state arcs v i w.0 s)

start-state : State [] (FULL ∷ [])
unfolding all_full
start-state = all-full refl

-- ---- what is common depends on the places in every arc alone, and so on the entries alone
pub every-same : (l m : List Interval) → ((i : Interval) → Mem i l → Mem i m) → ((i : Interval) → Mem i m → Mem i l) → (p : Float) (g : Bool) → every_holds l p g ≡ every_holds m p g
every-same l m a b p g = both_ways _ _ (λ h. every_of m p g (λ i n. every-at p g h (b i n))) (λ h. every_of l p g (λ i n. every-at p g h (a i n)))

pub same-common : (l m found : List Interval) → ((p : Float) (g : Bool) → Place p g → every_holds l p g ≡ every_holds m p g) → CommonArcs l found → CommonArcs m found
same-common l m found e c =
    record {
      valid = c.valid;
      non-empty = c.non-empty;
      exact = λ p g q. c.exact p g q ∙ e p g q;
      apart = c.apart;
      unjoined = pairs-map (ArcsUnjoined l) (ArcsUnjoined m) (λ x y u j v k. u j v (λ p g q h. e p g q ∙ k p g q h)) found c.unjoined;
      rising = c.rising;
      plain = c.plain;
    }

length-onto : (arcs l : List Interval) → length (onto arcs l) ≡ length arcs + length l
unfolding onto
length-onto arcs [] = omega arith
length-onto arcs (i ∷ l) = length-onto (i ∷ arcs) l ∙ (omega arith)

state-few : (arcs : List Interval) {found : List Interval} → State arcs found → 1 ≤ length arcs → length found ≤ length arcs
state-few arcs (all-full z) h = h
state-few arcs (some-part z k) h = k.few

-- ---- the theorems
module _ (arcs : List Interval) (v : All Valid arcs) where
  same-places : (p : Float) (g : Bool) → every_holds (onto [] arcs) p g ≡ every_holds arcs p g
  same-places = every-same (onto [] arcs) arcs (onto-at (λ j. Mem j arcs) [] arcs (λ j m. no-mem _ m) (λ j m. m)) (λ j m. onto-new [] arcs m)

  end-state : State (onto [] arcs) (common arcs)
  unfolding common
  end-state = steps-state [] arcs tt v start-state

  -- `common` lists the common pieces
  pub common-is : All PlainArc arcs → CommonArcs arcs (common arcs)
  common-is r =
      same-common (onto [] arcs) arcs (common arcs) (λ p g q. same-places p g)
      (state-common (onto [] arcs) (common arcs) (all-onto Valid [] arcs tt v) (all-onto PlainArc [] arcs tt r) end-state)

  -- n arcs, n at least 1, have at most n
  pub common-few : 1 ≤ length arcs → length (common arcs) ≤ length arcs
  common-few h = let e = length-onto [] arcs in let s = state-few (onto [] arcs) end-state (omega (arith, e)) in omega (arith, e, s)
