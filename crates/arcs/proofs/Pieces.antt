-- What a common piece of arcs is: it starts at an arc's western end that lies in every arc, and ends at the first eastern end met going east from there.
-- FULL has no ends. Such pieces hold common places only; with different western ends they are apart and cannot be joined, because the gap just above a
-- piece's eastern end is not common, so that an interval of common places that meets a piece ends in it. And every common place lies in the piece that
-- starts at the western end nearest to the west of it. Assumes nothing.
use mathlib.Core.Path.{◌≡◌, refl, sym, ap, ◌∙◌}
use mathlib.Core.Bool.{Bool, true, false, not, ◌&&◌, ◌||◌, cond, false≢true}
use mathlib.Core.List.{List, [], ◌∷◌}
use mathlib.Core.Logic.{◌⊎◌, inl, inr}
use Prim.Native.Nat.{◌+◌, ◌≤◌}
use native.Mathlib.Omega.{arith}
use lib.ListN.{length}
use lib.Ieee.{Float, fits, lt, le, eq, of_bits}
use Rattle.order.proofs.Ranks.{and_l, and_r, and-of, imp-at, or_at, or-of-l, or-of-r}
use Rattle.order.proofs.Facts.{eq_refl}
use Rattle.consts.specs.Constants.{PI, NEG-PI}
use Rattle.consts.specs.Reading.{plain}
use Rattle.s1.specs.declared.interval.Interval.{Interval}
use Rattle.s1.specs.Circle.{ends, FULL, is_valid, is_full, is_empty}
use Rattle.s1.specs.Places.{place, holds, Place, Valid, Meets}
use Rattle.s1.proofs.Held.{at-PI, lo-num, clash, full-fwd, empty-fwd}
use Rattle.entries.specs.Lists.{All, Pairs, Mem, first, later}
use Rattle.entries.proofs.Entries.{all-at, all_of, each-cons}
use Rattle.arcs.specs.CommonArcs.{every_holds, some_holds, ArcsApart, CommonArc, ArcsUnjoined, LowerArc, PlainArc, CommonArcs}
use Rattle.arcs.specs.Clipping.{before, insert}
use Rattle.std.proofs.lemmas.Bool.{not-true, true_from_ne_false}
use Rattle.arcs.proofs.Tests.{or_right, decide, refute, neither}
use Rattle.arcs.proofs.Orders.{IsNum, lo-is, at-is, on_way, above, above-is, above-fits, sound-at, make-at, start-at, reach-at}
use Rattle.arcs.proofs.Orders.{clear_at, intersection-at, last-at, gap_at, lo-place-at, own_at, point-valid, nearer-at, self-at, moved_at, rise-at, apart-at, level-at}

-- ---- FULL, and ends
pub full-full : is_full FULL ≡ true
unfolding is_full eq of_bits
full-full = refl

pub full-live : is_empty FULL ≡ false
unfolding is_empty eq of_bits
full-live = refl

pub full-valid : Valid FULL
unfolding is_valid fits of_bits le lt eq
full-valid = record { lo-double = refl; hi-double = refl; is-valid = refl }

pub full-plain : PlainArc FULL
unfolding plain eq of_bits
full-plain = (refl, refl)

-- an arc that holds a place is not EMPTY
pub filled : {i : Interval} → Valid i → {p : Float} {g : Bool} → Place p g → holds i p g ≡ true → is_empty i ≡ false
filled {i} v {p} {g} q h = go (decide (is_empty i))
  where
    go : (is_empty i ≡ true) ⊎ (is_empty i ≡ false) → is_empty i ≡ false
    go (inl e) = absurd (clash (holds i p g) h (empty-fwd v v q e))
    go (inr e) = e

-- one that is not FULL starts at a place
pub lo-place : {i : Interval} → Valid i → is_full i ≡ false → Place i.lo false
lo-place v f = record { is-double = v.lo-double; is-place = lo-place-at v (ap not f) }

-- one that is not EMPTY holds its western end, and its eastern one, which is a place
pub own-lo : {i : Interval} → Valid i → is_empty i ≡ false → holds i i.lo false ≡ true
own-lo v e = and_l _ _ (own_at v (ap not e))

pub own-hi : {i : Interval} → Valid i → is_empty i ≡ false → Place i.hi false × (holds i i.hi false ≡ true)
own-hi {i} v e =
    let h = and_r (holds i i.lo false) _ (own_at v (ap not e)) in
    (record { is-double = v.hi-double; is-place = and_r (holds i i.hi false) _ h }, and_l _ _ h)

-- ---- places in every arc, and in one of them
pub every-at : {i : Interval} {l : List Interval} (p : Float) (g : Bool) → every_holds l p g ≡ true → Mem i l → holds i p g ≡ true
unfolding every_holds
every-at p g h first = and_l _ _ h
every-at {i} p g h (later {y} {l} m) = every-at p g (and_r (holds y p g) _ h) m

pub every_of : (l : List Interval) (p : Float) (g : Bool) → ((i : Interval) → Mem i l → holds i p g ≡ true) → every_holds l p g ≡ true
unfolding every_holds
every_of [] p g f = refl
every_of (i ∷ l) p g f = and-of (f i first) (every_of l p g (λ j m. f j (later m)))

pub some_of : {x : Interval} {l : List Interval} (p : Float) (g : Bool) → Mem x l → holds x p g ≡ true → some_holds l p g ≡ true
unfolding some_holds
some_of {x} p g (first {l}) h = or-of-l (holds x p g) (some_holds l p g) h
some_of p g (later {y} {l} m) h = or-of-r (holds y p g) (some_holds l p g) (some_of p g m h)

pub some_at : (l : List Interval) (p : Float) (g : Bool) → some_holds l p g ≡ true → (x : Interval) × Mem x l × (holds x p g ≡ true)
unfolding some_holds
some_at [] p g h = absurd (false≢true h)
some_at (y ∷ l) p g h = go (or_at (holds y p g) (some_holds l p g) h) (some_at l p g)
  where
    go : (holds y p g ≡ true) ⊎ (some_holds l p g ≡ true) → (some_holds l p g ≡ true → (x : Interval) × Mem x l × (holds x p g ≡ true))
        → (x : Interval) × Mem x (y ∷ l) × (holds x p g ≡ true)
    go (inl k) r = (y, first, k)
    go (inr k) r = ((r k).0, later (r k).1, (r k).2)

-- ---- what a piece is: from an arc's western end that lies in every arc, east to the first eastern end
pub record Made (arcs : List Interval) (start stop : Interval) : Type 0 where
  pub start-in : Mem start arcs
  pub start-part : is_full start ≡ false
  pub stop-in : Mem stop arcs
  pub stop-part : is_full stop ≡ false
  pub inside : every_holds arcs start.lo false ≡ true
  pub first-end : (j : Interval) → Mem j arcs → is_full j ≡ false → before start.lo stop.hi j.hi ≡ true

pub data IsPiece (arcs : List Interval) : Interval → Type 0 where
  made : {start stop : Interval} → Made arcs start stop → IsPiece arcs (ends start.lo stop.hi)

module _ (arcs : List Interval) (v : All Valid arcs) where
  made_ok : {start stop : Interval} → Made arcs start stop
      → is_valid (ends start.lo stop.hi) && (not (is_empty (ends start.lo stop.hi)) && not (is_full (ends start.lo stop.hi))) ≡ true
  made_ok {start} {stop} m =
      make-at (all-at Valid v m.start-in) (all-at Valid v m.stop-in) at-PI
      (and-of (and-of (and-of (ap not m.start-part) (ap not m.stop-part)) (every-at _ false m.inside m.start-in)) (every-at _ false m.inside m.stop-in))

  pub piece-valid : {x : Interval} → IsPiece arcs x → Valid x
  piece-valid (made {start} {stop} m) =
      record { lo-double = (all-at Valid v m.start-in).lo-double; hi-double = (all-at Valid v m.stop-in).hi-double; is-valid = and_l _ _ (made_ok m) }

  pub piece-live : {x : Interval} → IsPiece arcs x → is_empty x ≡ false
  piece-live (made {start} {stop} m) = not-true _ (and_l _ _ (and_r (is_valid (ends start.lo stop.hi)) _ (made_ok m)))

  pub piece-part : {x : Interval} → IsPiece arcs x → is_full x ≡ false
  piece-part (made {start} {stop} m) = not-true _ (and_r (not (is_empty (ends start.lo stop.hi))) _ (and_r (is_valid (ends start.lo stop.hi)) _ (made_ok m)))

  -- a place of a piece lies in every arc
  pub piece-sound : {x : Interval} → IsPiece arcs x → (p : Float) (g : Bool) → Place p g → holds x p g ≡ true → every_holds arcs p g ≡ true
  piece-sound (made {start} {stop} m) p g q h = every_of arcs p g (λ i n. go i n (decide (is_full i)))
    where
      go : (i : Interval) → Mem i arcs → (is_full i ≡ true) ⊎ (is_full i ≡ false) → holds i p g ≡ true
      go i n (inl f) = full-fwd (all-at Valid v n) (all-at Valid v n) q f
      go i n (inr f) = imp-at _ _ (sound-at (all-at Valid v n) (piece-valid (made m)) q (and-of (every-at _ false m.inside n) (m.first-end i n f))) h

  -- going east, a piece ends before another starts
  piece-clear : {x y : Interval} → IsPiece arcs x → IsPiece arcs y → not (eq x.lo y.lo) ≡ true → not (holds x y.lo false) ≡ true
  piece-clear {x} a (made {start} {stop} n) d = clear_at (piece-valid a) (all-at Valid v n.start-in) at-PI
      (and-of (and-of (and-of (and-of (ap not (piece-part a)) (ap not n.start-part)) d) (at a)) (end a))
    where
      at : {x : Interval} → IsPiece arcs x → holds start x.lo false ≡ true
      at (made m) = every-at _ false m.inside n.start-in

      end : {x : Interval} → IsPiece arcs x → before x.lo x.hi start.hi ≡ true
      end (made m) = m.first-end start n.start-in n.start-part

  pub piece-apart : {x y : Interval} → IsPiece arcs x → IsPiece arcs y → lt x.lo y.lo ≡ true → ArcsApart x y
  piece-apart {x} {y} a b h p g q k l =
      clash _ (and-of k l)
      (intersection-at (piece-valid a) (piece-valid b) q
      (and-of (neither (is_full x) (is_full y) (piece-part a) (piece-part b))
      (neither (holds x y.lo false) (holds y x.lo false) (not-true _ (piece-clear a b (and_l _ _ d))) (not-true _ (piece-clear b a (and_r (not (eq x.lo y.lo)) _ d))))))
    where
      d : not (eq x.lo y.lo) && not (eq y.lo x.lo) ≡ true
      d = apart-at (lo-is (piece-valid a)) (lo-is (piece-valid b)) (lo-is (piece-valid b)) (lo-is (piece-valid b)) h

  -- the gap just above a piece is not common
  beyond : {x : Interval} → IsPiece arcs x → Place (above x.hi) true × (every_holds arcs (above x.hi) true ≡ true → ⊥)
  beyond (made {start} {stop} m) =
      let w = all-at Valid v m.stop-in in
      let t = gap_at w (and-of (ap not m.stop-part) (ap not (filled w (lo-place (all-at Valid v m.start-in) m.start-part) (every-at _ false m.inside m.stop-in)))) in (
        record { is-double = above-fits stop.hi w.hi-double; is-place = above-is (λ z. place z true) stop.hi ∙ and_r (not (cond (eq stop.hi PI) (holds stop NEG-PI true) (holds stop stop.hi true))) _ t },
        λ h. clash _ (sym (above-is (λ z. holds stop z true) stop.hi) ∙ every-at _ true h m.stop-in) (and_l _ _ t),
      )

  -- an interval of common places that holds a place of a piece ends in that piece
  ends-in : {x : Interval} → IsPiece arcs x → (j : Interval) → Valid j → CommonArc arcs j → Meets j x
      → holds x j.hi false && place j.hi false ≡ true
  ends-in {x} a j w c (p, g, q, h, k) =
      true_from_ne_false _ (λ e. clash _ (and-of h k) (last-at w (piece-valid a) q
      (and-of (and-of (ap not (piece-part a)) (refute _ (λ t. (beyond a).1 (c (above x.hi) true (beyond a).0 (above-is (λ z. holds j z true) x.hi ∙ t))))) (ap not e))))

  pub piece-unjoined : {x y : Interval} → IsPiece arcs x → IsPiece arcs y → lt x.lo y.lo ≡ true → ArcsUnjoined arcs x y
  piece-unjoined {x} {y} a b h j w c m n =
      let s = ends-in a j w c m in
      let t = ends-in b j w c n in
      piece-apart a b h j.hi false (record { is-double = w.hi-double; is-place = and_r (holds x j.hi false) _ s }) (and_l _ _ s) (and_l _ _ t)

-- ---- insertion
pub all_insert : (P : Interval → Type 0) (x : Interval) (l : List Interval) → P x → All P l → All P (insert x l)
unfolding insert
all_insert P x [] p a = (p, tt)
all_insert P x (y ∷ l) p a = go (lt x.lo y.lo) (lt y.lo x.lo) (all_insert P x l p a.1)
  where
    go : (s t : Bool) → All P (insert x l) → All P (cond s (x ∷ y ∷ l) (cond t (y ∷ insert x l) (y ∷ l)))
    go true t r = (p, (a.0, a.1))
    go false true r = (a.0, r)
    go false false r = a

pub keep-insert : {z : Interval} (x : Interval) (l : List Interval) → Mem z l → Mem z (insert x l)
unfolding insert
keep-insert {z = z} x [] m = elim m [ ]
keep-insert x (y ∷ l) m = go (lt x.lo y.lo) (lt y.lo x.lo) m (keep-insert x l)
  where
    go : {z : Interval} (s t : Bool) → Mem z (y ∷ l) → (Mem z l → Mem z (insert x l)) → Mem z (cond s (x ∷ y ∷ l) (cond t (y ∷ insert x l) (y ∷ l)))
    go true t n r = later n
    go false true first r = first
    go false true (later n) r = later (r n)
    go false false n r = n

abbrev pub Has : Float → List Interval → Type 0
Has s l = (z : Interval) × Mem z l × (eq s z.lo ≡ true)

pub has-insert : (x : Interval) (l : List Interval) → Valid x → All Valid l → Has x.lo (insert x l)
unfolding insert
has-insert x [] v w = (x, first, eq_refl x.lo (lo-num v))
has-insert x (y ∷ l) v w = go (lt x.lo y.lo) (lt y.lo x.lo) refl refl (has-insert x l v w.1)
  where
    go : (s t : Bool) → lt x.lo y.lo ≡ s → lt y.lo x.lo ≡ t → Has x.lo (insert x l) → Has x.lo (cond s (x ∷ y ∷ l) (cond t (y ∷ insert x l) (y ∷ l)))
    go true t e f r = (x, first, eq_refl x.lo (lo-num v))
    go false true e f r = (r.0, later r.1, r.2)
    go false false e f r = (y, first, level-at (lo-is v) (lo-is w.0) (lo-is v) (lo-is v) (and-of (ap not e) (ap not f)))

pub rise-insert : (x : Interval) (l : List Interval) → Valid x → All Valid l → Pairs LowerArc l → Pairs LowerArc (insert x l)
unfolding insert
rise-insert x [] v w r = (tt, tt)
rise-insert x (y ∷ l) v w r = go (lt x.lo y.lo) (lt y.lo x.lo) refl refl (rise-insert x l v w.1 r.1)
  where
    go : (s t : Bool) → lt x.lo y.lo ≡ s → lt y.lo x.lo ≡ t → Pairs LowerArc (insert x l) → Pairs LowerArc (cond s (x ∷ y ∷ l) (cond t (y ∷ insert x l) (y ∷ l)))
    go true t e f k =
        ((e, all_of (LowerArc x) l (λ z m. rise-at (lo-is v) (lo-is w.0) (lo-is (all-at Valid w.1 m)) (lo-is v) e (all-at (LowerArc y) r.0 m))), r)
    go false true e f k = (all_insert (LowerArc y) x l f r.0, k)
    go false false e f k = r

pub one_more : (x : Interval) (l : List Interval) → length (insert x l) ≤ length l + 1
unfolding insert
one_more x [] = omega arith
one_more x (y ∷ l) = go (lt x.lo y.lo) (lt y.lo x.lo) (one_more x l)
  where
    go : (s t : Bool) → length (insert x l) ≤ length l + 1 → length (cond s (x ∷ y ∷ l) (cond t (y ∷ insert x l) (y ∷ l))) ≤ length (y ∷ l) + 1
    go true t h = omega arith
    go false true h = omega arith
    go false false h = omega arith

-- ---- pieces in a list
module _ (arcs : List Interval) (v : All Valid arcs) where
  pub valids : (l : List Interval) → All (IsPiece arcs) l → All Valid l
  valids l a = all_of Valid l (λ x m. piece-valid arcs v (all-at (IsPiece arcs) a m))

  pub pairs_of : (R : Interval → Interval → Type 0) (l : List Interval) → All (IsPiece arcs) l → Pairs LowerArc l
      → ((x y : Interval) → IsPiece arcs x → IsPiece arcs y → lt x.lo y.lo ≡ true → R x y) → Pairs R l
  pairs_of R [] a r f = tt
  pairs_of R (x ∷ l) a r f = (all_of (R x) l (λ y m. f x y a.0 (all-at (IsPiece arcs) a.1 m) (all-at (LowerArc x) r.0 m)), pairs_of R l a.1 r.1 f)

-- ---- an arc starts a piece where its western end lies in every arc
unfoldable pub starts : List Interval → Interval → Bool
starts all i = not (is_full i) && every_holds all i.lo false

unfoldable pub all_full : List Interval → Bool
all_full [] = true
all_full (i ∷ l) = is_full i && all_full l

-- ---- the arc whose western end is the nearest to the west of a place
abbrev pub Nearest : Float → List Interval → Interval → Type 0
Nearest p l k = Mem k l × (is_full k ≡ false) × ((j : Interval) → Mem j l → is_full j ≡ false → on_way j.lo k.lo p ≡ true)

pub none-part : {j : Interval} (l : List Interval) → all_full l ≡ true → Mem j l → is_full j ≡ true
unfolding all_full
none-part {j = j} [] h x = elim x [ ]
none-part (i ∷ l) h first = and_l _ _ h
none-part (i ∷ l) h (later m) = none-part l (and_r (is_full i) _ h) m

pub nearest : (p : Float) → IsNum p → (l : List Interval) → All Valid l → (all_full l ≡ true) ⊎ ((k : Interval) × Nearest p l k)
unfolding all_full
nearest p n [] v = inl refl
nearest p n (i ∷ l) v = go (is_full i) refl (nearest p n l v.1)
  where
    self : on_way i.lo i.lo p ≡ true
    self = and_r (before i.lo p p) _ (and_l _ _ (self-at (lo-is v.0) n n n))

    near : (k : Interval) → Nearest p l k → is_full i ≡ false → (t : Bool) → on_way i.lo k.lo p ≡ t → (k : Interval) × Nearest p (i ∷ l) k
    near k (m, f, a) e true q = (k, (later m, f, each-cons (λ j. is_full j ≡ false → on_way j.lo k.lo p ≡ true) (λ z. q) a))
    near k (m, f, a) e false q = (
      i,
      (
        first,
        e,
        each-cons (λ j. is_full j ≡ false → on_way j.lo i.lo p ≡ true) (λ z. self)
            (λ j o z. or_right (on_way i.lo k.lo p) _ (nearer-at (lo-is (all-at Valid v.1 o)) (lo-is (all-at Valid v.1 m)) (lo-is v.0) n (a j o z)) q),
      ),
    )

    go : (t : Bool) → is_full i ≡ t → (all_full l ≡ true) ⊎ ((k : Interval) × Nearest p l k) → (is_full i && all_full l ≡ true) ⊎ ((k : Interval) × Nearest p (i ∷ l) k)
    go true e (inl h) = inl (and-of e h)
    go true e (inr (k, (m, f, a))) = inr (k, (later m, f, each-cons (λ j. is_full j ≡ false → on_way j.lo k.lo p ≡ true) (λ z. absurd (false≢true (sym z ∙ e))) a))
    go false e (inl h) =
        inr (i, (first, e, each-cons (λ j. is_full j ≡ false → on_way j.lo i.lo p ≡ true) (λ z. self) (λ j m z. absurd (false≢true (sym z ∙ none-part l h m)))))
    go false e (inr (k, a)) = inr (near k a e (on_way i.lo k.lo p) refl)

-- ---- every common place lies in a piece
module _ (arcs : List Interval) (v : All Valid arcs) where
  pub start_of : (p : Float) (g : Bool) → Place p g → every_holds arcs p g ≡ true → (k : Interval) → Nearest p arcs k → starts arcs k ≡ true
  unfolding starts
  start_of p g q h k (m, f, a) = and-of (ap not f) (every_of arcs k.lo false (λ i n. go i n (decide (is_full i))))
    where
      at : Place k.lo false
      at = lo-place (all-at Valid v m) f

      go : (i : Interval) → Mem i arcs → (is_full i ≡ true) ⊎ (is_full i ≡ false) → holds i k.lo false ≡ true
      go i n (inl e) = full-fwd (all-at Valid v n) (all-at Valid v n) at e
      go i n (inr e) = true_from_ne_false _ (λ z. clash _ (and-of (every-at p g h n) (a i n e)) (start-at (all-at Valid v n) (point-valid at) q (and-of (eq_refl k.lo (lo-num (all-at Valid v m))) (ap not z))))

  pub reached : (p : Float) (g : Bool) → Place p g → every_holds arcs p g ≡ true → (k : Interval) → Nearest p arcs k → {x : Interval} → IsPiece arcs x → eq k.lo x.lo ≡ true → holds x p g ≡ true
  reached p g q h k (m, f, a) (made {start} {stop} b) e =
      let w = all-at Valid v b.stop-in in
      let u = all-at Valid v b.start-in in
      imp-at _ _ (reach-at w (point-valid (lo-place u b.start-part)) q (and-of (eq_refl start.lo (lo-num u)) (ap not b.stop-part)))
      (and-of (every-at p g h b.stop-in) (moved_at (lo-is w) (lo-is (all-at Valid v m)) (lo-is u) (at-is q) (a stop b.stop-in b.stop-part) e))

  pub of-full : all_full arcs ≡ true → CommonArcs arcs (FULL ∷ [])
  unfolding some_holds
  of-full z = record {
    valid = (full-valid, tt);
    non-empty = (full-live, tt);
    exact = λ p g q. ap (λ t. t || false) (full-fwd full-valid full-valid q full-full) ∙ sym (every_of arcs p g (λ i m. full-fwd (all-at Valid v m) full-valid q (none-part arcs z m)));
    apart = (tt, tt);
    unjoined = (tt, tt);
    rising = (tt, tt);
    plain = (full-plain, tt);
  }
