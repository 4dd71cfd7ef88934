-- The arcs of a list taken as two kinds: what those that rise have in common is one arc, found by their ends alone, and with it the others have the common
-- places that all have. An arc that rises holds what lies between its ends, so that `narrowed` holds what both hold. Assumes nothing.
use mathlib.Core.Path.{◌≡◌, refl, sym, ap, ◌∙◌, subst}
use mathlib.Core.Bool.{Bool, true, false, not, ◌&&◌, ◌||◌, cond, false≢true, and_assoc, and-false}
use mathlib.Core.List.{List, [], ◌∷◌}
use mathlib.Core.Logic.{◌⊎◌, inl, inr}
use lib.Ieee.{Float, binary64, fits, lt, le, eq}
use Rattle.order.specs.Key.{Num}
use Rattle.order.specs.Choice.{min, max}
use Rattle.order.proofs.Keys.{lt-key, le-key}
use Rattle.order.proofs.Ranks.{and_l, and_r, and-of}
use Rattle.order.proofs.Choices.{cond_of, larger-le, le-smaller}
use Rattle.order.proofs.Facts.{tests, lt-le, le_trans, not-lt, lt-not-eq, antisym}
use Rattle.consts.specs.Constants.{PI, NEG-PI}
use Rattle.consts.specs.Reading.{plain}
use Rattle.s1.specs.declared.interval.Interval.{Interval}
use Rattle.s1.specs.Circle.{FULL, is_valid, is_full, is_empty}
use Rattle.s1.specs.Places.{holds, Place, Valid}
use Rattle.s1.proofs.Readings.{num_of}
use Rattle.s1.proofs.Held.{num-PI, num-NEG, at-num}
use Rattle.entries.specs.Lists.{All, Mem, first, later}
use Rattle.entries.proofs.Entries.{all-at, all_of, each-cons}
use Rattle.arcs.specs.CommonArcs.{every_holds, some_holds, PlainArc, AreRead, CommonArcs}
use Rattle.arcs.specs.Clipping.{step, steps, common}
use Rattle.arcs.specs.Kinds.{rises, narrowed, risen, crossing, met}
use Rattle.sort.specs.Permutations.{Permuted}
use Rattle.std.proofs.lemmas.Bool.{not-true}
use Rattle.arcs.proofs.Tests.{both_ways, or_right}
use Rattle.arcs.proofs.Orders.{rising-at}
use Rattle.arcs.proofs.Pieces.{full-full, full-valid, full-plain}
use Rattle.arcs.proofs.Clipping.{full-whole, every-same, same-common, common-is}
use Rattle.arcs.proofs.Unique.{unique, equal-arcs}
use Rattle.arcs.proofs.Turns.{step-full, step-first}
use Rattle.sort.proofs.Permutations.{permuted-entries}

-- ---- the order of numbers
lt-before : (x y z : Float) → Num x ≡ true → Num y ≡ true → Num z ≡ true → lt x y ≡ true → le y z ≡ true → lt x z ≡ true
lt-before x y z nx ny nz h k = simp (lt-key binary64) (omega (tests, simp (lt-key binary64) at h, simp (le-key binary64) at k))

le_not_lt : (x y : Float) → Num x ≡ true → Num y ≡ true → le x y ≡ true → lt y x ≡ false
le_not_lt x y nx ny h = simp (lt-key binary64) (omega (tests, simp (le-key binary64) at h))

-- below the smaller of two is below both
lt-smaller : (a b x : Float) → Num a ≡ true → Num b ≡ true → Num x ≡ true → lt x (min a b) ≡ lt x a && lt x b
unfolding min
lt-smaller a b x na nb nx = cond_of (λ y. lt x y) (lt b a) b a ∙ go (lt b a) refl
  where
    go : (t : Bool) → lt b a ≡ t → cond t (lt x b) (lt x a) ≡ lt x a && lt x b
    go true h = both_ways _ _ (λ k. and-of (lt-before x b a nx nb na k (lt-le b a h)) k) (λ k. and_r (lt x a) _ k)
    go false h = both_ways _ _ (λ k. and-of k (lt-before x a b nx na nb k (not-lt b a nb na h))) (λ k. and_l _ _ k)

-- ---- the places between the ends
-- the double p, or the gap just above it, does not lie above h
abbrev below : Float → Bool → Float → Bool
below p g h = cond g (lt p h) (le p h)

abbrev between : Interval → Float → Bool → Bool
between x p g = le x.lo p && below p g x.hi

cross-and : (a b c d : Bool) → (a && b) && (c && d) ≡ (a && c) && (b && d)
cross-and true true c d = refl
cross-and true false true d = refl
cross-and true false false d = refl
cross-and false b c d = refl

-- an arc that rises holds these
rising-holds : (a : Interval) → Num a.lo ≡ true → Num a.hi ≡ true → rises a ≡ true → (p : Float) (g : Bool) → holds a p g ≡ between a p g
unfolding rises is_empty
rising-holds a al ah r p g =
    ap (λ (t : Bool). cond t ((le a.lo p || below p g a.hi) && not (is_empty a)) (between a p g)) (le_not_lt a.lo a.hi al ah r)

narrowed-between : (x a : Interval) → Num x.lo ≡ true → Num x.hi ≡ true → Num a.lo ≡ true → Num a.hi ≡ true → {p : Float} {g : Bool} → Place p g
    → between (narrowed x a) p g ≡ between x p g && between a p g
unfolding narrowed
narrowed-between x a xl xh al ah {p} {g} q =
    ap (λ (t : Bool). t && below p g (min x.hi a.hi)) (larger-le x.lo a.lo p xl al n) ∙ ap (λ (t : Bool). (le x.lo p && le a.lo p) && t) (go g)
    ∙ cross-and (le x.lo p) (le a.lo p) (below p g x.hi) (below p g a.hi)
  where
    n : Num p ≡ true
    n = at-num q

    go : (g : Bool) → below p g (min x.hi a.hi) ≡ below p g x.hi && below p g a.hi
    go true = lt-smaller x.hi a.hi p xh ah n
    go false = le-smaller x.hi a.hi p xh ah n

-- every place lies between the ends of FULL
full-between : {p : Float} {g : Bool} → Place p g → between FULL p g ≡ true
full-between {g = true} q = q.is-place
full-between {p} {g = false} q = and-of (lt-le NEG-PI p (and_l _ _ q.is-place)) (and_r (lt NEG-PI p) _ q.is-place)

-- no place lies between ends that do not rise
none_between : (x : Interval) → Num x.lo ≡ true → Num x.hi ≡ true → rises x ≡ false → {p : Float} {g : Bool} → Place p g → between x p g ≡ false
unfolding rises
none_between x l h f {p} {g} q = go (between x p g) refl
  where
    upper : (g : Bool) → below p g x.hi ≡ true → le p x.hi ≡ true
    upper true k = lt-le p x.hi k
    upper false k = k

    go : (t : Bool) → between x p g ≡ t → between x p g ≡ false
    go true e = absurd (false≢true (sym f ∙ le_trans x.lo p x.hi l (at-num q) h (and_l _ _ e) (upper g (and_r (le x.lo p) _ e))))
    go false e = e

-- ---- what the arcs that rise come to: its ends are theirs, or those of FULL; its western end is -PI in FULL alone
record End (x : Float) : Type 0 where
  is-double : fits binary64 x ≡ true
  from : le NEG-PI x ≡ true
  up_to : le x PI ≡ true
  is_plain : plain x ≡ x

end-num : {x : Float} → End x → Num x ≡ true
end-num {x} e = num_of x e.is-double e.from

valid-ends : {a : Interval} → Valid a → PlainArc a → End a.lo × End a.hi
unfolding is_valid
valid-ends {a} v p =
    let h = v.is-valid in
    let b : le NEG-PI a.lo ≡ true = search (and_l, and_r) in
    let c : le a.lo PI ≡ true = search (and_l, and_r) in
    let d : le NEG-PI a.hi ≡ true = search (and_l, and_r) in
    let e : le a.hi PI ≡ true = search (and_l, and_r) in
    (record { is-double = v.lo-double; from = b; up_to = c; is_plain = p.0 }, record { is-double = v.hi-double; from = d; up_to = e; is_plain = p.1 })

record IsRisen (x : Interval) : Type 0 where
  lo-end : End x.lo
  hi-end : End x.hi
  hi-above : lt NEG-PI x.hi ≡ true
  start : (x ≡ FULL) ⊎ (lt NEG-PI x.lo ≡ true)

full-risen : IsRisen FULL
full-risen =
    let e = valid-ends full-valid full-plain in
    let r : le NEG-PI PI ≡ true = e.0.up_to in
    record { lo-end = e.0; hi-end = e.1; hi-above = and_l _ _ (rising-at full-valid r); start = inl refl }

one_of : {A : Type 0} (P : A → Type 0) (t : Bool) (x y : A) → P x → P y → P (cond t x y)
one_of P true x y a b = a
one_of P false x y a b = b

module _ (x a : Interval) (c : IsRisen x) (v : Valid a) (p : PlainArc a) (r : rises a ≡ true) where
  abbrev e : End a.lo × End a.hi
  e = valid-ends v p

  above : lt NEG-PI a.hi && (lt NEG-PI a.lo || not (lt a.hi PI)) ≡ true
  unfolding rises
  above = rising-at v r

  narrowed-start : (narrowed x a ≡ FULL) ⊎ (lt NEG-PI (narrowed x a).lo ≡ true)
  unfolding narrowed max min
  narrowed-start = go c.start
    where
      -- both ends of FULL stay where the arc starts at -PI, and then it ends at PI
      of-full : (t : Bool) → lt NEG-PI a.lo ≡ t → (narrowed FULL a ≡ FULL) ⊎ (lt NEG-PI (narrowed FULL a).lo ≡ true)
      of-full true h = inr (ap (λ (t : Bool). lt NEG-PI (cond t a.lo NEG-PI)) h ∙ h)
      of-full false h =
          let u = not-true (lt a.hi PI) (or_right (lt NEG-PI a.lo) _ (and_r (lt NEG-PI a.hi) _ above) h) in
          inl (λ k. record { lo = cond (h k) a.lo NEG-PI; hi = cond (u k) a.hi PI })

      later : (t : Bool) → lt x.lo a.lo ≡ t → lt NEG-PI x.lo ≡ true → lt NEG-PI (cond t a.lo x.lo) ≡ true
      later true h k = lt-before NEG-PI x.lo a.lo num-NEG (end-num c.lo-end) (end-num e.0) k (lt-le x.lo a.lo h)
      later false h k = k

      go : (x ≡ FULL) ⊎ (lt NEG-PI x.lo ≡ true) → (narrowed x a ≡ FULL) ⊎ (lt NEG-PI (narrowed x a).lo ≡ true)
      go (inl q) = subst (λ (z : Interval). (narrowed z a ≡ FULL) ⊎ (lt NEG-PI (narrowed z a).lo ≡ true)) (sym q) (of-full (lt NEG-PI a.lo) refl)
      go (inr k) = inr (later (lt x.lo a.lo) refl k)

  narrowed-risen : IsRisen (narrowed x a)
  unfolding narrowed max min
  narrowed-risen = record {
    lo-end = one_of End (lt x.lo a.lo) a.lo x.lo e.0 c.lo-end;
    hi-end = one_of End (lt a.hi x.hi) a.hi x.hi e.1 c.hi-end;
    hi-above = one_of (λ z. lt NEG-PI z ≡ true) (lt a.hi x.hi) a.hi x.hi (and_l _ _ above) c.hi-above;
    start = narrowed-start;
  }

risen-is : (x : Interval) (l : List Interval) → IsRisen x → All Valid l → All PlainArc l → IsRisen (risen x l)
unfolding risen
risen-is x [] c v p = c
risen-is x (a ∷ l) c v p = go (rises a) refl (λ z k. risen-is z l k v.1 p.1)
  where
    go : (t : Bool) → rises a ≡ t → ((z : Interval) → IsRisen z → IsRisen (risen z l)) → IsRisen (risen (cond t (narrowed x a) x) l)
    go true r f = f (narrowed x a) (narrowed-risen x a c v.0 p.0 r)
    go false r f = f x c

-- ---- it is valid, and the first piece
off-start : (s t : Bool) → s ≡ false → not (s && t) ≡ true
off-start s t h = ap (λ (b : Bool). not (b && t)) h

module _ (x : Interval) (c : IsRisen x) where
  lo-not : lt NEG-PI x.lo ≡ true → eq x.lo NEG-PI ≡ false
  lo-not h = lt-not-eq NEG-PI x.lo num-NEG (end-num c.lo-end) h

  hi-not : eq x.hi NEG-PI ≡ false
  hi-not = lt-not-eq NEG-PI x.hi num-NEG (end-num c.hi-end) c.hi-above

  risen-valid : Valid x
  unfolding is_valid
  risen-valid = go c.start
    where
      go : (x ≡ FULL) ⊎ (lt NEG-PI x.lo ≡ true) → Valid x
      go (inl q) = subst Valid (sym q) full-valid
      go (inr h) = record {
        lo-double = c.lo-end.is-double;
        hi-double = c.hi-end.is-double;
        is-valid = and-of (and-of (and-of (and-of (and-of c.lo-end.from c.lo-end.up_to) c.hi-end.from) c.hi-end.up_to)
            (off-start (eq x.lo NEG-PI) (not (eq x.hi PI)) (lo-not h))) (off-start (eq x.hi NEG-PI) (not (eq x.lo PI)) hi-not);
      }

  risen-plain : PlainArc x
  risen-plain = (c.lo-end.is_plain, c.hi-end.is_plain)

  risen-filled : is_empty x ≡ false
  unfolding is_empty
  risen-filled = ap (λ (t : Bool). eq x.lo PI && t) hi-not ∙ and-false (eq x.lo PI)

  -- so that to clip it by arcs is to clip FULL by it and the arcs
  first_piece : step (FULL ∷ []) x ≡ x ∷ []
  unfolding is_full
  first_piece = go c.start
    where
      go : (x ≡ FULL) ⊎ (lt NEG-PI x.lo ≡ true) → step (FULL ∷ []) x ≡ x ∷ []
      go (inl q) = step-full (FULL ∷ []) x (ap is_full q ∙ full-full) ∙ ap (λ (z : Interval). z ∷ []) (sym q)
      go (inr h) = step-first (FULL ∷ []) x (ap (λ (t : Bool). t && eq x.hi PI) (lo-not h)) false full-whole risen-filled

  first-steps : (l : List Interval) → steps (x ∷ []) l ≡ common (x ∷ l)
  unfolding common steps
  first-steps l = ap (λ (z : List Interval). steps z l) (sym first_piece)

-- ---- nothing is lost: between the ends of what the arcs that rise come to, and in the others, lie the places of all
keep : (b h c s e : Bool) → b && c ≡ s && e → b && (h && c) ≡ s && (h && e)
keep b true c s e k = k
keep b false c s e k = and-false b ∙ sym (and-false s)

every-kind : (x : Interval) (l : List Interval) → IsRisen x → All Valid l → All PlainArc l → {p : Float} {g : Bool} → Place p g
    → between (risen x l) p g && every_holds (crossing l) p g ≡ between x p g && every_holds l p g
unfolding risen crossing every_holds
every-kind x [] c v w q = refl
every-kind x (a ∷ l) c v w {p} {g} q = go (rises a) refl (λ z k. every-kind z l k v.1 w.1 q)
  where
    xl : Num x.lo ≡ true
    xl = end-num c.lo-end

    xh : Num x.hi ≡ true
    xh = end-num c.hi-end

    al : Num a.lo ≡ true
    al = end-num (valid-ends v.0 w.0).0

    ah : Num a.hi ≡ true
    ah = end-num (valid-ends v.0 w.0).1

    go : (t : Bool) → rises a ≡ t → ((z : Interval) → IsRisen z → between (risen z l) p g && every_holds (crossing l) p g ≡ between z p g && every_holds l p g)
        → between (risen (cond t (narrowed x a) x) l) p g && every_holds (cond t (crossing l) (a ∷ crossing l)) p g ≡ between x p g && (holds a p g && every_holds l p g)
    go true r f =
        f (narrowed x a) (narrowed-risen x a c v.0 w.0 r)
        ∙ ap (λ (t : Bool). t && every_holds l p g) (narrowed-between x a xl xh al ah q)
        ∙ and_assoc (between x p g) (between a p g) (every_holds l p g) ∙ ap (λ (t : Bool). between x p g && (t && every_holds l p g)) (sym (rising-holds a al ah r p g))
    go false r f = keep (between (risen x l) p g) (holds a p g) (every_holds (crossing l) p g) (between x p g) (every_holds l p g) (f x c)

all-crossing : (P : Interval → Type 0) (l : List Interval) → All P l → All P (crossing l)
unfolding crossing
all-crossing P [] a = tt
all-crossing P (x ∷ l) a = go (rises x) (all-crossing P l a.1)
  where
    go : (t : Bool) → All P (crossing l) → All P (cond t (crossing l) (x ∷ crossing l))
    go true k = k
    go false k = (a.0, k)

-- ---- arcs that have been read and rise are such
full-one : {x : Interval} → Valid x → PlainArc x → is_full x ≡ true → x ≡ FULL
unfolding is_full
full-one {x} v p f = equal-arcs v full-valid p full-plain (and_l _ _ f, and_r (eq x.lo NEG-PI) _ f)

module _ (x : Interval) (v : Valid x) (p : PlainArc x) (r : rises x ≡ true) where
  above-x : lt NEG-PI x.hi && (lt NEG-PI x.lo || not (lt x.hi PI)) ≡ true
  unfolding rises
  above-x = rising-at v r

  risen-of : IsRisen x
  unfolding is_full
  risen-of = record { lo-end = e.0; hi-end = e.1; hi-above = and_l _ _ above-x; start = go (lt NEG-PI x.lo) refl }
    where
      e : End x.lo × End x.hi
      e = valid-ends v p

      go : (t : Bool) → lt NEG-PI x.lo ≡ t → (x ≡ FULL) ⊎ (lt NEG-PI x.lo ≡ true)
      go true h = inr h
      go false h =
          let u = not-true (lt x.hi PI) (or_right (lt NEG-PI x.lo) _ (and_r (lt NEG-PI x.hi) _ above-x) h) in
          let a = antisym x.lo NEG-PI (end-num e.0) num-NEG (not-lt NEG-PI x.lo num-NEG (end-num e.0) h) e.0.from in
          let b = antisym x.hi PI (end-num e.1) num-PI e.1.up_to (not-lt x.hi PI (end-num e.1) num-PI u) in
          inl (full-one v p (and-of a b))

-- ---- the order of the arcs changes nothing
same_entries : (l m : List Interval) → AreRead l → AreRead m → ((i : Interval) → Mem i l → Mem i m) → ((i : Interval) → Mem i m → Mem i l) → common l ≡ common m
same_entries l m a b f g =
    unique m (common l) (common m) (same-common l m (common l) (λ p h q. every-same l m f g p h) (common-is l a.valid a.plain)) (common-is m b.valid b.plain)

read_as : (l m : List Interval) → AreRead l → ((i : Interval) → Mem i m → Mem i l) → AreRead m
read_as l m a f = record { valid = all_of Valid m (λ i k. all-at Valid a.valid (f i k)); plain = all_of PlainArc m (λ i k. all-at PlainArc a.plain (f i k)) }

-- what is left of x by the arcs in any order is what they have in common
pub left-common : (x : Interval) (arcs others : List Interval) → rises x ≡ true → AreRead (x ∷ arcs) → Permuted arcs others → steps (x ∷ []) others ≡ common (x ∷ arcs)
left-common x arcs others r b m =
    let e = permuted-entries m in
    first-steps x (risen-of x b.valid.0 b.plain.0 r) others
    ∙ same_entries (x ∷ others) (x ∷ arcs) (read_as (x ∷ arcs) (x ∷ others) b (mem others arcs e.1)) b (mem others arcs e.1) (mem arcs others e.0)
  where
    mem : (l k : List Interval) → ((i : Interval) → Mem i l → Mem i k) → (i : Interval) → Mem i (x ∷ l) → Mem i (x ∷ k)
    mem l k f = each-cons (λ i. Mem i (x ∷ k)) first (λ i n. later (f i n))

-- ---- the two kinds of a list's arcs
module _ (l : List Interval) (a : AreRead l) where
  abbrev x : Interval
  x = risen FULL l

  x-risen : IsRisen x
  x-risen = risen-is FULL l full-risen a.valid a.plain

  -- they have been read too
  pub kinds-read : AreRead (risen FULL l ∷ crossing l)
  kinds-read = record { valid = (risen-valid x x-risen, all-crossing Valid l a.valid); plain = (risen-plain x x-risen, all-crossing PlainArc l a.plain) }

  every-all : {p : Float} {g : Bool} → Place p g → between x p g && every_holds (crossing l) p g ≡ every_holds l p g
  every-all {p} {g} q = every-kind FULL l full-risen a.valid a.plain q ∙ ap (λ (t : Bool). t && every_holds l p g) (full-between q)

  -- where x rises, it and the others have the places of all
  kinds-places : rises x ≡ true → (p : Float) (g : Bool) → Place p g → every_holds (x ∷ crossing l) p g ≡ every_holds l p g
  unfolding every_holds
  kinds-places r p g q =
      ap (λ (t : Bool). t && every_holds (crossing l) p g) (rising-holds x (end-num x-risen.lo-end) (end-num x-risen.hi-end) r p g) ∙ every-all q

  -- else there is no such place
  none-common : rises x ≡ false → CommonArcs l []
  unfolding some_holds
  none-common f = record {
    valid = tt;
    non-empty = tt;
    exact = λ p g q. sym (sym (every-all q) ∙ ap (λ (t : Bool). t && every_holds (crossing l) p g) (none_between x (end-num x-risen.lo-end) (end-num x-risen.hi-end) f q));
    apart = tt;
    unjoined = tt;
    rising = tt;
    plain = tt;
  }

  -- so what the two kinds have in common is what all have
  pub met-kinds : met (risen FULL l) (crossing l) ≡ common l
  unfolding met
  met-kinds = go (rises x) refl
    where
      all-is : CommonArcs l (common l)
      all-is = common-is l a.valid a.plain

      go : (t : Bool) → rises x ≡ t → cond t (common (x ∷ crossing l)) [] ≡ common l
      go true r =
          unique l (common (x ∷ crossing l)) (common l)
          (same-common (x ∷ crossing l) l (common (x ∷ crossing l)) (kinds-places r) (common-is (x ∷ crossing l) kinds-read.valid kinds-read.plain)) all-is
      go false r = unique l [] (common l) (none-common r) all-is
