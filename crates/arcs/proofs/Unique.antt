-- At most one list is the common pieces of a list of arcs: the statement determines the answer. A piece of one list lies in one piece of the other, or it
-- would join two; so the two pieces hold the same places, and have the same ends. Two lists whose western ends rise, with the same entries, agree entry by
-- entry; and numbers with no negative zero that compare equal are equal. Assumes nothing.
use mathlib.Core.Path.{◌≡◌, refl, sym, ◌∙◌, subst}
use mathlib.Core.Bool.{Bool, true, false}
use mathlib.Core.List.{List, [], ◌∷◌}
use mathlib.Core.Logic.{◌⊎◌, inl, inr}
use lib.Ieee.{Float, eq}
use Rattle.order.proofs.Ranks.{and_l, and_r}
use Rattle.consts.proofs.Readings.{plain-same}
use Rattle.s1.specs.declared.interval.Interval.{Interval}
use Rattle.s1.specs.Circle as circle
use Rattle.s1.specs.Circle.{is_empty}
use Rattle.s1.specs.Places.{Place, Valid, holds, Inside, Meets}
use Rattle.s1.proofs.Held.{lo-num, hi-num, inside-same}
use Rattle.entries.specs.Lists.{All, Mem}
use Rattle.entries.proofs.Entries.{all-at, pair-cases, all_map}
use Rattle.arcs.specs.CommonArcs.{ArcsApart, CommonArc, ArcsUnjoined, PlainArc, CommonArcs}
use Rattle.arcs.proofs.Orders.{IsNum, lo-is}
use Rattle.arcs.proofs.Pieces.{own-hi, some_of, some_at}
use Rattle.arcs.proofs.Aligned.{Two, aligned}

-- ---- the same ends
abbrev pub Same : Interval → Interval → Type 0
Same i o = (eq i.lo o.lo ≡ true) × (eq i.hi o.hi ≡ true)

pub same_of : {i o : Interval} → Valid i → Valid o → Inside i o → Inside o i → Same i o
unfolding circle.eq
same_of {i} {o} v w a b = let t = inside-same i o v w a b in (and_l _ _ t, and_r (eq i.lo o.lo) _ t)

abbrev Filled : Interval → Type 0
Filled i = is_empty i ≡ false

module _ (arcs xs ys : List Interval) (X : CommonArcs arcs xs) (Y : CommonArcs arcs ys) where
  shared : {x : Interval} → Mem x xs → CommonArc arcs x
  shared m p g q h = sym (X.exact p g q) ∙ some_of p g m h

  other : {x : Interval} → Mem x xs → (p : Float) (g : Bool) → Place p g → holds x p g ≡ true → (y : Interval) × Mem y ys × (holds y p g ≡ true)
  other m p g q h = some_at ys p g (Y.exact p g q ∙ shared m p g q h)

  top : {x : Interval} → Mem x xs → Place x.hi false × (holds x x.hi false ≡ true)
  top m = own-hi (all-at Valid X.valid m) (all-at Filled X.non-empty m)

  -- a piece lies in one piece of the other list
  inside_one : {x : Interval} (m : Mem x xs) → (y : Interval) × Mem y ys × Inside y x × (holds y x.hi false ≡ true)
  inside_one {x} m =
      let t = top m in
      let o = other m x.hi false t.0 t.1 in (
        o.0,
        o.1,
        λ p g q h. (
            let n = other m p g q h in
            go p g (x.hi, false, t.0, t.1, o.2) (p, g, q, h, n.2) n.2 (pair-cases (ArcsUnjoined arcs) Y.unjoined o.1 n.1)),
        o.2,
      )
    where
      go : {y z : Interval} (p : Float) (g : Bool) → Meets x y → Meets x z → holds z p g ≡ true → (y ≡ z) ⊎ (ArcsUnjoined arcs y z ⊎ ArcsUnjoined arcs z y) → holds y p g ≡ true
      go p g a b h (inl e) = subst (λ (w : Interval). holds w p g ≡ true) (sym e) h
      go p g a b h (inr (inl u)) = absurd (u x (all-at Valid X.valid m) (shared m) a b)
      go p g a b h (inr (inr u)) = absurd (u x (all-at Valid X.valid m) (shared m) b a)

-- and so has a piece of the other list with its ends
same-piece : (arcs xs ys : List Interval) → CommonArcs arcs xs → CommonArcs arcs ys → (x : Interval) → Mem x xs → (y : Interval) × Mem y ys × Same x y × Same y x
same-piece arcs xs ys X Y x m =
    let o = inside_one arcs xs ys X Y m in
    let b = inside_one arcs ys xs Y X o.1 in
    let t = top arcs xs ys X Y m in
    let i : Inside x o.0 = back o.0 t.0 t.1 (b.2 x.hi false t.0 o.3) b.2 (pair-cases ArcsApart X.apart m b.1) in
    let v = all-at Valid X.valid m in
    let w = all-at Valid Y.valid o.1 in
    (o.0, o.1, same_of v w i o.2, same_of w v o.2 i)
  where
    -- the piece of xs that holds the one of ys is x itself
    back : {z : Interval} (y : Interval) → Place x.hi false → holds x x.hi false ≡ true → holds z x.hi false ≡ true → Inside z y → (x ≡ z) ⊎ (ArcsApart x z ⊎ ArcsApart z x) → Inside x y
    back y q h k i (inl e) = subst (λ (w : Interval). Inside w y) (sym e) i
    back y q h k i (inr (inl a)) = absurd (a x.hi false q h k)
    back y q h k i (inr (inr a)) = absurd (a x.hi false q k h)

-- ---- two lists of the common pieces have the same ends, and so are equal
same_lists : (arcs xs ys : List Interval) → CommonArcs arcs xs → CommonArcs arcs ys → Two Same xs ys
same_lists arcs xs ys X Y =
    aligned (λ i. i.lo) Same (λ i o s. s.0) xs ys (all_map Valid (λ i. IsNum i.lo) (λ i v. lo-is v) xs X.valid)
    (all_map Valid (λ i. IsNum i.lo) (λ i v. lo-is v) ys Y.valid) X.rising Y.rising (same-piece arcs xs ys X Y) (same-piece arcs ys xs Y X)

pub equal-arcs : {i o : Interval} → Valid i → Valid o → PlainArc i → PlainArc o → Same i o → i ≡ o
equal-arcs {i} {o} v w a b s =
    let l = plain-same i.lo o.lo (lo-num v) (lo-num w) a.0 b.0 s.0 in
    let h = plain-same i.hi o.hi (hi-num v) (hi-num w) a.1 b.1 s.1 in
    λ k. record { lo = l k; hi = h k }

equals : (l m : List Interval) → All Valid l → All Valid m → All PlainArc l → All PlainArc m → Two Same l m → l ≡ m
equals [] [] v w a b s = refl
equals [] (o ∷ m) v w a b s = absurd s
equals (i ∷ l) [] v w a b s = absurd s
equals (i ∷ l) (o ∷ m) v w a b s =
    let h : i ≡ o = equal-arcs v.0 w.0 a.0 b.0 s.0 in
    let t : l ≡ m = equals l m v.1 w.1 a.1 b.1 s.1 in
    λ k. h k ∷ t k

-- the theorem: two lists that meet the statement are equal
pub unique : (arcs xs ys : List Interval) → CommonArcs arcs xs → CommonArcs arcs ys → xs ≡ ys
unique arcs xs ys X Y = equals xs ys X.valid Y.valid X.plain Y.plain (same_lists arcs xs ys X Y)
