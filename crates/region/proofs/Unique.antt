-- At most one list is the common region of a list of rectangles: the statement determines the answer. At a latitude of a piece of one list, the piece's
-- longitudes lie in one piece of the other, or they would join two; so the two pieces have the same longitudes, and then the same latitudes. Two lists
-- whose western edges rise, with the same entries, agree entry by entry; and numbers with no negative zero that compare equal are equal. Assumes nothing.
use mathlib.Core.Path.{◌≡◌, refl, sym, ◌∙◌, subst}
use mathlib.Core.Bool.{Bool, true, false, false≢true}
use mathlib.Core.List.{List, [], ◌∷◌}
use mathlib.Core.Logic.{◌⊎◌, inl, inr}
use lib.Ieee.{Float, binary64, le, eq, fits}
use Rattle.order.proofs.Ranks.{and_l, and_r, and-of, or_at, or-of-l, or-of-r}
use Rattle.order.proofs.Facts.{le_refl, not-lt, antisym}
use Rattle.consts.proofs.Readings.{plain-same}
use Rattle.r1.specs.declared.interval.Interval.{Interval as Line}
use Rattle.r1.specs.Line as line
use Rattle.r1.specs.Places.{holds as lat_holds, InReach as LatReach}
use Rattle.r1.proofs.Readings.{place-num}
use Rattle.s1.specs.declared.interval.Interval.{Interval as Circle}
use Rattle.s1.specs.Places.{Place as LngPlace, Valid as LngValid, holds as lng_holds, Inside as LngInside}
use Rattle.s2.specs.declared.place.Place.{Place}
use Rattle.s2.specs.declared.rect.Rect.{Rect}
use Rattle.s2.specs.Zone.{latitude, is_empty}
use Rattle.s2.specs.Places.{IsPlace, place_at, Valid, holds}
use Rattle.s2.proofs.Latitudes.{filled-lo}
use Rattle.s2.proofs.Valid.{range, empty-both}
use Rattle.s2.proofs.Circles.{lng-hi}
use Rattle.s2.proofs.Places.{held-latitude}
use Rattle.entries.specs.Lists.{All, Pairs, Mem, first, later}
use Rattle.entries.proofs.Entries.{all-at, pair-cases, all_map}
use Rattle.arcs.proofs.Orders.{IsNum, lo-is, split_at}
use Rattle.arcs.proofs.Aligned.{Two, aligned}
use Rattle.arcs.proofs.Unique.{Same, same_of, equal-arcs}
use Rattle.region.specs.CommonRegion.{in_every, in_some, Apart, AllCommon, Touches, Unjoined, Lower, CommonRegion}
use Rattle.region.proofs.Listed.{Read, lat-plain, lng-plain}

-- ---- a rectangle of the list that holds a place
pub some_of : {r : Rect} {l : List Rect} (p : Place) → Mem r l → holds r p ≡ true → in_some l p ≡ true
unfolding in_some
some_of {r} p (first {l}) h = or-of-l (holds r p) (in_some l p) h
some_of p (later {y} {l} m) h = or-of-r (holds y p) (in_some l p) (some_of p m h)

some_at : (l : List Rect) (p : Place) → in_some l p ≡ true → (r : Rect) × Mem r l × (holds r p ≡ true)
unfolding in_some
some_at [] p h = absurd (false≢true h)
some_at (o ∷ l) p h = go (or_at (holds o p) (in_some l p) h) (some_at l p)
  where
    go : (holds o p ≡ true) ⊎ (in_some l p ≡ true) → (in_some l p ≡ true → (r : Rect) × Mem r l × (holds r p ≡ true))
        → (r : Rect) × Mem r (o ∷ l) × (holds r p ≡ true)
    go (inl k) t = (o, first, k)
    go (inr k) t = ((t k).0, later (t k).1, (t k).2)

-- ---- a latitude of the rectangle
record LatOf (r : Rect) (x : Float) : Type 0 where
  is-double : fits binary64 x ≡ true
  is-latitude : latitude x ≡ true
  inside : lat_holds r.lat x ≡ true

place-at : {r : Rect} {x at : Float} {g : Bool} → LatOf r x → LngPlace at g → IsPlace (place_at x at g)
place-at l q = record { is-double = l.is-double; is-latitude = l.is-latitude; lng-place = q }

other-lat : {r o : Rect} {x : Float} → LatOf r x → lat_holds o.lat x ≡ true → LatOf o x
other-lat l h = record { is-double = l.is-double; is-latitude = l.is-latitude; inside = h }

filled-hi : {i : Line} → LatReach i → line.is_empty i ≡ false → lat_holds i i.hi ≡ true
unfolding line.is_empty lat_holds
filled-hi {i} v e = let h = place-num v.hi-place in and-of (not-lt i.hi i.lo h (place-num v.lo-place) e) (le_refl i.hi h)

-- the ends of a piece's latitudes are two
lats-of : {r : Rect} → Valid r → is_empty r ≡ false → LatOf r r.lat.lo × LatOf r r.lat.hi
unfolding is_empty
lats-of {r} v e =
    let a = range v in
    let h = filled-hi v.lat-reach e in (
      record { is-double = a.south.is-place.is-double; is-latitude = a.south.in-range; inside = filled-lo v.lat-reach e },
      record { is-double = a.north.is-place.is-double; is-latitude = held-latitude a r.lat.hi a.north.is-place h; inside = h },
    )

top_of : {r : Rect} → Valid r → is_empty r ≡ false → LngPlace r.lng.hi false × (lng_holds r.lng r.lng.hi false ≡ true)
unfolding is_empty
top_of v e = lng-hi v.lng-valid (sym (empty-both v) ∙ e)

abbrev Filled : Rect → Type 0
Filled r = is_empty r ≡ false

module _ (given xs ys : List Rect) (X : CommonRegion given xs) (Y : CommonRegion given ys) where
  shared : {r : Rect} → Mem r xs → (p : Place) → IsPlace p → holds r p ≡ true → in_every given p ≡ true
  shared m p q h = sym (X.exact p q) ∙ some_of p m h

  other : {r : Rect} → Mem r xs → (p : Place) → IsPlace p → holds r p ≡ true → (o : Rect) × Mem o ys × (holds o p ≡ true)
  other m p q h = some_at ys p (Y.exact p q ∙ shared m p q h)

  top : {r : Rect} → Mem r xs → LngPlace r.lng.hi false × (lng_holds r.lng r.lng.hi false ≡ true)
  top m = top_of (all-at Valid X.valid m) (all-at Filled X.non-empty m)

  -- at a latitude of a piece, the piece's longitudes lie in one piece of the other list
  inside_one : {r : Rect} (m : Mem r xs) (x : Float) → LatOf r x
      → (o : Rect) × Mem o ys × LatOf o x × LngInside o.lng r.lng × (lng_holds o.lng r.lng.hi false ≡ true)
  inside_one {r} m x l =
      let t = top m in
      let here = place_at x r.lng.hi false in
      let o = other m here (place-at l t.0) (and-of l.inside t.1) in (
        o.0,
        o.1,
        other-lat l (and_l _ _ o.2),
        λ at g q h. (
            let p = place_at x at g in
            let n = other m p (place-at l q) (and-of l.inside h) in
            and_r (lat_holds o.0.lat x) _ (go p (all-at Valid X.valid m).lng-valid (λ u w e k. shared m u w (and-of (subst (λ (y : Float). lat_holds r.lat y ≡ true) (sym e) l.inside) k))
            (here, place-at l t.0, refl, t.1, o.2) (p, place-at l q, refl, h, n.2) n.2 (pair-cases (Unjoined given) Y.unjoined o.1 n.1))),
        and_r (lat_holds o.0.lat x) _ o.2,
      )
    where
      go : {j : Circle} {y z : Rect} {x : Float} (p : Place) → LngValid j → AllCommon given j x → Touches j x y → Touches j x z
          → holds z p ≡ true → (y ≡ z) ⊎ (Unjoined given y z ⊎ Unjoined given z y) → holds y p ≡ true
      go {j} {y} {z} {x} p v c m n h (inl e) = subst (λ (w : Rect). holds w p ≡ true) (sym e) h
      go {j} {y} {z} {x} p v c m n h (inr (inl u)) = absurd (u j x v c m n)
      go {j} {y} {z} {x} p v c m n h (inr (inr u)) = absurd (u j x v c n m)

record SameRect (r o : Rect) : Type 0 where
  lngs : Same r.lng o.lng
  lats : (eq r.lat.lo o.lat.lo ≡ true) × (eq r.lat.hi o.lat.hi ≡ true)

-- a piece, and one of its latitudes, have a piece of the other list with the same longitudes and that latitude
matched : (given xs ys : List Rect) → CommonRegion given xs → CommonRegion given ys → {r : Rect} (m : Mem r xs) (x : Float) → LatOf r x
    → (o : Rect) × Mem o ys × LatOf o x × Same r.lng o.lng × Same o.lng r.lng
matched given xs ys X Y {r} m x l =
    let o = inside_one given xs ys X Y m x l in
    let b = inside_one given ys xs Y X o.1 x o.2 in
    let t = top given xs ys X Y m in
    let i = go o.0 (place-at l t.0) (and-of l.inside t.1) (and-of b.2.inside (b.3 r.lng.hi false t.0 o.4)) b.3 (pair-cases Apart X.apart m b.1) in
    let v = (all-at Valid X.valid m).lng-valid in
    let w = (all-at Valid Y.valid o.1).lng-valid in
    (o.0, o.1, o.2, same_of v w i o.3, same_of w v o.3 i)
  where
    go : (y : Rect) {z : Rect} → IsPlace (place_at x r.lng.hi false) → holds r (place_at x r.lng.hi false) ≡ true → holds z (place_at x r.lng.hi false) ≡ true → LngInside z.lng y.lng
        → (r ≡ z) ⊎ (Apart r z ⊎ Apart z r) → LngInside r.lng y.lng
    go y q h k i (inl e) = subst (λ (w : Rect). LngInside w.lng y.lng) (sym e) i
    go y q h k i (inr (inl u)) = absurd (u (place_at x r.lng.hi false) q h k)
    go y q h k i (inr (inr u)) = absurd (u (place_at x r.lng.hi false) q k h)

-- pieces of one list with one western edge are one piece
one_piece : {ys : List Rect} → All Valid ys → Pairs Lower ys → {s : Float} → IsNum s → {y z : Rect} → Mem y ys → Mem z ys → eq s y.lng.lo ≡ true → eq s z.lng.lo ≡ true → y ≡ z
one_piece v r n {y} {z} a b h k = go (pair-cases Lower r a b)
  where
    ny : IsNum y.lng.lo
    ny = lo-is (all-at Valid v a).lng-valid

    nz : IsNum z.lng.lo
    nz = lo-is (all-at Valid v b).lng-valid

    go : (y ≡ z) ⊎ (Lower y z ⊎ Lower z y) → y ≡ z
    go (inl e) = e
    go (inr (inl t)) = absurd (split_at n ny nz n h k t)
    go (inr (inr t)) = absurd (split_at n nz ny n k h t)

-- a piece has the latitudes of the piece of the other list with the same longitudes
same-lats : (given xs ys : List Rect) → CommonRegion given xs → CommonRegion given ys → {r o : Rect} → Mem r xs → Mem o ys → Same r.lng o.lng
    → (x : Float) → LatOf r x → lat_holds o.lat x ≡ true
same-lats given xs ys X Y {r} {o} m n s x l =
    let t = matched given xs ys X Y m x l in
    let e : o ≡ t.0 = one_piece Y.valid Y.rising (lo-is (all-at Valid X.valid m).lng-valid) n t.1 s.0 t.3.0 in
    subst (λ (z : Rect). lat_holds z.lat x ≡ true) (sym e) t.2.inside

module _ {r o : Rect} (v : Valid r) (w : Valid o) (e : is_empty r ≡ false) (f : is_empty o ≡ false)
    (h : (x : Float) → LatOf r x → lat_holds o.lat x ≡ true) (k : (x : Float) → LatOf o x → lat_holds r.lat x ≡ true) where
  level : (eq r.lat.lo o.lat.lo ≡ true) × (eq r.lat.hi o.lat.hi ≡ true)
  unfolding lat_holds
  level =
      let a = place-num v.lat-reach.lo-place in
      let b = place-num v.lat-reach.hi-place in
      let c = place-num w.lat-reach.lo-place in
      let d = place-num w.lat-reach.hi-place in
      let p = lats-of v e in
      let q = lats-of w f in (
        antisym r.lat.lo o.lat.lo a c (and_l _ _ (k o.lat.lo q.0)) (and_l _ _ (h r.lat.lo p.0)),
        antisym r.lat.hi o.lat.hi b d (and_r (le o.lat.lo r.lat.hi) _ (h r.lat.hi p.1)) (and_r (le r.lat.lo o.lat.hi) _ (k o.lat.hi q.1)),
      )

same-piece : (given xs ys : List Rect) → CommonRegion given xs → CommonRegion given ys → (r : Rect) → Mem r xs → (o : Rect) × Mem o ys × SameRect r o × SameRect o r
same-piece given xs ys X Y r m =
    let v = all-at Valid X.valid m in
    let e = all-at Filled X.non-empty m in
    let o = matched given xs ys X Y m r.lat.lo (lats-of v e).0 in
    let w = all-at Valid Y.valid o.1 in
    let f = all-at Filled Y.non-empty o.1 in
    let h = same-lats given xs ys X Y m o.1 o.3 in
    let k = same-lats given ys xs Y X o.1 m o.4 in
    (o.0, o.1, record { lngs = o.3; lats = level v w e f h k }, record { lngs = o.4; lats = level w v f e k h })

-- ---- two lists of the common region have the same ends, and so are equal
same_lists : (given xs ys : List Rect) → CommonRegion given xs → CommonRegion given ys → Two SameRect xs ys
same_lists given xs ys X Y =
    aligned (λ r. r.lng.lo) SameRect (λ r o s. s.lngs.0) xs ys (all_map Valid (λ r. IsNum r.lng.lo) (λ r v. lo-is v.lng-valid) xs X.valid)
    (all_map Valid (λ r. IsNum r.lng.lo) (λ r v. lo-is v.lng-valid) ys Y.valid) X.rising Y.rising (same-piece given xs ys X Y) (same-piece given ys xs Y X)

equal : {r o : Rect} → Valid r → Valid o → Read r → Read o → SameRect r o → r ≡ o
equal {r} {o} v w a b s =
    let p = lat-plain a in
    let q = lat-plain b in
    let l = plain-same r.lat.lo o.lat.lo (place-num v.lat-reach.lo-place) (place-num w.lat-reach.lo-place) p.0 q.0 s.lats.0 in
    let h = plain-same r.lat.hi o.lat.hi (place-num v.lat-reach.hi-place) (place-num w.lat-reach.hi-place) p.1 q.1 s.lats.1 in
    let i = equal-arcs v.lng-valid w.lng-valid (lng-plain a) (lng-plain b) s.lngs in
    λ k. record { lat = record { lo = l k; hi = h k }; lng = i k }

equals : (l m : List Rect) → All Valid l → All Valid m → All Read l → All Read m → Two SameRect l m → l ≡ m
equals [] [] v w a b s = refl
equals [] (o ∷ m) v w a b s = absurd s
equals (r ∷ l) [] v w a b s = absurd s
equals (r ∷ l) (o ∷ m) v w a b s =
    let h : r ≡ o = equal v.0 w.0 a.0 b.0 s.0 in
    let t : l ≡ m = equals l m v.1 w.1 a.1 b.1 s.1 in
    λ k. h k ∷ t k

-- the theorem: two lists that meet the statement are equal
pub unique : (given xs ys : List Rect) → CommonRegion given xs → CommonRegion given ys → xs ≡ ys
unique given xs ys X Y = equals xs ys X.valid Y.valid X.plain Y.plain (same_lists given xs ys X Y)
