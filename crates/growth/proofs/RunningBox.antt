-- What holds of the running box, for every start and every list of calls, however long. A call on a valid box is accepted where its point is valid, and then
-- is growth by the point, which holds the box and the point (the crate s2); it is refused else, and changes nothing. So a box that is valid stays so, and
-- each law follows call by call. Assumes nothing.
use mathlib.Core.Path.{◌≡◌, refl, sym, ap, ◌∙◌, subst}
use mathlib.Core.Bool.{Bool, true, false, cond}
use mathlib.Core.List.{List, [], ◌∷◌, ◌++◌}
use mathlib.Core.Logic.{◌⊎◌, inl, inr}
use Prim.Native.Nat.{ℕ, suc, ◌+◌}
use native.Mathlib.Omega.{arith}
use borrow.Author.Tests.{eqb-false, eq-eqb, ne_eqb}
use lib.Dec.{eqb}
use lib.ListN.{length}
use lib.Ieee.{Float}
use Rattle.s2.specs.declared.latlng.LatLng.{LatLng}
use Rattle.s2.specs.declared.rect.Rect.{Rect}
use Rattle.s2.specs.declared.rect.Answer.{Answer}
use Rattle.s2.specs.Reading.{Pair}
use Rattle.s2.specs.Zone as zone
use Rattle.s2.specs.Zone.{is_lat_lng}
use Rattle.s2.specs.Reading.{as_read, plain_point, read_point, NoMinusRect}
use Rattle.s2.specs.Answers.{add}
use Rattle.s2.specs.Places.{place_of, Valid, ValidPoint, holds, Inside, Edges, DoublePoint}
use Rattle.s2.proofs.Readings.{point-in, point-bad, valid-read}
use Rattle.s2.proofs.Accepted.{add_is}
use Rattle.s2.proofs.Valid.{add-valid}
use Rattle.s2.proofs.Zeros.{read_plain, add-plain}
use Rattle.s2.proofs.Places.{point-place, add_holds, add-refused}
use Rattle.s2.proofs.Numbers.{add-edges}
use Rattle.entries.specs.Lists.{Mem, first, later, All}
use Rattle.lists.specs.Refused.{of_point}
use Rattle.lists.proofs.Doubles.{point-of}
use Rattle.growth.specs.RunningBox.{kept, after, running, accepted_of, south_of, north_of, west_of, east_of, latitude_of, longitude_of, Comes, EdgesFrom}
use Rattle.growth.specs.Devices.{bad_in}

-- ---- a rectangle with no negative zero is its own reading
pub read_same : (r : Rect) → NoMinusRect r → as_read r ≡ r
unfolding as_read
read_same r m = λ i. record { lat = record { lo = m.0.0 i; hi = m.0.1 i }; lng = record { lo = m.1.0 i; hi = m.1.1 i } }

-- ---- what the definitions say, for other crates
pub call-is : (b : Rect) (p : LatLng) → after b p ≡ kept b (add b p)
unfolding after
call-is b p = refl

pub run_none : (b : Rect) → running b [] ≡ b
unfolding running
run_none b = refl

pub run_more : (b : Rect) (p : LatLng) (l : List LatLng) → running b (p ∷ l) ≡ running (after b p) l
unfolding running
run_more b p l = refl

-- ---- one call, on any box
pub refused-call : (b : Rect) (p : LatLng) → ((add b p).refusal ≡ 0 → ⊥) → after b p ≡ b
unfolding after
refused-call b p h = simp (ne_eqb (add b p).refusal 0 h)

pub accepted-call : (b : Rect) (p : LatLng) → (add b p).refusal ≡ 0 → after b p ≡ (add b p).value
unfolding after
accepted-call b p h = simp (eq-eqb (add b p).refusal 0 h)

-- a point of doubles is valid, or it is bad
pub point-decided : (p : LatLng) → DoublePoint p → ValidPoint p ⊎ (is_lat_lng p ≡ false)
point-decided p d = go (is_lat_lng p) refl
  where
    go : (t : Bool) → is_lat_lng p ≡ t → ValidPoint p ⊎ (is_lat_lng p ≡ false)
    go true e = inl (point-of p d e)
    go false e = inr e

-- ---- one call, on a valid box
module _ {b : Rect} (v : Valid b) (p : LatLng) where
  pub call-good : ValidPoint p → after b p ≡ (add b p).value
  call-good q = accepted-call b p (ap (λ (a : Answer). a.refusal) (add_is b v p q))

  pub call-bad : is_lat_lng p ≡ false → after b p ≡ b
  unfolding after
  call-bad h = simp (add-refused b p v h)

  -- the same by the number that reading the point gives
  pub call-refused : (of_point p ≡ 0 → ⊥) → after b p ≡ b
  unfolding read_point
  call-refused h = go (is_lat_lng p) refl h
    where
      go : (t : Bool) → is_lat_lng p ≡ t → (◌≡◌ {A = ℕ} (cond t 0 3) 0 → ⊥) → after b p ≡ b
      go true e k = absurd (k refl)
      go false e k = call-bad e

  pub call-valid : DoublePoint p → Valid (after b p)
  call-valid d = go (point-decided p d)
    where
      go : ValidPoint p ⊎ (is_lat_lng p ≡ false) → Valid (after b p)
      go (inl q) = subst Valid (sym (call-good q)) (add-valid v q)
      go (inr h) = subst Valid (sym (call-bad h)) v

  call-holds : DoublePoint p → Inside (after b p) b
  call-holds d = go (point-decided p d)
    where
      go : ValidPoint p ⊎ (is_lat_lng p ≡ false) → Inside (after b p) b
      go (inl q) = subst (λ (x : Rect). Inside x b) (sym (call-good q)) (add_holds b p v q).0
      go (inr h) = subst (λ (x : Rect). Inside x b) (sym (call-bad h)) (λ at c k. k)

  -- of the calls from here on it is among the accepted, or it is not
  more : (l : List LatLng) → ValidPoint p → accepted_of b (p ∷ l) ≡ p ∷ accepted_of (after b p) l
  unfolding accepted_of
  more l q = simp (add_is b v p q)

  fewer : (l : List LatLng) → is_lat_lng p ≡ false → accepted_of b (p ∷ l) ≡ accepted_of (after b p) l
  unfolding accepted_of
  fewer l h = simp (add-refused b p v h)

-- ---- a single call, and many
pub one-accepted : (b : Rect) (p : LatLng) → (add b p).refusal ≡ 0 → (running b (p ∷ []) ≡ (add b p).value) × (accepted_of b (p ∷ []) ≡ p ∷ [])
unfolding running accepted_of
one-accepted b p h = (accepted-call b p h, simp (eq-eqb (add b p).refusal 0 h))

pub one-refused : (b : Rect) (p : LatLng) → ((add b p).refusal ≡ 0 → ⊥) → (running b (p ∷ []) ≡ b) × (accepted_of b (p ∷ []) ≡ [])
unfolding running accepted_of
one-refused b p h = (refused-call b p h, simp (ne_eqb (add b p).refusal 0 h))

-- a list of calls may be cut anywhere: the second part goes on from the box that the first left
pub run-append : (b : Rect) (ps qs : List LatLng) → running b (ps ++ qs) ≡ running (running b ps) qs
unfolding running
run-append b [] qs = refl
run-append b (p ∷ l) qs = run-append (after b p) l qs

pub run-valid : (b : Rect) (ps : List LatLng) → Valid b → All DoublePoint ps → Valid (running b ps)
unfolding running
run-valid b [] v d = v
run-valid b (p ∷ l) v d = run-valid (after b p) l (call-valid v p d.0) d.1

pub run_holds : (b : Rect) (ps : List LatLng) → Valid b → All DoublePoint ps → Inside (running b ps) b
unfolding running
run_holds b [] v d at c h = h
run_holds b (p ∷ l) v d at c h = run_holds (after b p) l (call-valid v p d.0) d.1 at c (call-holds v p d.0 at c h)

first_part : (ps qs : List LatLng) → All DoublePoint (ps ++ qs) → All DoublePoint ps
first_part [] qs d = tt
first_part (p ∷ l) qs d = (d.0, first_part l qs d.1)

second-part : (ps qs : List LatLng) → All DoublePoint (ps ++ qs) → All DoublePoint qs
second-part [] qs d = d
second-part (p ∷ l) qs d = second-part l qs d.1

pub once-in : (b : Rect) (ps qs : List LatLng) → Valid b → All DoublePoint (ps ++ qs) → Inside (running b (ps ++ qs)) (running b ps)
once-in b ps qs v d =
    let w = run-valid b ps v (first_part ps qs d) in
    subst (λ (x : Rect). Inside x (running b ps)) (sym (run-append b ps qs)) (run_holds (running b ps) qs w (second-part ps qs d))

-- ---- the accepted points
-- they are the valid ones among the points of all calls
either_way : {p o : LatLng} {l m : List LatLng} → ValidPoint o → (Mem p m → Mem p l × ValidPoint p) → Mem p (o ∷ m) → Mem p (o ∷ l) × ValidPoint p
either_way q ih first = (first, q)
either_way q ih (later k) = (later (ih k).0, (ih k).1)

pub among : (b : Rect) (ps : List LatLng) → Valid b → All DoublePoint ps → {p : LatLng} → Mem p (accepted_of b ps) → Mem p ps × ValidPoint p
unfolding accepted_of
among b [] v d m = absurd (none m)
  where
    none : {o : LatLng} → Mem o [] → ⊥
    none = elim [ ]
among b (o ∷ l) v d {p} m = go (point-decided o d.0) (λ k. among (after b o) l (call-valid v o d.0) d.1 k)
  where
    go : ValidPoint o ⊎ (is_lat_lng o ≡ false) → (Mem p (accepted_of (after b o) l) → Mem p l × ValidPoint p) → Mem p (o ∷ l) × ValidPoint p
    go (inl q) ih = either_way q ih (subst (Mem p) (more v o l q) m)
    go (inr h) ih = let k = ih (subst (Mem p) (fewer v o l h) m) in (later k.0, k.1)

pub taken-up : (b : Rect) (ps : List LatLng) → Valid b → All DoublePoint ps → {p : LatLng} → Mem p ps → ValidPoint p → Mem p (accepted_of b ps)
taken-up b [] v d {p = p} x4 q = elim x4 [ ]
taken-up b (o ∷ l) v d first q = subst (Mem o) (sym (more v o l q)) first
taken-up b (o ∷ l) v d {p} (later m) q = go (point-decided o d.0) (taken-up (after b o) l (call-valid v o d.0) d.1 m q)
  where
    go : ValidPoint o ⊎ (is_lat_lng o ≡ false) → Mem p (accepted_of (after b o) l) → Mem p (accepted_of b (o ∷ l))
    go (inl k) ih = subst (Mem p) (sym (more v o l k)) (later ih)
    go (inr h) ih = subst (Mem p) (sym (fewer v o l h)) ih

-- cut the list anywhere: those of the first part, then those of the second
pub accepted-append : (b : Rect) (ps qs : List LatLng) → accepted_of b (ps ++ qs) ≡ accepted_of b ps ++ accepted_of (running b ps) qs
unfolding running accepted_of
accepted-append b [] qs = refl
accepted-append b (p ∷ l) qs = go (eqb (add b p).refusal 0) (accepted-append (after b p) l qs)
  where
    go : (t : Bool) → accepted_of (after b p) (l ++ qs) ≡ accepted_of (after b p) l ++ accepted_of (running (after b p) l) qs
        → cond t (p ∷ accepted_of (after b p) (l ++ qs)) (accepted_of (after b p) (l ++ qs))
        ≡ cond t (p ∷ accepted_of (after b p) l) (accepted_of (after b p) l) ++ accepted_of (running (after b p) l) qs
    go true ih = ap (λ (m : List LatLng). p ∷ m) ih
    go false ih = ih

-- so many they are
pub accepted-count : (b : Rect) (ps : List LatLng) → Valid b → All DoublePoint ps → length (accepted_of b ps) + bad_in ps ≡ length ps
unfolding accepted_of bad_in
accepted-count b [] v d = refl
accepted-count b (p ∷ l) v d = go (point-decided p d.0) (accepted-count (after b p) l (call-valid v p d.0) d.1)
  where
    go : ValidPoint p ⊎ (is_lat_lng p ≡ false) → length (accepted_of (after b p) l) + bad_in l ≡ length l → length (accepted_of b (p ∷ l)) + bad_in (p ∷ l) ≡ suc (length l)
    go (inl q) ih = rw (more v p l q) (simp (ap (λ (x : Pair). x.refusal) (point-in p q)) (omega (arith, ih)))
    go (inr h) ih = rw (fewer v p l h) (simp (point-bad p h) (omega (arith, ih)))

-- where all points are valid, all calls are accepted
pub all-accepted : (b : Rect) (ps : List LatLng) → Valid b → All ValidPoint ps → accepted_of b ps ≡ ps
unfolding accepted_of
all-accepted b [] v q = refl
all-accepted b (p ∷ l) v q = more v p l q.0 ∙ ap (λ (m : List LatLng). p ∷ m) (all-accepted (after b p) l (subst Valid (sym (call-good v p q.0)) (add-valid v q.0)) q.1)

-- each is held at the end
pub point-held : (b : Rect) (ps : List LatLng) → Valid b → All DoublePoint ps → {p : LatLng} → Mem p ps → ValidPoint p → holds (running b ps) (place_of p) ≡ true
unfolding running
point-held b [] v d {p = p} x4 q = elim x4 [ ]
point-held b (p ∷ l) v d first q =
    run_holds (after b p) l (call-valid v p d.0) d.1 (place_of p) (point-place q)
    (ap (λ (x : Rect). holds x (place_of p)) (call-good v p q) ∙ (add_holds b p v q).1)
point-held b (o ∷ l) v d (later m) q = point-held (after b o) l (call-valid v o d.0) d.1 m q

-- ---- the refused calls
-- left out, all of them, they leave the same box, on any start
pub left_out : (b : Rect) (ps : List LatLng) → running b (accepted_of b ps) ≡ running b ps
unfolding running accepted_of
left_out b [] = refl
left_out b (p ∷ l) = go (eqb (add b p).refusal 0) refl (left_out (after b p) l)
  where
    go : (t : Bool) → eqb (add b p).refusal 0 ≡ t → running (after b p) (accepted_of (after b p) l) ≡ running (after b p) l
        → running b (cond t (p ∷ accepted_of (after b p) l) (accepted_of (after b p) l)) ≡ running (after b p) l
    go true e ih = ih
    go false e ih = ap (λ (x : Rect). running x (accepted_of (after b p) l)) (sym (refused-call b p (eqb-false (add b p).refusal 0 e))) ∙ ih

pub no-entry : (l : List LatLng) → length l ≡ 0 → l ≡ []
no-entry [] e = refl
no-entry (p ∷ l) e = absurd (omega (arith, e))

-- so a box of which every call was refused is the start, every bit of it
pub none-accepted : (b : Rect) (ps : List LatLng) → length (accepted_of b ps) ≡ 0 → running b ps ≡ b
unfolding running
none-accepted b ps h = sym (left_out b ps) ∙ ap (running b) (no-entry (accepted_of b ps) h)

-- ---- zeros
-- an accepted call reads the box that it is made on
read-call : {b : Rect} → Valid b → (p : LatLng) → ValidPoint p → after (as_read b) p ≡ after b p
read-call {b} v p q =
    call-good (valid-read v) p q ∙ ap (λ (a : Answer). a.value) (add_is (as_read b) (valid-read v) p q)
    ∙ ap (λ (x : Rect). zone.add x (plain_point p)) (read_same (as_read b) (read_plain b)) ∙ ap (λ (a : Answer). a.value) (sym (add_is b v p q)) ∙ sym (call-good v p q)

-- a box with no negative zero keeps having none
good-plain : {b : Rect} → Valid b → (p : LatLng) → ValidPoint p → NoMinusRect (after b p)
good-plain {b} v p q = subst NoMinusRect (sym (call-good v p q)) (add-plain b v p q)

pub call-plain : {b : Rect} → Valid b → (p : LatLng) → NoMinusRect b → DoublePoint p → NoMinusRect (after b p)
call-plain {b} v p m d = go (point-decided p d)
  where
    go : ValidPoint p ⊎ (is_lat_lng p ≡ false) → NoMinusRect (after b p)
    go (inl q) = good-plain v p q
    go (inr h) = subst NoMinusRect (sym (call-bad v p h)) m

pub run-plain : (b : Rect) (ps : List LatLng) → Valid b → NoMinusRect b → All DoublePoint ps → NoMinusRect (running b ps)
unfolding running
run-plain b [] v m d = m
run-plain b (p ∷ l) v m d = run-plain (after b p) l (call-valid v p d.0) (call-plain v p m d.0) d.1

-- so whether the start is read before all calls or the box after them is one
pub read_first : (b : Rect) (ps : List LatLng) → Valid b → All DoublePoint ps → running (as_read b) ps ≡ as_read (running b ps)
unfolding running
read_first b [] v d = refl
read_first b (p ∷ l) v d = go (point-decided p d.0) (read_first b l v d.1)
  where
    go : ValidPoint p ⊎ (is_lat_lng p ≡ false) → running (as_read b) l ≡ as_read (running b l) → running (after (as_read b) p) l ≡ as_read (running (after b p) l)
    go (inl q) ih = ap (λ (x : Rect). running x l) (read-call v p q) ∙ sym (read_same (running (after b p) l) (run-plain (after b p) l (call-valid v p d.0) (good-plain v p q) d.1))
    go (inr h) ih = ap (λ (x : Rect). running x l) (call-bad (valid-read v) p h) ∙ ih ∙ ap (λ (x : Rect). as_read (running x l)) (sym (call-bad v p h))

-- and where a call is accepted, the box has no negative zero
pub accepted-plain : (b : Rect) (ps : List LatLng) → Valid b → All DoublePoint ps → (length (accepted_of b ps) ≡ 0 → ⊥) → NoMinusRect (running b ps)
unfolding running accepted_of
accepted-plain b [] v d n = absurd (n refl)
accepted-plain b (p ∷ l) v d n = go (point-decided p d.0) (accepted-plain (after b p) l (call-valid v p d.0) d.1)
  where
    go : ValidPoint p ⊎ (is_lat_lng p ≡ false) → ((length (accepted_of (after b p) l) ≡ 0 → ⊥) → NoMinusRect (running (after b p) l)) → NoMinusRect (running (after b p) l)
    go (inl q) ih = run-plain (after b p) l (call-valid v p d.0) (good-plain v p q) d.1
    go (inr h) ih = ih (λ k. n (ap length (fewer v p l h) ∙ k))

-- ---- the edges
-- one call more: an edge of the box after it, which is read already, is one of the box before it or a coordinate of its point
comes-more : (edge : Rect → Float) (coordinate : LatLng → Float) (start mid b : Rect) (p : LatLng) (ps : List LatLng)
    → as_read mid ≡ mid → (edge mid ≡ edge (as_read start)) ⊎ (edge mid ≡ coordinate p) → Comes edge coordinate mid b ps → Comes edge coordinate start b (p ∷ ps)
comes-more edge coordinate start mid b p ps e f (inr k) = inr (k.0, later k.1, k.2)
comes-more edge coordinate start mid b p ps e (inl f) (inl k) = inl (k ∙ ap edge e ∙ f)
comes-more edge coordinate start mid b p ps e (inr f) (inl k) = inr (p, first, k ∙ ap edge e ∙ f)

edges_more : {start mid b : Rect} {p : LatLng} {ps : List LatLng} → as_read mid ≡ mid → Edges start mid p → EdgesFrom mid b ps → EdgesFrom start b (p ∷ ps)
edges_more {start} {mid} {b} {p} {ps} e f k =
    record {
      south = comes-more south_of latitude_of start mid b p ps e f.south k.south;
      north = comes-more north_of latitude_of start mid b p ps e f.north k.north;
      west = comes-more west_of longitude_of start mid b p ps e f.west k.west;
      east = comes-more east_of longitude_of start mid b p ps e f.east k.east;
    }

pub edges-from : (b : Rect) (ps : List LatLng) → Valid b → All DoublePoint ps → EdgesFrom b (running b ps) (accepted_of b ps)
unfolding running accepted_of
edges-from b [] v d = record { south = inl refl; north = inl refl; west = inl refl; east = inl refl }
edges-from b (p ∷ l) v d = go (point-decided p d.0) (edges-from (after b p) l (call-valid v p d.0) d.1)
  where
    go : ValidPoint p ⊎ (is_lat_lng p ≡ false) → EdgesFrom (after b p) (running (after b p) l) (accepted_of (after b p) l) → EdgesFrom b (running (after b p) l) (accepted_of b (p ∷ l))
    go (inl q) ih =
        let same = read_same (after b p) (good-plain v p q) in
        subst (EdgesFrom b (running (after b p) l)) (sym (more v p l q)) (edges_more same (subst (λ (x : Rect). Edges b x p) (sym (call-good v p q)) (add-edges b p v q)) ih)
    go (inr h) ih =
        subst (EdgesFrom b (running (after b p) l)) (sym (fewer v p l h)) (subst (λ (x : Rect). EdgesFrom x (running (after b p) l) (accepted_of (after b p) l)) (call-bad v p h) ih)
