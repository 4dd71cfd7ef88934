-- The loop that reads a stream: what one record more does to the numbers gathered so far and the bytes that are left, and how it ends. Each turn is the input's own
-- (lists, Inputs.antt); here it is said of the numbers in the list and of the places 34 k. Assumes nothing.
use mathlib.Core.Path.{◌≡◌, refl, sym, ap, ◌∙◌, subst}
use mathlib.Core.Bool.{Bool, true, false, cond}
use mathlib.Core.List.{List, [], ◌∷◌, ◌++◌}
use Prim.Native.Nat.{ℕ, ◌+◌, ◌-◌, ◌*◌, ◌≤◌, ◌<◌}
use native.Mathlib.Omega.{arith}
use borrow.Author.Tests.{le-leb, lt-leb, leb-true, leb-false, ne_eqb}
use lib.ListN.{length, take, drop, length-append, length-drop}
use lib.Seq.{drop-drop, take_all}
use lib.Dec.{leb}
use lib.Ieee.{Float}
use Rattle.consts.specs.declared.refusal.Refusal.{Refusal}
use Rattle.consts.specs.Refusal.{number, bad_list, bad_record, code}
use Rattle.s2.specs.declared.rect.Rect.{Rect}
use Rattle.s2.specs.Reading.{as_read}
use Rattle.lists.specs.Rects.{put_rect, numbers_of}
use Rattle.entries.proofs.Inputs as reading
use Rattle.lists.proofs.RectLists.{sets-take, four-stores, put-stores}
use Rattle.record.specs.Records.{Record}
use Rattle.std.specs.Prelude.{Ok, Err}
use Rattle.stream.specs.Inside.{Gathered}
use Rattle.record.specs.Records.{whole_record, rect_of, number_of, record_number, IsRecord}
use Rattle.stream.specs.Stream.{Numbers, Fault, over_number, RECORDS, to_stream, stream_of}
use Rattle.stream.specs.Inside.{ended_with, gathered}
use Rattle.record.proofs.Records.{is-taken, taken_is, is-refused}

-- ---- one record
-- the part of a slice from a place on
rest_of : (s : List ℕ) (at : ℕ) → take (length s - at) (drop at s) ≡ drop at s
rest_of s at = take_all (length s - at) (drop at s) (omega (arith, length-drop at s))

-- the record that is read of it
abbrev pub IsRead : Record → List ℕ → ℕ → Type 0
IsRead x s k = IsRecord (take (length s - 34 * k) (drop (34 * k) s)) x

is_read : (x : Record) (s : List ℕ) (k : ℕ) → IsRead x s k → IsRecord (drop (34 * k) s) x
is_read x s k i = subst (λ (t : List ℕ). IsRecord t x) (rest_of s (34 * k)) i

-- ---- what goes on after the last record that is taken
pub over-whole : (s : List ℕ) → whole_record s ≡ true → 5 ≡ over_number s
unfolding over_number
over-whole s e = simp e

pub over-other : (s : List ℕ) → whole_record s ≡ false → 7 ≡ over_number s
unfolding over_number
over-other s e = simp e

over-some : (s : List ℕ) → over_number s ≡ 0 → ⊥
unfolding over_number
over-some s = go (whole_record s)
  where
    go : (w : Bool) → cond w (number bad_list) (number bad_record) ≡ 0 → ⊥
    go true e = omega arith
    go false e = omega arith

-- ---- one rectangle more in the list
numbers_more : (rs : List Rect) (r : Rect) → numbers_of rs ++ numbers_of (r ∷ []) ≡ numbers_of (rs ++ (r ∷ []))
unfolding numbers_of
numbers_more [] r = refl
numbers_more (o ∷ rs) r = ap (λ (m : List Float). o.lat.lo ∷ (o.lat.hi ∷ (o.lng.lo ∷ (o.lng.hi ∷ m)))) (numbers_more rs r)

put-more : (i : ℕ) (r : Rect) (l : List Float) → i + 4 ≤ length l → take (i + 4) (put_rect i r l) ≡ take i l ++ numbers_of (r ∷ [])
unfolding numbers_of
put-more i r l h =
    ap (take (i + 4)) (put-stores i r l h ∙ four-stores l i r.lat.lo r.lat.hi r.lng.lo r.lng.hi)
    ∙ sets-take (r.lat.lo ∷ (r.lat.hi ∷ (r.lng.lo ∷ (r.lng.hi ∷ [])))) l i h

-- ---- the loop: the list l holds the numbers of the first k records, and the rest of s is still to be read
pub record Held (s : List ℕ) (l : List Float) (k : ℕ) : Type 0 where
  pub rects : List Rect
  pub many : length rects ≡ k
  pub are : take (4 * k) l ≡ numbers_of rects
  pub rest : reading.Held RECORDS s rects (drop (34 * k) s)

pub starts : (s : List ℕ) (l : List Float) → Held s l 0
unfolding numbers_of
starts s l = record { rects = []; many = refl; are = refl; rest = reading.starts RECORDS s }

module _ (s : List ℕ) (l : List Float) (k : ℕ) (held : Held s l k) where
  left-some : 34 * k < length s → 0 < length (drop (34 * k) s)
  left-some h = omega (arith, length-drop (34 * k) s)

  -- one more record
  pub good : (l' : List Float) (x : Record) (r : Rect) → k < 512 → 34 * k < length s → length l ≡ 2048 → IsRead x s k → x ≡ Ok r → l' ≡ put_rect (4 * k) r l → Held s l' (k + 1)
  good l' x r h m e is case put-so =
      let t : List ℕ = drop (34 * k) s in
      let i = is-taken t x r (is_read x s k is) case in
      let own : as_read (rect_of t) ≡ r = taken_is t x r (is_read x s k is) case in
      let next : drop 34 t ≡ drop (34 * (k + 1)) s = drop-drop 34 (34 * k) s ∙ ap (λ (n : ℕ). drop n s) (more k) in
      let g = reading.good RECORDS s held.rects t held.rest (omega (arith, held.many)) (left-some m) i.0 in
      record {
        rects = held.rects ++ (r ∷ []);
        many = length-append held.rects (r ∷ []) ∙ ap (λ (n : ℕ). n + 1) held.many;
        are = ap (λ (n : ℕ). take n l') (fours k) ∙ ap (take (4 * k + 4)) put-so ∙ put-more (4 * k) r l (omega (arith, e))
            ∙ ap (λ (m : List Float). m ++ numbers_of (r ∷ [])) held.are ∙ numbers_more held.rects r;
        rest = subst (λ (u : List ℕ). reading.Held RECORDS s (held.rects ++ (r ∷ [])) u) next
            (subst (λ (o : Rect). reading.Held RECORDS s (held.rects ++ (o ∷ [])) (drop 34 t)) own g);
      }
    where
      more : (k : ℕ) → 34 * k + 34 ≡ 34 * (k + 1)
      more k = omega arith

      fours : (k : ℕ) → 4 * (k + 1) ≡ 4 * k + 4
      fours k = omega arith

  -- a fault
  pub bad : (x : Record) (w : Refusal) → k < 512 → 34 * k < length s → IsRead x s k → x ≡ Err w → stream_of s ≡ gathered (record { refusal = code w; count = k }) l
  unfolding stream_of record_number
  bad x w h at is case =
      let t : List ℕ = drop (34 * k) s in
      let i = is_read x s k is in
      let z = is-refused t x w i case in
      ap to_stream (reading.bad RECORDS s held.rects t held.rest (omega (arith, held.many)) (left-some at) z)
      ∙ ap (Fault (number_of t)) held.many ∙ sym (rw (sym (ap record_number case) ∙ i.number_is, ne_eqb (number_of t) 0 z) refl)

  -- nothing is left
  pub stops : length s ≤ 34 * k → stream_of s ≡ gathered (record { refusal = 0; count = k }) l
  unfolding stream_of
  stops h =
      ap to_stream (reading.ends RECORDS s held.rects (drop (34 * k) s) held.rest (omega (arith, length-drop (34 * k) s)))
      ∙ ap Numbers (sym held.are)

  -- 512 records are read
  beyond : k ≡ 512 → 34 * k < length s → stream_of s ≡ Fault (over_number (drop (34 * k) s)) k
  unfolding stream_of
  beyond e h = ap to_stream (reading.over RECORDS s held.rects (drop (34 * k) s) held.rest (held.many ∙ e) (left-some h)) ∙ ap (Fault (over_number (drop (34 * k) s))) held.many

  pub full : k ≡ 512 → stream_of s ≡ gathered (ended_with k s) l
  unfolding ended_with
  full e = go (leb (length s) (34 * k)) (leb-true (length s) (34 * k)) (leb-false (length s) (34 * k))
    where
      go : (t : Bool) → (t ≡ true → length s ≤ 34 * k) → (t ≡ false → 34 * k < length s)
          → stream_of s ≡ gathered (record { refusal = cond t 0 (over_number (drop (34 * k) s)); count = k }) l
      go true f g = stops (f refl)
      go false f g = beyond e (g refl) ∙ sym (rw (ne_eqb (over_number (drop (34 * k) s)) 0 (over-some (drop (34 * k) s))) refl)

-- ---- how it ended
pub ended-none : (s : List ℕ) (k : ℕ) → length s ≤ 34 * k → record { refusal = 0; count = k } ≡ ended_with k s
unfolding ended_with
ended-none s k h = simp (le-leb (length s) (34 * k) h)

pub ended_some : (s : List ℕ) (k n : ℕ) → 34 * k < length s → n ≡ over_number (take (length s - 34 * k) (drop (34 * k) s)) → record { refusal = n; count = k } ≡ ended_with k s
unfolding ended_with
ended_some s k n h e = simp (lt-leb (length s) (34 * k) h) (ap (λ (n : ℕ). record { refusal = n; count = k }) (e ∙ ap over_number (rest_of s (34 * k))))

pub ended-few : (s : List ℕ) (k : ℕ) (g : Gathered) → g ≡ ended_with k s → k ≤ 512 → g.count ≤ 512
unfolding ended_with
ended-few s k g e h = subst (λ (n : ℕ). n ≤ 512) (sym (ap (λ (x : Gathered). x.count) e)) h
