-- Rectangles from and to numbers: either way undoes the other, entry by entry, at the front and from an entry on; what is put into a list; what is read again.
-- By the definitions' own cases. Assumes nothing.
use mathlib.Core.Path.{◌≡◌, refl, sym, ap, ◌∙◌}
use mathlib.Core.Bool.{Bool, true, false, cond}
use mathlib.Core.List.{List, [], ◌∷◌, ◌++◌, append-nil}
use Prim.Native.Nat.{ℕ, zero, suc, ◌+◌, ◌*◌, ◌/◌, ◌%◌, ◌≤◌, ◌<◌}
use native.Mathlib.Nat.{not-suc-le-zero}
use native.Mathlib.Numerals.{add-one}
use native.Mathlib.Omega.{arith}
use borrow.Author.Tests.{le-leb, lt-leb}
use lib.ListN.{length, take, drop, get_or, set, length-append, get_or-eq_default}
use Rattle.std.proofs.lemmas.List.{get_or-drop}
use lib.Seq.{drop-cons, drop-length, drop-nil, take-nil, sets, sets-eq, length-sets, take_at, length-take-le}
use lib.Dec.{leb}
use lib.Ieee.{Float, nan}
use Rattle.consts.proofs.Readings.{plain-plain}
use Rattle.r1.specs.Line as line
use Rattle.s1.specs.Circle as circle
use Rattle.s2.specs.declared.rect.Rect.{Rect}
use Rattle.s2.specs.Zone.{box}
use Rattle.s2.specs.Reading.{as_read}
use Rattle.entries.specs.Lists.{All}
use Rattle.lists.specs.Rects.{rects_of, rect_at, numbers_of, put_rect, as_read_all}

-- ---- one rectangle more
pub four : (l : List Float) (i : ℕ) → i + 3 < length l → rects_of (drop i l) ≡ rect_at l i ∷ rects_of (drop (i + 4) l)
unfolding rects_of
four l i h =
    rw (drop-cons l i nan (omega arith), drop-cons l (suc i) nan (omega arith), drop-cons l (suc (suc i)) nan (omega arith), drop-cons l (suc (suc (suc i))) nan (omega arith))
    (rw (add-one i, two i, three i, more i) refl)
  where
    two : (k : ℕ) → k + 2 ≡ suc (suc k)
    two k = omega arith

    three : (k : ℕ) → k + 3 ≡ suc (suc (suc k))
    three k = omega arith

    more : (k : ℕ) → k + 4 ≡ suc (suc (suc (suc k)))
    more k = omega arith

pub none_left : (l : List Float) → rects_of (drop (length l) l) ≡ []
unfolding rects_of
none_left l = rw (drop-length l) refl

-- past the end there is no number
pub past_end : (l : List Float) (i : ℕ) → length l ≤ i → rect_at l i ≡ box (line.ends nan nan) (circle.ends nan nan)
past_end l i h =
    rw (get_or-eq_default l nan h, get_or-eq_default l nan {n = i + 1} (omega arith), get_or-eq_default l nan {n = i + 2} (omega arith), get_or-eq_default l nan {n = i + 3} (omega arith))
    refl

-- the rectangle that what is left begins with
pub rect_from : (l : List Float) (i : ℕ)
    → box (line.ends (get_or (drop i l) 0 nan) (get_or (drop i l) 1 nan)) (circle.ends (get_or (drop i l) 2 nan) (get_or (drop i l) 3 nan)) ≡ rect_at l i
rect_from l i = rw (get_or-drop i l 0 nan, get_or-drop i l 1 nan, get_or-drop i l 2 nan, get_or-drop i l 3 nan, none i) refl
  where
    none : (i : ℕ) → i + 0 ≡ i
    none i = omega arith

-- ---- lengths
pub length-rects : (l : List Float) → length (rects_of l) ≡ length l / 4
unfolding rects_of
length-rects [] = refl
length-rects (a ∷ []) = refl
length-rects (a ∷ (b ∷ [])) = refl
length-rects (a ∷ (b ∷ (c ∷ []))) = refl
length-rects (a ∷ (b ∷ (c ∷ (d ∷ l)))) = omega (arith, length-rects l)

pub length-numbers : (rs : List Rect) → length (numbers_of rs) ≡ 4 * length rs
unfolding numbers_of
length-numbers [] = refl
length-numbers (r ∷ rs) = omega (arith, length-numbers rs)

-- ---- there and back
pub rects-numbers : (rs : List Rect) → rects_of (numbers_of rs) ≡ rs
unfolding numbers_of rects_of
rects-numbers [] = refl
rects-numbers (r ∷ rs) = ap (λ (l : List Rect). r ∷ l) (rects-numbers rs)

pub numbers-rects : (l : List Float) → length l % 4 ≡ 0 → numbers_of (rects_of l) ≡ l
unfolding numbers_of rects_of
numbers-rects [] h = refl
numbers-rects (a ∷ []) h = absurd (omega arith)
numbers-rects (a ∷ (b ∷ [])) h = absurd (omega arith)
numbers-rects (a ∷ (b ∷ (c ∷ []))) h = absurd (omega arith)
numbers-rects (a ∷ (b ∷ (c ∷ (d ∷ l)))) h = ap (λ (m : List Float). a ∷ (b ∷ (c ∷ (d ∷ m)))) (numbers-rects l (omega arith))

-- ---- one list after another
pub numbers-append : (rs os : List Rect) → numbers_of (rs ++ os) ≡ numbers_of rs ++ numbers_of os
unfolding numbers_of
numbers-append [] os = refl
numbers-append (r ∷ rs) os = ap (λ (m : List Float). r.lat.lo ∷ (r.lat.hi ∷ (r.lng.lo ∷ (r.lng.hi ∷ m)))) (numbers-append rs os)

pub rects-append : (rs : List Rect) (l : List Float) → rects_of (numbers_of rs ++ l) ≡ rs ++ rects_of l
unfolding numbers_of rects_of
rects-append [] l = refl
rects-append (r ∷ rs) l = ap (λ (m : List Rect). r ∷ m) (rects-append rs l)

-- ---- entries at the front, and from an entry on
fours : (k : ℕ) → 4 * suc k ≡ suc (suc (suc (suc (4 * k))))
fours k = omega arith

pub numbers-take : (k : ℕ) (rs : List Rect) → take (4 * k) (numbers_of rs) ≡ numbers_of (take k rs)
unfolding numbers_of
numbers-take zero rs = refl
numbers-take (suc k) [] = take-nil (4 * suc k)
numbers-take (suc k) (r ∷ rs) =
    ap (λ (i : ℕ). take i (numbers_of (r ∷ rs))) (fours k) ∙ ap (λ (m : List Float). r.lat.lo ∷ (r.lat.hi ∷ (r.lng.lo ∷ (r.lng.hi ∷ m)))) (numbers-take k rs)

pub numbers-drop : (k : ℕ) (rs : List Rect) → drop (4 * k) (numbers_of rs) ≡ numbers_of (drop k rs)
unfolding numbers_of
numbers-drop zero rs = refl
numbers-drop (suc k) [] = drop-nil (4 * suc k)
numbers-drop (suc k) (r ∷ rs) = ap (λ (i : ℕ). drop i (numbers_of (r ∷ rs))) (fours k) ∙ numbers-drop k rs

pub rects-take : (k : ℕ) (l : List Float) → rects_of (take (4 * k) l) ≡ take k (rects_of l)
unfolding rects_of
rects-take zero l = refl
rects-take (suc k) [] = ap rects_of (take-nil (4 * suc k))
rects-take (suc k) (a ∷ []) = ap (λ (i : ℕ). rects_of (take i (a ∷ []))) (fours k)
rects-take (suc k) (a ∷ (b ∷ [])) = ap (λ (i : ℕ). rects_of (take i (a ∷ (b ∷ [])))) (fours k)
rects-take (suc k) (a ∷ (b ∷ (c ∷ []))) = ap (λ (i : ℕ). rects_of (take i (a ∷ (b ∷ (c ∷ []))))) (fours k)
rects-take (suc k) (a ∷ (b ∷ (c ∷ (d ∷ l)))) =
    ap (λ (i : ℕ). rects_of (take i (a ∷ (b ∷ (c ∷ (d ∷ l)))))) (fours k) ∙ ap (λ (m : List Rect). rect_at (a ∷ (b ∷ (c ∷ (d ∷ l)))) 0 ∷ m) (rects-take k l)

pub rects-drop : (k : ℕ) (l : List Float) → rects_of (drop (4 * k) l) ≡ drop k (rects_of l)
unfolding rects_of
rects-drop zero l = refl
rects-drop (suc k) [] = ap rects_of (drop-nil (4 * suc k))
rects-drop (suc k) (a ∷ []) = ap (λ (i : ℕ). rects_of (drop i (a ∷ []))) (fours k) ∙ ap rects_of (drop-nil (suc (suc (suc (4 * k)))))
rects-drop (suc k) (a ∷ (b ∷ [])) = ap (λ (i : ℕ). rects_of (drop i (a ∷ (b ∷ [])))) (fours k) ∙ ap rects_of (drop-nil (suc (suc (4 * k))))
rects-drop (suc k) (a ∷ (b ∷ (c ∷ []))) = ap (λ (i : ℕ). rects_of (drop i (a ∷ (b ∷ (c ∷ []))))) (fours k) ∙ ap rects_of (drop-nil (suc (4 * k)))
rects-drop (suc k) (a ∷ (b ∷ (c ∷ (d ∷ l)))) = ap (λ (i : ℕ). rects_of (drop i (a ∷ (b ∷ (c ∷ (d ∷ l)))))) (fours k) ∙ rects-drop k l

-- the entry k stands at the number 4 k
pub rect-entry : (l : List Float) (k : ℕ) (r : Rect) → k < length (rects_of l) → get_or (rects_of l) k r ≡ rect_at l (4 * k)
unfolding rects_of
rect-entry [] k r h = absurd (not-suc-le-zero h)
rect-entry (a ∷ []) k r h = absurd (not-suc-le-zero h)
rect-entry (a ∷ (b ∷ [])) k r h = absurd (not-suc-le-zero h)
rect-entry (a ∷ (b ∷ (c ∷ []))) k r h = absurd (not-suc-le-zero h)
rect-entry (a ∷ (b ∷ (c ∷ (d ∷ l)))) zero r h = refl
rect-entry (a ∷ (b ∷ (c ∷ (d ∷ l)))) (suc k) r h =
    rect-entry l k r (omega arith) ∙ sym (rw (fours k, one k, two k, three k) refl)
  where
    one : (k : ℕ) → suc (suc (suc (suc (4 * k)))) + 1 ≡ suc (suc (suc (suc (4 * k + 1))))
    one k = omega arith

    two : (k : ℕ) → suc (suc (suc (suc (4 * k)))) + 2 ≡ suc (suc (suc (suc (4 * k + 2))))
    two k = omega arith

    three : (k : ℕ) → suc (suc (suc (suc (4 * k)))) + 3 ≡ suc (suc (suc (suc (4 * k + 3))))
    three k = omega arith

-- four numbers are one rectangle
pub one-rect : (l : List Float) → length l ≡ 4 → numbers_of (rect_at l 0 ∷ []) ≡ l
unfolding numbers_of rects_of
one-rect [] h = absurd (omega arith)
one-rect (a ∷ []) h = absurd (omega arith)
one-rect (a ∷ (b ∷ [])) h = absurd (omega arith)
one-rect (a ∷ (b ∷ (c ∷ []))) h = absurd (omega arith)
one-rect (a ∷ (b ∷ (c ∷ (d ∷ [])))) h = refl
one-rect (a ∷ (b ∷ (c ∷ (d ∷ (e ∷ l))))) h = absurd (omega arith)

-- ---- numbers put into a list, one by one
pub sets-take : {A : Type 0} (vs l : List A) (i : ℕ) → i + length vs ≤ length l → take (i + length vs) (sets l i vs) ≡ take i l ++ vs
sets-take vs l i h =
    ap (take (i + length vs)) (sets-eq vs l i h)
    ∙ take_at (take i l ++ vs) (drop (i + length vs) l) (i + length vs)
    (length-append (take i l) vs ∙ ap (λ (n : ℕ). n + length vs) (length-take-le i l (omega arith)))

pub four-stores : {A : Type 0} (l : List A) (i : ℕ) (a b c d : A)
    → set (set (set (set l i a) (i + 1) b) (i + 2) c) (i + 3) d ≡ sets l i (a ∷ (b ∷ (c ∷ (d ∷ []))))
four-stores l i a b c d = rw (add-one i, two i, three i) refl
  where
    two : (n : ℕ) → n + 2 ≡ suc (suc n)
    two n = omega arith

    three : (n : ℕ) → n + 3 ≡ suc (suc (suc n))
    three n = omega arith

module _ (i : ℕ) (r : Rect) (l : List Float) where
  pub no-room : length l < i + 4 → put_rect i r l ≡ l
  unfolding put_rect
  no-room h = rw (lt-leb (i + 4) (length l) h) refl

  pub put-stores : i + 4 ≤ length l → put_rect i r l ≡ set (set (set (set l i r.lat.lo) (i + 1) r.lat.hi) (i + 2) r.lng.lo) (i + 3) r.lng.hi
  unfolding put_rect numbers_of
  put-stores h = rw (le-leb (i + 4) (length l) h) (sym (four-stores l i r.lat.lo r.lat.hi r.lng.lo r.lng.hi))

  -- what stands before and after them stays
  pub put_is : i + 4 ≤ length l → put_rect i r l ≡ take i l ++ numbers_of (r ∷ []) ++ drop (i + 4) l
  unfolding put_rect numbers_of
  put_is h = rw (le-leb (i + 4) (length l) h) (sets-eq (r.lat.lo ∷ (r.lat.hi ∷ (r.lng.lo ∷ (r.lng.hi ∷ [])))) l i h)

  pub put-take : i + 4 ≤ length l → take (i + 4) (put_rect i r l) ≡ take i l ++ numbers_of (r ∷ [])
  unfolding put_rect numbers_of
  put-take h = rw (le-leb (i + 4) (length l) h) (sets-take (r.lat.lo ∷ (r.lat.hi ∷ (r.lng.lo ∷ (r.lng.hi ∷ [])))) l i h)

-- into four numbers
pub put_one : (r : Rect) (l : List Float) → length l ≡ 4 → put_rect 0 r l ≡ numbers_of (r ∷ [])
put_one r l h =
    let none : drop 4 l ≡ [] = ap (λ (n : ℕ). drop n l) (sym h) ∙ drop-length l in
    put_is 0 r l (omega arith) ∙ ap (λ (t : List Float). numbers_of (r ∷ []) ++ t) none ∙ append-nil (numbers_of (r ∷ []))

pub length-put : (i : ℕ) (r : Rect) (l : List Float) → length (put_rect i r l) ≡ length l
unfolding put_rect
length-put i r l = go (leb (i + 4) (length l))
  where
    go : (t : Bool) → length (cond t (sets l i (numbers_of (r ∷ []))) l) ≡ length l
    go true = length-sets l i (numbers_of (r ∷ []))
    go false = refl

-- ---- as they are read: what has been read stays as it is
pub read-read : (r : Rect) → as_read (as_read r) ≡ as_read r
unfolding as_read
read-read r =
    λ i. record {
      lat = record { lo = plain-plain r.lat.lo i; hi = plain-plain r.lat.hi i };
      lng = record { lo = plain-plain r.lng.lo i; hi = plain-plain r.lng.hi i };
    }

pub length-read : (l : List Rect) → length (as_read_all l) ≡ length l
unfolding as_read_all
length-read [] = refl
length-read (r ∷ l) = ap suc (length-read l)

pub read_all : (l : List Rect) → All (λ r. as_read r ≡ r) (as_read_all l)
unfolding as_read_all
read_all [] = tt
read_all (r ∷ l) = (read-read r, read_all l)

pub read_again : (l : List Rect) → All (λ r. as_read r ≡ r) l → as_read_all l ≡ l
unfolding as_read_all
read_again [] a = refl
read_again (r ∷ l) a = rw (a.0, read_again l a.1) refl

-- the names that src/ cites
pub no_room : (i : ℕ) (r : Rect) (l : List Float) → length l < i + 4 → put_rect i r l ≡ l
no_room = no-room

pub put_stores : (i : ℕ) (r : Rect) (l : List Float) → i + 4 ≤ length l
    → put_rect i r l ≡ set (set (set (set l i r.lat.lo) (i + 1) r.lat.hi) (i + 2) r.lng.lo) (i + 3) r.lng.hi
put_stores = put-stores
