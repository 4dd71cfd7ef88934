-- What growth by a list and the running box by value answer: which refusal comes first, and what stands beside it; what is accepted is the running box
-- (proofs/RunningBox.antt). Assumes nothing.
use mathlib.Core.Path.{◌≡◌, refl, sym, ap, ◌∙◌, subst}
use mathlib.Core.Bool.{Bool, true, false, cond, false≢true}
use mathlib.Core.List.{List, [], ◌∷◌}
use mathlib.Core.Logic.{◌⊎◌, inl, inr, ◌↔◌}
use Prim.Native.Nat.{ℕ}
use native.Mathlib.Omega.{arith}
use borrow.Author.Tests.{eqb-true, eqb-false, eq-eqb, ne_eqb}
use lib.Dec.{eqb}
use lib.ListN.{length}
use lib.Ieee.{Float}
use Rattle.consts.specs.Refusal.{number, accepted, bad_point, bad_list, of_entry, first_refusal}
use Rattle.s2.specs.declared.latlng.LatLng.{LatLng}
use Rattle.s2.specs.declared.rect.Rect.{Rect}
use Rattle.s2.specs.declared.rect.Answer.{Answer}
use Rattle.s2.specs.Reading.{One}
use Rattle.s2.specs.Zone.{at, is_lat_lng}
use Rattle.s2.specs.Reading.{as_read, NoMinusRect}
use Rattle.s2.specs.Answers.{rect_answer, empty_under, add}
use Rattle.s2.specs.Refusals.{RectReason}
use Rattle.s2.specs.Places.{place_of, Valid, ValidPoint, holds, Inside, Doubles, DoublePoint}
use Rattle.s2.proofs.Readings.{one_in, valid-read, holds_read}
use Rattle.s2.proofs.Zeros.{read_plain, growth-plain as add-plain}
use Rattle.s2.proofs.Places.{point-place}
use Rattle.s2.proofs.Differences.{add-start-refused}
use Rattle.s2.proofs.Refusals.{never, number-when, reason-number}
use Rattle.entries.specs.Lists.{Mem, first, later, All, whole_length, whole}
use Rattle.entries.specs.First.{first_number}
use Rattle.lists.specs.Points.{points_of}
use Rattle.lists.specs.Refused.{of_rect, of_point, first_bad}
use Rattle.lists.proofs.Doubles.{accepted-valid, points-accepted, good-points, bad-among, points-decided}
use Rattle.growth.specs.declared.track.RunningAnswer.{RunningAnswer}
use Rattle.growth.specs.RunningBox.{after, running, accepted_of}
use Rattle.growth.specs.Growth.{under, start_of, grown_by, grow, ran_by, no_calls, ran}
use Rattle.growth.proofs.RunningBox.{read_same, run-valid, run_holds, point-held, all-accepted, no-entry, none-accepted, accepted-plain, accepted-call}
use Rattle.growth.proofs.Turns.{bad-length}

-- ---- a rectangle's own numbers are others than those of points and lists
pub own-not : {n : ℕ} {f : Rect → Bool} → RectReason n f → (m : ℕ) → of_entry m ≡ false → n ≡ m → ⊥
own-not w m h e = false≢true (sym h ∙ subst (λ (k : ℕ). of_entry k ≡ true) e (reason-number w))

-- ---- one of the points is bad
abbrev pub SomeBad : List LatLng → Type 0
SomeBad ps = (p : LatLng) × Mem p ps × (is_lat_lng p ≡ false)

-- ---- the start, before all points
module _ (r : Rect) (l : List Float) where
  -- its number is 5 for the list's length, else that of the rectangle
  start-number : (start_of r l).refusal ≡ cond (whole 2 4096 l) (of_rect r) (number bad_list)
  unfolding start_of
  start-number = go (whole 2 4096 l) (eqb (of_rect r) 0) refl
    where
      go : (s t : Bool) → eqb (of_rect r) 0 ≡ t → (cond s (cond t (rect_answer (as_read r)) (empty_under (of_rect r))) (under (number bad_list) r)).refusal ≡ cond s (of_rect r) (number bad_list)
      go true true e = sym (eqb-true (of_rect r) 0 e)
      go true false e = refl
      go false t e = refl

  -- each of these exactly when
  pub start-5 : ((start_of r l).refusal ≡ number bad_list) ↔ (whole 2 4096 l ≡ false)
  start-5 = ((λ h. there (whole 2 4096 l) refl (sym start-number ∙ h)), (λ w. start-number ∙ simp w))
    where
      there : (t : Bool) → whole 2 4096 l ≡ t → cond t (of_rect r) (number bad_list) ≡ number bad_list → whole 2 4096 l ≡ false
      there true w h = absurd (never r 5 (unfold of_entry in refl) h)
      there false w h = w

  pub start-own : {n : ℕ} {f : Rect → Bool} → RectReason n f → ((start_of r l).refusal ≡ n) ↔ ((whole 2 4096 l ≡ true) × (f r ≡ true))
  start-own {n} {f} w = ((λ h. there (whole 2 4096 l) refl (sym start-number ∙ h)), (λ h. start-number ∙ simp h.0 ((number-when w r).1 h.1)))
    where
      there : (t : Bool) → whole 2 4096 l ≡ t → cond t (of_rect r) (number bad_list) ≡ n → (whole 2 4096 l ≡ true) × (f r ≡ true)
      there true e h = (e, (number-when w r).0 h)
      there false e h = absurd (own-not w 5 (unfold of_entry in refl) (sym h))

  pub start-0 : Doubles r → ((start_of r l).refusal ≡ number accepted) ↔ ((whole 2 4096 l ≡ true) × Valid r)
  start-0 d = ((λ h. there (whole 2 4096 l) refl (sym start-number ∙ h)), (λ h. start-number ∙ simp h.0 (ap (λ (x : One). x.refusal) (one_in r h.1))))
    where
      there : (t : Bool) → whole 2 4096 l ≡ t → cond t (of_rect r) (number bad_list) ≡ number accepted → (whole 2 4096 l ≡ true) × Valid r
      there true e h = (e, accepted-valid r d h)
      there false e h = absurd (omega (arith, h))

  -- and what is then there
  pub start-in : whole 2 4096 l ≡ true → Valid r → start_of r l ≡ rect_answer (as_read r)
  unfolding start_of
  start-in w v = simp (w, one_in r v)

  pub start-out : whole 2 4096 l ≡ true → (of_rect r ≡ 0 → ⊥) → start_of r l ≡ empty_under (of_rect r)
  unfolding start_of
  start-out w h = simp (w, ne_eqb (of_rect r) 0 h)

-- ---- growth by a list: its refusals, in their order
-- 5 comes first and hands the start back as it came, whatever it is
pub list-refused : (r : Rect) (l : List Float) → whole 2 4096 l ≡ false → grow r l ≡ under (number bad_list) r
unfolding grow
list-refused r l w = simp (bad-length r l w)

-- then the start's own number, with the standard empty, whatever the points are
pub start-refused : (r : Rect) (l : List Float) → whole 2 4096 l ≡ true → (of_rect r ≡ 0 → ⊥) → grow r l ≡ empty_under (of_rect r)
unfolding grow
start-refused r l w h = simp (start-out r l w h, ne_eqb (of_rect r) 0 h)

-- then 3 where one of the points is bad: the start comes back as it came
pub grown-valid : (r : Rect) (l : List Float) → whole 2 4096 l ≡ true → Valid r → grow r l ≡ grown_by r (points_of l)
unfolding grow
grown-valid r l w v = simp (start-in r l w v)

pub bad-point : (r : Rect) (l : List Float) → whole 2 4096 l ≡ true → Valid r → (p : LatLng) → Mem p (points_of l) → is_lat_lng p ≡ false → grow r l ≡ under (number bad_point) r
unfolding grown_by
bad-point r l w v p m h = grown-valid r l w v ∙ simp (bad-among m h)

-- ---- accepted exactly when the list is of whole points, the start valid and each point valid
pub record Accepted (r : Rect) (l : List Float) : Type 0 where
  pub whole : whole 2 4096 l ≡ true
  pub start : Valid r
  pub points : All ValidPoint (points_of l)

-- what is then answered: the running box, as it is read; every call was accepted
pub accepted-is : (r : Rect) (l : List Float) → Accepted r l → grow r l ≡ rect_answer (as_read (running r (points_of l)))
unfolding grown_by
accepted-is r l a = grown-valid r l a.whole a.start ∙ simp (good-points (points_of l) a.points)

-- ---- the numbers of growth: the start's own, or that of the first bad point, which is 3
module _ (r : Rect) (l : List Float) where
  grow-number : (grow r l).refusal ≡ first_refusal (start_of r l).refusal (first_bad (points_of l))
  unfolding grow grown_by first_refusal
  grow-number = go (eqb (start_of r l).refusal 0) (eqb (first_bad (points_of l)) 0) refl
    where
      go : (s t : Bool) → eqb (first_bad (points_of l)) 0 ≡ t
          → (cond s (cond t (rect_answer (as_read (running r (points_of l)))) (under (first_bad (points_of l)) r)) (start_of r l)).refusal ≡ cond s (first_bad (points_of l)) (start_of r l).refusal
      go true true e = sym (eqb-true (first_bad (points_of l)) 0 e)
      go true false e = refl
      go false t e = refl

  -- so a number that no point has is the start's
  pub of-start : (n : ℕ) → (n ≡ 0 → ⊥) → (n ≡ 3 → ⊥) → ((grow r l).refusal ≡ n) ↔ ((start_of r l).refusal ≡ n)
  unfolding first_refusal
  of-start n not-0 not-3 = ((λ h. there (eqb (start_of r l).refusal 0) refl (points-decided (points_of l)) (sym grow-number ∙ h)), back)
    where
      there : (t : Bool) → eqb (start_of r l).refusal 0 ≡ t → (first_bad (points_of l) ≡ 0) ⊎ SomeBad (points_of l)
          → cond t (first_bad (points_of l)) (start_of r l).refusal ≡ n → (start_of r l).refusal ≡ n
      there true e (inl k) h = absurd (not-0 (sym h ∙ k))
      there true e (inr k) h = absurd (not-3 (sym h ∙ bad-among k.1 k.2))
      there false e k h = h

      back : (start_of r l).refusal ≡ n → (grow r l).refusal ≡ n
      back h = grow-number ∙ simp (h, ne_eqb n 0 not-0)

  -- 3 and 0 are the points'
  pub bad-exactly : Doubles r → ((grow r l).refusal ≡ number bad_point) ↔ ((whole 2 4096 l ≡ true) × Valid r × SomeBad (points_of l))
  unfolding first_refusal
  bad-exactly d = ((λ h. there (eqb (start_of r l).refusal 0) refl (points-decided (points_of l)) (sym grow-number ∙ h)), back)
    where
      there : (t : Bool) → eqb (start_of r l).refusal 0 ≡ t → (first_bad (points_of l) ≡ 0) ⊎ SomeBad (points_of l)
          → cond t (first_bad (points_of l)) (start_of r l).refusal ≡ number bad_point → (whole 2 4096 l ≡ true) × Valid r × SomeBad (points_of l)
      there true e (inl k) h = absurd (omega (arith, h, k))
      there true e (inr k) h = let s = (start-0 r l d).0 (eqb-true (start_of r l).refusal 0 e) in (s.0, s.1, k)
      there false e k h = absurd (never-3 (whole 2 4096 l) (sym (start-number r l) ∙ h))
        where
          never-3 : (t : Bool) → cond t (of_rect r) (number bad_list) ≡ 3 → ⊥
          never-3 true z = never r 3 (unfold of_entry in refl) z
          never-3 false z = omega (arith, z)

      back : (whole 2 4096 l ≡ true) × Valid r × SomeBad (points_of l) → (grow r l).refusal ≡ number bad_point
      back h = ap (λ (x : Answer). x.refusal) (bad-point r l h.0 h.1 h.2.0 h.2.1 h.2.2)

  pub accepted-exactly : Doubles r → All DoublePoint (points_of l) → ((grow r l).refusal ≡ number accepted) ↔ Accepted r l
  unfolding first_refusal
  accepted-exactly d e = ((λ h. there (eqb (start_of r l).refusal 0) refl (sym grow-number ∙ h)), (λ a. ap (λ (x : Answer). x.refusal) (accepted-is r l a)))
    where
      there : (t : Bool) → eqb (start_of r l).refusal 0 ≡ t → cond t (first_bad (points_of l)) (start_of r l).refusal ≡ number accepted → Accepted r l
      there true q h =
          let s = (start-0 r l d).0 (eqb-true (start_of r l).refusal 0 q) in
          record { whole = s.0; start = s.1; points = (points-accepted (points_of l) e).0 h }
      there false q h = absurd (eqb-false (start_of r l).refusal 0 q h)

-- by a list of one point it is the public growth by that point, for any numbers whatever
module _ (r : Rect) (a b : Float) where
  abbrev p : LatLng
  p = at a b

  -- a start and a point that are accepted: one call is made
  module _ (e : of_rect r ≡ 0) (h : of_point p ≡ 0) where
    one-call : grow r (a ∷ (b ∷ [])) ≡ rect_answer (as_read (after r p))
    unfolding grow start_of grown_by whole_length points_of first_number first_refusal running
    one-call = simp (eq-eqb (of_rect r) 0 e, eq-eqb (of_point p) 0 h)

    one-accepted : add r p ≡ rect_answer (add r p).value
    unfolding add
    one-accepted = simp (eq-eqb (of_rect r) 0 e, eq-eqb (of_point p) 0 h)

    one-good : grow r (a ∷ (b ∷ [])) ≡ add r p
    one-good =
        let n = ap (λ (x : Answer). x.refusal) one-accepted in
        one-call ∙ ap (λ (x : Rect). rect_answer (as_read x)) (accepted-call r p n) ∙ ap rect_answer (read_same (add r p).value (add-plain r p n)) ∙ sym one-accepted

  one-bad : of_rect r ≡ 0 → (of_point p ≡ 0 → ⊥) → grow r (a ∷ (b ∷ [])) ≡ add r p
  unfolding grow start_of grown_by whole_length points_of first_number first_refusal add
  one-bad e h = simp (eq-eqb (of_rect r) 0 e, ne_eqb (of_point p) 0 h)

  pub one-point : grow r (a ∷ (b ∷ [])) ≡ add r p
  one-point = go (eqb (of_rect r) 0) (eqb (of_point p) 0) refl refl
    where
      go : (s t : Bool) → eqb (of_rect r) 0 ≡ s → eqb (of_point p) 0 ≡ t → grow r (a ∷ (b ∷ [])) ≡ add r p
      go true true e h = one-good (eqb-true (of_rect r) 0 e) (eqb-true (of_point p) 0 h)
      go true false e h = one-bad (eqb-true (of_rect r) 0 e) (eqb-false (of_point p) 0 h)
      go false t e h = start-refused r (a ∷ (b ∷ [])) (unfold whole_length in refl) (eqb-false (of_rect r) 0 e) ∙ sym (add-start-refused r p (eqb-false (of_rect r) 0 e))

-- ---- an accepted growth is valid, has no negative zero, and holds every place of the start and each of the points
pub record Grown (g r : Rect) (ps : List LatLng) : Type 0 where
  pub is-valid : Valid g
  pub no_minus : NoMinusRect g
  pub holds-start : Inside g r
  pub holds-points : (p : LatLng) → Mem p ps → holds g (place_of p) ≡ true

pub doubles-of : (ps : List LatLng) → All ValidPoint ps → All DoublePoint ps
doubles-of [] q = tt
doubles-of (p ∷ l) q = (record { lat-double = q.0.lat-double; lng-double = q.0.lng-double }, doubles-of l q.1)

valid-at : {p : LatLng} (ps : List LatLng) → All ValidPoint ps → Mem p ps → ValidPoint p
valid-at [] q x = elim x [ ]
valid-at (p ∷ l) q first = q.0
valid-at (o ∷ l) q (later m) = valid-at l q.1 m

run-grown : (r : Rect) (ps : List LatLng) → Valid r → All ValidPoint ps → Grown (as_read (running r ps)) r ps
run-grown r ps v q =
    let d = doubles-of ps q in
    let w = run-valid r ps v d in
    record {
      is-valid = valid-read w;
      no_minus = read_plain (running r ps);
      holds-start = λ at c h. holds_read (running r ps) w at c ∙ run_holds r ps v d at c h;
      holds-points = λ p m. let k = valid-at ps q m in holds_read (running r ps) w (place_of p) (point-place k) ∙ point-held r ps v d m k;
    }

pub growth-holds : (r : Rect) (l : List Float) → Accepted r l → Grown (grow r l).value r (points_of l)
growth-holds r l a = subst (λ (x : Answer). Grown x.value r (points_of l)) (sym (accepted-is r l a)) (run-grown r (points_of l) a.start a.points)

pub growth-plain : (r : Rect) (l : List Float) → Doubles r → All DoublePoint (points_of l) → (grow r l).refusal ≡ 0 → NoMinusRect (grow r l).value
growth-plain r l d e h = (growth-holds r l ((accepted-exactly r l d e).0 h)).no_minus

-- ---- growth by a list is the running box: every call is accepted, and after a call the box has been read
pub growth-runs : (r : Rect) (l : List Float) → Accepted r l → (points_of l ≡ [] → ⊥) → grow r l ≡ rect_answer (running r (points_of l))
growth-runs r l a n =
    accepted-is r l a ∙ ap rect_answer (read_same (running r (points_of l)) (accepted-plain r (points_of l) a.start (doubles-of (points_of l) a.points) some))
  where
    some : length (accepted_of r (points_of l)) ≡ 0 → ⊥
    some z = n (no-entry (points_of l) (sym (ap length (all-accepted r (points_of l) a.start a.points)) ∙ z))

-- ---- the running box by value: its number is the start's
module _ (r : Rect) (l : List Float) where
  pub ran-number : (ran r l).refusal ≡ (start_of r l).refusal
  unfolding ran ran_by
  ran-number = go (eqb (start_of r l).refusal 0) refl
    where
      go : (t : Bool) → eqb (start_of r l).refusal 0 ≡ t → (cond t (ran_by r (points_of l)) (no_calls (start_of r l))).refusal ≡ (start_of r l).refusal
      go true e = sym (eqb-true (start_of r l).refusal 0 e)
      go false e = refl

  pub ran-list-refused : whole 2 4096 l ≡ false → ran r l ≡ no_calls (under (number bad_list) r)
  unfolding ran
  ran-list-refused w = simp (bad-length r l w)

  pub ran-start-refused : whole 2 4096 l ≡ true → (of_rect r ≡ 0 → ⊥) → ran r l ≡ no_calls (empty_under (of_rect r))
  unfolding ran
  ran-start-refused w h = simp (start-out r l w h, ne_eqb (of_rect r) 0 h)

  pub ran-are : whole 2 4096 l ≡ true → Valid r → ran r l ≡ record { refusal = number accepted; accepted = length (accepted_of r (points_of l)); value = running r (points_of l) }
  unfolding ran ran_by
  ran-are w v = simp (start-in r l w v)

  -- a start's own number n, for its reason
  pub ran-own : {n : ℕ} {f : Rect → Bool} → RectReason n f → whole 2 4096 l ≡ true → f r ≡ true → ran r l ≡ no_calls (empty_under n)
  ran-own {n} w h k =
      let e = (number-when w r).1 k in
      ran-start-refused h (λ z. own-not w 0 (unfold of_entry in refl) (sym e ∙ z)) ∙ ap (λ (m : ℕ). no_calls (empty_under m)) e

  -- the bits, and the zeros
  pub ran-kept : whole 2 4096 l ≡ true → Valid r → (ran r l).accepted ≡ 0 → (ran r l).value ≡ r
  ran-kept w v h = ap (λ (a : RunningAnswer). a.value) (ran-are w v) ∙ none-accepted r (points_of l) (ap (λ (a : RunningAnswer). a.accepted) (sym (ran-are w v)) ∙ h)

  pub ran-plain : Doubles r → All DoublePoint (points_of l) → (ran r l).refusal ≡ number accepted → ((ran r l).accepted ≡ 0 → ⊥) → NoMinusRect (ran r l).value
  ran-plain d e h n =
      let s = (start-0 r l d).0 (sym ran-number ∙ h) in
      let is = ran-are s.0 s.1 in
      subst (λ (a : RunningAnswer). NoMinusRect a.value) (sym is) (accepted-plain r (points_of l) s.1 e (λ z. n (ap (λ (a : RunningAnswer). a.accepted) is ∙ z)))
