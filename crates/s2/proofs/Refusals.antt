-- Each refusal number is given exactly when documents 01 and 02 say, with the result stated beside it: an answer's number is its reading's; the number of several
-- operands is that of the first that is refused, whatever they are; and an operand's own number is a choice by tests, whose cases are gone through. Assumes nothing.
use mathlib.Core.Path.{◌≡◌, refl, sym, ap, subst, ◌∙◌}
use mathlib.Core.Bool.{Bool, true, false, not, ◌&&◌, ◌||◌, cond, false≢true}
use mathlib.Core.Logic.{◌↔◌}
use Prim.Native.Nat.{ℕ}
use lib.Dec.{T, eqb, eqb→eq}
use borrow.Author.Tests.{eq-eqb, ne_eqb, eqb-true, eqb-false}
use Rattle.order.proofs.Ranks.{and_l, and_r}
use Rattle.consts.specs.Refusal.{of_entry, first_fault, first_refusal, given}
use Rattle.consts.specs.Answer.{yes_no, no_under, test}
use Rattle.consts.specs.Reading.{in_reach, read_number}
use Rattle.s2.specs.declared.latlng.LatLng.{LatLng}
use Rattle.s2.specs.declared.rect.Rect.{Rect}
use Rattle.s2.specs.declared.rect.Answer.{Answer}
use Rattle.s2.specs.declared.rect.PointAnswer.{PointAnswer}
use Rattle.consts.specs.declared.answer.YesNo.{YesNo}
use Rattle.s1.specs.Circle as circle
use Rattle.s2.specs.Zone as zone
use Rattle.s2.specs.Reading.{rect_in_reach, fault_of, read_one, read_two, read_point, read_margins, read_with_point, read_with_margins}
use Rattle.s2.specs.Answers.{rect_answer, empty_under, rectangle, lat_lng_answer, zeros_under, point, is_lat_lng, from_lat_lng, from_center_size, from_point_pair}
use Rattle.s2.specs.Answers.{is_valid, is_empty, is_full, is_point, is_inverted, vertex, center, size, expanded, polar_closure, union, intersection, intersects}
use Rattle.s2.specs.Answers.{interior_intersects, contains, interior_contains, contains_lat_lng, interior_contains_lat_lng, add, eq, approx_eq, approx_eq_by}
use Rattle.s2.specs.Refusals.{faulty, over_latitude, wrong_circle, unlike_parts, sound, RectReason, of-reach, of-latitudes, of-circle, of_parts, margins_in_reach, Exactly, SaysNo, GivesEmpty, GivesZeros, GivesBack, Alone, Both, WithPoint}

-- ---- an answer's number
told : (m n : ℕ) {t : Bool} → eqb m n ≡ t → (m ≡ n) ↔ (t ≡ true)
told m n e = ((λ h. sym e ∙ eq-eqb m n h), (λ h. eqb→eq m n (subst T (sym (e ∙ h)) tt)))

module _ {A : Type 0} (number_of : A → ℕ) (answer : A) (under : ℕ → A) (zero : number_of answer ≡ 0) (same : (k : ℕ) → number_of (under k) ≡ k) where
  number_is : (m : ℕ) → number_of (given m answer (under m)) ≡ m
  number_is m = go (eqb m 0) refl
    where
      go : (b : Bool) → eqb m 0 ≡ b → number_of (cond b answer (under m)) ≡ m
      go true e = zero ∙ sym ((told m 0 e).1 refl)
      go false e = same m

  exactly-when : (m n : ℕ) {t : Bool} → eqb m n ≡ t → Exactly number_of (given m answer (under m)) (under n) n t
  exactly-when m n e =
      record {
        exactly = ((λ h. (told m n e).0 (sym (number_is m) ∙ h)), (λ h. number_is m ∙ (told m n e).1 h));
        result = λ z h. simp ((told m n e).1 h, ne_eqb n 0 z);
      }

says-no : (m n : ℕ) (b : Bool) {t : Bool} → eqb m n ≡ t → SaysNo (test m b) n t
says-no m n b = exactly-when (λ (x : YesNo). x.refusal) (yes_no b) no_under refl (λ k. refl) m n

gives-empty : (m n : ℕ) (r : Rect) {t : Bool} → eqb m n ≡ t → GivesEmpty (rectangle m r) n t
gives-empty m n r = exactly-when (λ (x : Answer). x.refusal) (rect_answer r) empty_under refl (λ k. refl) m n

gives-zeros : (m n : ℕ) (p : LatLng) {t : Bool} → eqb m n ≡ t → GivesZeros (point m p) n t
gives-zeros m n p = exactly-when (λ (x : PointAnswer). x.refusal) (lat_lng_answer p) zeros_under refl (λ k. refl) m n

-- ---- each operation of a kind
alone : (r : Rect) (k n : ℕ) {t : Bool} → eqb (read_one r).refusal n ≡ t → Alone r k n t
unfolding is_valid is_empty is_full is_point is_inverted vertex center size polar_closure
alone r k n e = (
  says-no _ n _ e,
  says-no _ n _ e,
  says-no _ n _ e,
  says-no _ n _ e,
  says-no _ n _ e,
  gives-zeros _ n _ e,
  gives-zeros _ n _ e,
  gives-zeros _ n _ e,
  gives-empty _ n _ e,
)

both : (r o : Rect) (n : ℕ) {t : Bool} → eqb (read_two r o).refusal n ≡ t → Both r o n t
unfolding union intersection intersects interior_intersects contains interior_contains eq approx_eq
both r o n e = (
  gives-empty _ n _ e,
  gives-empty _ n _ e,
  says-no _ n _ e,
  says-no _ n _ e,
  says-no _ n _ e,
  says-no _ n _ e,
  says-no _ n _ e,
  says-no _ n _ e,
)

with-point : (r : Rect) (p : LatLng) (n : ℕ) {t : Bool} → eqb (read_with_point r p).refusal n ≡ t → WithPoint r p n t
unfolding contains_lat_lng interior_contains_lat_lng
with-point r p n e = (says-no _ n _ e, says-no _ n _ e)

-- ---- several operands: the number of the first that is refused
none_beside : (b : Bool) → b ≡ b || false
none_beside true = refl
none_beside false = refl

module _ (m k : ℕ) where
  first-0 : eqb (first_refusal m k) 0 ≡ eqb m 0 && eqb k 0
  unfolding first_refusal
  first-0 = go (eqb m 0) refl
    where
      go : (t : Bool) → eqb m 0 ≡ t → eqb (cond t k m) 0 ≡ t && eqb k 0
      go true e = refl
      go false e = e

  -- a number other than 0 is the first's own, or the second's where the first is accepted
  first-n : (n : ℕ) → eqb n 0 ≡ false → eqb (first_refusal m k) n ≡ eqb m n || (eqb m 0 && eqb k n)
  unfolding first_refusal
  first-n n z = go (eqb m 0) refl
    where
      go : (t : Bool) → eqb m 0 ≡ t → eqb (cond t k m) n ≡ eqb m n || (t && eqb k n)
      go true e = let h : eqb m n ≡ false = ne_eqb m n (λ q. eqb-false n 0 z (sym q ∙ eqb-true m 0 e)) in simp h
      go false e = none_beside (eqb m n)

-- with what the tests say of each
module _ (m k : ℕ) {s t : Bool} where
  then-0 : eqb m 0 ≡ s → eqb k 0 ≡ t → eqb (first_refusal m k) 0 ≡ s && t
  then-0 f g = first-0 m k ∙ simp (f, g)

  then-n : {u : Bool} (n : ℕ) → eqb n 0 ≡ false → eqb m 0 ≡ s → eqb m n ≡ t → eqb k n ≡ u → eqb (first_refusal m k) n ≡ t || (s && u)
  then-n n z f g h = first-n m k n z ∙ simp (f, g, h)

-- a number that only the first operand can have, or only the second
module _ (m k n : ℕ) {t : Bool} (z : eqb n 0 ≡ false) where
  early : eqb m n ≡ t → eqb k n ≡ false → eqb (first_refusal m k) n ≡ t
  early g h = first-n m k n z ∙ simp (g, h) (go t (eqb m 0))
    where
      go : (a b : Bool) → a || (b && false) ≡ a
      go true b = refl
      go false true = refl
      go false false = refl

  late : {s : Bool} → eqb m 0 ≡ s → eqb m n ≡ false → eqb k n ≡ t → eqb (first_refusal m k) n ≡ s && t
  late f g h = first-n m k n z ∙ simp (f, g, h)

-- ---- one operand: a rectangle by its reach a and the three tests of its validity
abbrev OfRect : Bool → Bool → Bool → Bool → ℕ → Type 0
OfRect a b c d m =
    (eqb m 0 ≡ a && (b && c && d)) × (eqb m 1 ≡ not a) × (eqb m 21 ≡ a && not b) × (eqb m 22 ≡ a && (b && not c)) × (eqb m 23 ≡ a && (b && (c && not d)))
    × (eqb m 3 ≡ false) × (eqb m 4 ≡ false)

abbrev rect_number : Bool → Bool → Bool → Bool → ℕ
rect_number a b c d = cond a (first_fault b c d) 1

rect-is : (a b c d : Bool) → OfRect a b c d (rect_number a b c d)
unfolding first_fault
rect-is false b c d = (refl, refl, refl, refl, refl, refl, refl)
rect-is true false c d = (refl, refl, refl, refl, refl, refl, refl)
rect-is true true false d = (refl, refl, refl, refl, refl, refl, refl)
rect-is true true true false = (refl, refl, refl, refl, refl, refl, refl)
rect-is true true true true = (refl, refl, refl, refl, refl, refl, refl)

-- a point by one test, margins by two
abbrev OfOther : Bool → ℕ → ℕ → Type 0
OfOther t w m = (eqb m 0 ≡ t) × (eqb m w ≡ not t) × (eqb m 1 ≡ false) × (eqb m 21 ≡ false) × (eqb m 22 ≡ false) × (eqb m 23 ≡ false)

point-is : (c : Bool) → OfOther c 3 (cond c 0 3)
point-is true = (refl, refl, refl, refl, refl, refl)
point-is false = (refl, refl, refl, refl, refl, refl)

margins-are : (c d : Bool) → OfOther (c && d) 4 (first_refusal (cond c 0 4) (cond d 0 4)) × (eqb (first_refusal (cond c 0 4) (cond d 0 4)) 3 ≡ false)
unfolding first_refusal
margins-are true true = ((refl, refl, refl, refl, refl, refl), refl)
margins-are true false = ((refl, refl, refl, refl, refl, refl), refl)
margins-are false d = ((refl, refl, refl, refl, refl, refl), refl)

module _ (r : Rect) where
  pub of-rect : OfRect (rect_in_reach r) (zone.valid_latitudes r.lat) (circle.is_valid r.lng) (zone.like_parts r) (read_one r).refusal
  unfolding read_one fault_of
  of-rect = rect-is (rect_in_reach r) (zone.valid_latitudes r.lat) (circle.is_valid r.lng) (zone.like_parts r)

  -- its numbers: 0, 1, 21, 22, 23, and never 3 or 4
  at-0 : eqb (read_one r).refusal 0 ≡ sound r
  unfolding zone.is_valid
  at-0 = of-rect.0

  -- one of the last three stands exactly where it is in reach and not valid
  pub three-faults : faulty r ≡ over_latitude r || wrong_circle r || unlike_parts r
  unfolding zone.is_valid
  three-faults = go (rect_in_reach r) (zone.valid_latitudes r.lat) (circle.is_valid r.lng) (zone.like_parts r)
    where
      go : (a b c d : Bool) → a && not (b && c && d) ≡ (a && not b) || (a && (b && not c)) || (a && (b && (c && not d)))
      go false b c d = refl
      go true false c d = refl
      go true true false d = refl
      go true true true false = refl
      go true true true true = refl

of-point : (p : LatLng) → OfOther (zone.is_lat_lng p) 3 (read_point p).refusal
unfolding read_point
of-point p = point-is (zone.is_lat_lng p)

of-margins : (m : LatLng) → OfOther (margins_in_reach m) 4 (read_margins m).refusal × (eqb (read_margins m).refusal 3 ≡ false)
unfolding read_margins read_number
of-margins m = margins-are (in_reach m.lat) (in_reach m.lng)

-- ---- a number that rectangles alone have: it is not 0, is given for its reason, and no point or margin has it
own-not-0 : {n : ℕ} {f : Rect → Bool} → RectReason n f → eqb n 0 ≡ false
own-not-0 of-reach = refl
own-not-0 of-latitudes = refl
own-not-0 of-circle = refl
own-not-0 of_parts = refl

own_is : {n : ℕ} {f : Rect → Bool} → RectReason n f → (r : Rect) → eqb (read_one r).refusal n ≡ f r
own_is of-reach r = (of-rect r).1
own_is of-latitudes r = (of-rect r).2
own_is of-circle r = (of-rect r).3
own_is of_parts r = (of-rect r).4

pub reason-number : {n : ℕ} {f : Rect → Bool} → RectReason n f → of_entry n ≡ true
unfolding of_entry
reason-number of-reach = refl
reason-number of-latitudes = refl
reason-number of-circle = refl
reason-number of_parts = refl

pub accepted-when : (r : Rect) → ((read_one r).refusal ≡ 0) ↔ (sound r ≡ true)
accepted-when r = told (read_one r).refusal 0 (at-0 r)

pub number-when : {n : ℕ} {f : Rect → Bool} → RectReason n f → (r : Rect) → ((read_one r).refusal ≡ n) ↔ (f r ≡ true)
number-when {n} w r = told (read_one r).refusal n (own_is w r)

-- and it has no others
pub own-number : (r : Rect) → eqb (read_one r).refusal 0 || of_entry (read_one r).refusal ≡ true
unfolding read_one fault_of first_fault of_entry
own-number r = go (rect_in_reach r) (zone.valid_latitudes r.lat) (circle.is_valid r.lng) (zone.like_parts r)
  where
    go : (a b c d : Bool) → eqb (rect_number a b c d) 0 || of_entry (rect_number a b c d) ≡ true
    go false b c d = refl
    go true false c d = refl
    go true true false d = refl
    go true true true false = refl
    go true true true true = refl

pub never : (r : Rect) (n : ℕ) → eqb n 0 || of_entry n ≡ false → (read_one r).refusal ≡ n → ⊥
never r n h e = false≢true (sym h ∙ subst (λ (m : ℕ). eqb m 0 || of_entry m ≡ true) e (own-number r))

own_alone : {n : ℕ} {f : Rect → Bool} → RectReason n f → (t : Bool) (w m : ℕ) → OfOther t w m → eqb m n ≡ false
own_alone of-reach t w m o = o.2
own_alone of-latitudes t w m o = o.3
own_alone of-circle t w m o = o.4
own_alone of_parts t w m o = o.5

-- ---- growth by a point: the second refusal hands the rectangle back
add-number : (r : Rect) (p : LatLng) → (add r p).refusal ≡ first_refusal (read_one r).refusal (read_point p).refusal
unfolding add first_refusal
add-number r p = go (eqb (read_one r).refusal 0) (eqb (read_point p).refusal 0) refl
  where
    go : (s t : Bool) → eqb (read_point p).refusal 0 ≡ t
        → (cond s (cond t (rect_answer (zone.add (read_one r).value (read_point p).value)) (record { refusal = (read_point p).refusal; value = r })) (empty_under (read_one r).refusal)).refusal
        ≡ cond s (read_point p).refusal (read_one r).refusal
    go true true e = sym (eqb-true (read_point p).refusal 0 e)
    go true false e = refl
    go false t e = refl

near-when : (r o : Rect) (e : LatLng) (n : ℕ) {t : Bool} → eqb (first_refusal (read_two r o).refusal (read_margins e).refusal) n ≡ t → SaysNo (approx_eq_by r o e) n t
unfolding approx_eq_by
near-when r o e n h = says-no _ n _ h

-- ---- of the operations
module _ (r : Rect) (k : ℕ) where
  pub alone-0 : Alone r k 0 (sound r)
  alone-0 = alone r k 0 (at-0 r)

  pub alone-own : {n : ℕ} {f : Rect → Bool} → RectReason n f → Alone r k n (f r)
  alone-own {n} w = alone r k n (own_is w r)

module _ (r o : Rect) where
  two-0 : eqb (read_two r o).refusal 0 ≡ sound r && sound o
  unfolding read_two
  two-0 = then-0 _ _ (at-0 r) (at-0 o)

  pub both-0 : Both r o 0 (sound r && sound o)
  both-0 = both r o 0 two-0

  two-own : {n : ℕ} {f : Rect → Bool} → RectReason n f → eqb (read_two r o).refusal n ≡ f r || (sound r && f o)
  unfolding read_two
  two-own {n} w = then-n _ _ n (own-not-0 w) (at-0 r) (own_is w r) (own_is w o)

  pub both_own : {n : ℕ} {f : Rect → Bool} → RectReason n f → Both r o n (f r || (sound r && f o))
  both_own {n} w = both r o n (two-own w)

  -- two rectangles, then errors
  module _ (e : LatLng) where
    pub near-0 : SaysNo (approx_eq_by r o e) 0 (sound r && sound o && margins_in_reach e)
    near-0 = near-when r o e 0 (then-0 _ _ two-0 (of-margins e).0.0)

    pub near-own : {n : ℕ} {f : Rect → Bool} → RectReason n f → SaysNo (approx_eq_by r o e) n (f r || (sound r && f o))
    near-own {n} w = near-when r o e n (early _ _ n (own-not-0 w) (two-own w) (own_alone w _ 4 (read_margins e).refusal (of-margins e).0))

    pub near-4 : SaysNo (approx_eq_by r o e) 4 (sound r && sound o && not (margins_in_reach e))
    near-4 =
        near-when r o e 4
        (late _ _ 4 refl two-0 (unfold read_two in early (read_one r).refusal (read_one o).refusal 4 refl (of-rect r).6 (of-rect o).6) (of-margins e).0.1)

module _ (r : Rect) (p : LatLng) where
  point-0 : eqb (first_refusal (read_one r).refusal (read_point p).refusal) 0 ≡ sound r && zone.is_lat_lng p
  point-0 = then-0 _ _ (at-0 r) (of-point p).0

  point-own : {n : ℕ} {f : Rect → Bool} → RectReason n f → eqb (first_refusal (read_one r).refusal (read_point p).refusal) n ≡ f r
  point-own {n} w = early _ _ n (own-not-0 w) (own_is w r) (own_alone w _ 3 (read_point p).refusal (of-point p))

  point-3 : eqb (first_refusal (read_one r).refusal (read_point p).refusal) 3 ≡ sound r && not (zone.is_lat_lng p)
  point-3 = late _ _ 3 refl (at-0 r) (of-rect r).5 (of-point p).1

  pub with-point-0 : WithPoint r p 0 (sound r && zone.is_lat_lng p)
  with-point-0 = with-point r p 0 (unfold read_with_point in point-0)

  pub with-point-own : {n : ℕ} {f : Rect → Bool} → RectReason n f → WithPoint r p n (f r)
  with-point-own {n} w = with-point r p n (unfold read_with_point in point-own w)

  pub with-point-3 : WithPoint r p 3 (sound r && not (zone.is_lat_lng p))
  with-point-3 = with-point r p 3 (unfold read_with_point in point-3)

  pub growth-0 : ((add r p).refusal ≡ 0) ↔ (sound r && zone.is_lat_lng p ≡ true)
  growth-0 = told (add r p).refusal 0 (ap (λ (n : ℕ). eqb n 0) (add-number r p) ∙ point-0)

  start-refused : {n : ℕ} → (read_one r).refusal ≡ n → eqb n 0 ≡ false → add r p ≡ empty_under n
  unfolding add
  start-refused e z = simp (e, z)

  point-refused : {n : ℕ} → eqb (read_one r).refusal 0 ≡ true → (read_point p).refusal ≡ n → eqb n 0 ≡ false → add r p ≡ record { refusal = n; value = r }
  unfolding add
  point-refused s e z = simp (s, e, z)

  pub growth-own : {n : ℕ} {f : Rect → Bool} → RectReason n f → GivesEmpty (add r p) n (f r)
  growth-own {n} w =
      record {
        exactly = told (add r p).refusal n (ap (λ (m : ℕ). eqb m n) (add-number r p) ∙ point-own w);
        result = λ z h. start-refused ((told (read_one r).refusal n (own_is w r)).1 h) (own-not-0 w);
      }

  pub growth-3 : GivesBack r (add r p) 3 (sound r && not (zone.is_lat_lng p))
  growth-3 =
      record {
        exactly = told (add r p).refusal 3 (ap (λ (m : ℕ). eqb m 3) (add-number r p) ∙ point-3);
        result = λ z h. point-refused (at-0 r ∙ and_l (sound r) _ h) (eqb-true (read_point p).refusal 3 ((of-point p).1 ∙ and_r (sound r) _ h)) refl;
      }

-- of margins
expanded-when : (r : Rect) (m : LatLng) (n : ℕ) {t : Bool} → eqb (read_with_margins r m).refusal n ≡ t → GivesEmpty (expanded r m) n t
unfolding expanded
expanded-when r m n e = gives-empty _ n _ e

module _ (r : Rect) (m : LatLng) where
  pub expanded-0 : GivesEmpty (expanded r m) 0 (sound r && margins_in_reach m)
  expanded-0 = expanded-when r m 0 (unfold read_with_margins in then-0 _ _ (at-0 r) (of-margins m).0.0)

  pub expanded-own : {n : ℕ} {f : Rect → Bool} → RectReason n f → GivesEmpty (expanded r m) n (f r)
  expanded-own {n} w = expanded-when r m n (unfold read_with_margins in early _ _ n (own-not-0 w) (own_is w r) (own_alone w _ 4 (read_margins m).refusal (of-margins m).0))

  pub expanded-4 : GivesEmpty (expanded r m) 4 (sound r && not (margins_in_reach m))
  expanded-4 = expanded-when r m 4 (unfold read_with_margins in late _ _ 4 refl (at-0 r) (of-rect r).6 (of-margins m).0.1)

-- of points
module _ (p : LatLng) (n : ℕ) {t : Bool} where
  latlng-when : eqb (read_point p).refusal n ≡ t → SaysNo (is_lat_lng p) n t
  unfolding is_lat_lng
  latlng-when e = says-no _ n _ e

  from-latlng-when : eqb (read_point p).refusal n ≡ t → GivesEmpty (from_lat_lng p) n t
  unfolding from_lat_lng
  from-latlng-when e = gives-empty _ n _ e

  pair-when : (q : LatLng) → eqb (first_refusal (read_point p).refusal (read_point q).refusal) n ≡ t → GivesEmpty (from_point_pair p q) n t
  unfolding from_point_pair
  pair-when q e = gives-empty _ n _ e

  center-size-when : (s : LatLng) → eqb (first_refusal (read_point p).refusal (read_margins s).refusal) n ≡ t → GivesEmpty (from_center_size p s) n t
  unfolding from_center_size
  center-size-when s e = gives-empty _ n _ e

module _ (p : LatLng) where
  pub latlng-0 : SaysNo (is_lat_lng p) 0 (zone.is_lat_lng p)
  latlng-0 = latlng-when p 0 (of-point p).0

  pub latlng-3 : SaysNo (is_lat_lng p) 3 (not (zone.is_lat_lng p))
  latlng-3 = latlng-when p 3 (of-point p).1

  pub from-latlng-0 : GivesEmpty (from_lat_lng p) 0 (zone.is_lat_lng p)
  from-latlng-0 = from-latlng-when p 0 (of-point p).0

  pub from-latlng-3 : GivesEmpty (from_lat_lng p) 3 (not (zone.is_lat_lng p))
  from-latlng-3 = from-latlng-when p 3 (of-point p).1

  module _ (q : LatLng) where
    pub pair-accepted : GivesEmpty (from_point_pair p q) 0 (zone.is_lat_lng p && zone.is_lat_lng q)
    pair-accepted = pair-when p 0 q (then-0 _ _ (of-point p).0 (of-point q).0)

    pub pair-refused : GivesEmpty (from_point_pair p q) 3 (not (zone.is_lat_lng p && zone.is_lat_lng q))
    pair-refused = pair-when p 3 q (then-n _ _ 3 refl (of-point p).0 (of-point p).1 (of-point q).1 ∙ go (zone.is_lat_lng p) (zone.is_lat_lng q))
      where
        go : (a b : Bool) → not a || (a && not b) ≡ not (a && b)
        go true b = refl
        go false b = refl

  module _ (s : LatLng) where
    pub center-size-0 : GivesEmpty (from_center_size p s) 0 (zone.is_lat_lng p && margins_in_reach s)
    center-size-0 = center-size-when p 0 s (then-0 _ _ (of-point p).0 (of-margins s).0.0)

    pub center-size-3 : GivesEmpty (from_center_size p s) 3 (not (zone.is_lat_lng p))
    center-size-3 = center-size-when p 3 s (early _ _ 3 refl (of-point p).1 (of-margins s).1)

    pub center-size-4 : GivesEmpty (from_center_size p s) 4 (zone.is_lat_lng p && not (margins_in_reach s))
    center-size-4 = center-size-when p 4 s (late _ _ 4 refl (of-point p).0 (unfold read_point in never-4 (zone.is_lat_lng p)) (of-margins s).0.1)
      where
        never-4 : (c : Bool) → eqb (cond {A = ℕ} c 0 3) 4 ≡ false
        never-4 true = refl
        never-4 false = refl
