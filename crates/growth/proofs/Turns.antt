-- What the functions of src/ do step by step, on plain lists: the start is read; then each turn of the loop makes one call more, and the calls so far with
-- those that are left come to the whole. Assumes nothing.
use mathlib.Core.Path.{◌≡◌, refl, sym, ap, ◌∙◌, subst}
use mathlib.Core.Bool.{true, false}
use mathlib.Core.List.{List}
use Prim.Native.Nat.{ℕ, suc, ◌+◌, ◌<◌, ◌≤◌}
use native.Mathlib.Omega.{arith}
use lib.ListN.{length, drop, get_or}
use lib.Dec.{T}
use borrow.Author.Tests.{eq-eqb, ne_eqb}
use lib.Ieee.{Float, binary64, fits, nan}
use denote.Floats.{is_true}
use Rattle.std.specs.Prelude.{Result, Ok, Err, IfOk}
use lib.Dec.{eqb}
use Rattle.consts.specs.declared.refusal.Refusal.{Refusal}
use Rattle.consts.specs.Refusal.{number, bad_list, refusal_of}
use Rattle.consts.proofs.Codes.{code_refuses}
use Rattle.s2.specs.declared.latlng.LatLng.{LatLng}
use Rattle.s2.specs.declared.rect.Rect.{Rect}
use Rattle.s2.specs.declared.rect.Answer.{Answer}
use Rattle.s2.specs.Reading.{Pair}
use Rattle.s2.specs.Zone as zone
use Rattle.s2.specs.Reading.{as_read, plain_point, read_one, read_point, NoMinusRect}
use Rattle.s2.specs.Answers.{rect_answer, rectangle, grown_of}
use Rattle.s2.specs.Places.{Valid, ValidPoint, DoublePoint}
use Rattle.s2.proofs.Readings.{point-in, no_bad_point, no_bad_list}
use Rattle.s2.proofs.Accepted.{add_is}
use Rattle.entries.specs.Lists.{whole}
use Rattle.lists.specs.Points.{points_of, point_at}
use Rattle.lists.specs.Refused.{of_point}
use Rattle.lists.proofs.Doubles.{accepted-point}
use Rattle.lists.proofs.PointLists.{two, none_left}
use Rattle.growth.specs.RunningBox.{after, running}
use Rattle.growth.specs.Growth.{under, start_of}
use Rattle.growth.specs.Devices.{bad_in, Growing, HeldUntil, SoFar, AfterCalls}
use Rattle.growth.proofs.RunningBox.{read_same, call-good, call-refused, call-valid, call-plain}

-- ---- the start, by what reading it gave
pub bad-length : (r : Rect) (l : List Float) → whole 2 4096 l ≡ false → start_of r l ≡ under (number bad_list) r
unfolding start_of
bad-length r l w = simp w

pub start-is : (r : Rect) (l : List Float) → whole 2 4096 l ≡ true → (x : Result Rect Refusal) → refusal_of x ≡ (read_one r).refusal → IfOk x (λ v. v ≡ (read_one r).value)
    → start_of r l ≡ grown_of r x
unfolding start_of read_one
start-is r l w (Ok q) e v = rw w (ap (λ (n : ℕ). rectangle n (as_read r)) (sym e) ∙ ap rect_answer (sym v))
start-is r l w (Err u) e v =
    rw w (ap (λ (n : ℕ). rectangle n (as_read r)) (sym e) ∙ rw (code_refuses u, ap (λ (n : ℕ). eqb n 3) e ∙ no_bad_point r, ap (λ (n : ℕ). eqb n 5) e ∙ no_bad_list r) refl)

-- ---- the calls
pub no-calls-yet : {l : List Float} {q : Rect} → Growing l 0 q → SoFar l q q 0 0
no-calls-yet {l} g = record { box = refl; bad = omega arith; few = omega arith; left = g }

-- a point that is not passed over stands whole in the list
pub room : (l : List Float) (i : ℕ) {s q : Rect} {n : ℕ} → i < length l → SoFar l s q n i → i + 1 < length l
room l i h a = omega (arith, h, a.left.at-point, a.left.whole)

-- and it is of two doubles, where all numbers of the list are doubles
pub double-here : (l : List Float) (i : ℕ) → ((k : ℕ) → T (fits binary64 (get_or l k nan))) → DoublePoint (point_at l i)
double-here l i fit = record { lat-double = is_true _ (fit i); lng-double = is_true _ (fit (i + 1)) }

-- points that are held are passed over
pub passed_over : {l : List Float} {s q : Rect} {n i j : ℕ} → SoFar l s q n i → HeldUntil l i q j → SoFar l s q n j
passed_over a u =
    record {
      box = a.box ∙ sym u.box;
      bad = omega (arith, a.bad, u.bad);
      few = omega (arith, a.few, u.from);
      left = record { up_to = u.up_to; at-point = u.whole; whole = a.left.whole; valid = a.left.valid; no_minus = a.left.no_minus };
    }

-- the point at the number i is read, and the call with it is made
module _ {l : List Float} {s q : Rect} {n i : ℕ} (a : SoFar l s q n i) (h : i + 1 < length l) (d : DoublePoint (point_at l i)) (x : Pair) (e : x ≡ read_point (point_at l i)) where
  abbrev p : LatLng
  p = point_at l i

  abbrev rest : List LatLng
  rest = points_of (drop (i + 2) l)

  number_is : x.refusal ≡ of_point p
  number_is = ap (λ (y : Pair). y.refusal) e

  turn-box : running q (points_of (drop i l)) ≡ running (after q p) rest
  unfolding running
  turn-box = ap (running q) (two l i h)

  -- one that is accepted enlarges the box
  pub enlarged : x.refusal ≡ 0 → SoFar l s (zone.add q x.value) n (i + 2)
  unfolding bad_in
  enlarged k =
      record {
        box = a.box ∙ turn-box ∙ ap (λ (r : Rect). running r rest) (sym is);
        bad = a.bad ∙ ap (λ (m : ℕ). n + m) (ap bad_in (two l i h) ∙ simp (eq-eqb (of_point p) 0 (sym number_is ∙ k)));
        few = omega (arith, a.few);
        left = record {
          up_to = omega arith;
          at-point = omega (arith, a.left.at-point);
          whole = a.left.whole;
          valid = subst Valid (sym is) (call-valid v p d);
          no_minus = subst NoMinusRect (sym is) (call-plain v p m d);
        };
      }
    where
      v : Valid q
      v = a.left.valid

      m : NoMinusRect q
      m = a.left.no_minus

      good : ValidPoint p
      good = accepted-point p d (sym number_is ∙ k)

      is : zone.add q x.value ≡ after q p
      is =
          ap (λ (y : Pair). zone.add q y.value) (e ∙ point-in p good)
          ∙ ap (λ (r : Rect). zone.add r (plain_point p)) (sym (read_same q m)) ∙ ap (λ (b : Answer). b.value) (sym (add_is q v p good)) ∙ sym (call-good v p good)

  -- one that is refused is counted
  pub counted : (x.refusal ≡ 0 → ⊥) → SoFar l s q (n + 1) (i + 2)
  unfolding bad_in
  counted k =
      record {
        box = a.box ∙ turn-box ∙ ap (λ (r : Rect). running r rest) (call-refused a.left.valid p bad);
        bad = omega (arith, a.bad, more);
        few = omega (arith, a.few);
        left = record { up_to = omega arith; at-point = omega (arith, a.left.at-point); whole = a.left.whole; valid = a.left.valid; no_minus = a.left.no_minus };
      }
    where
      bad : of_point p ≡ 0 → ⊥
      bad z = k (number_is ∙ z)

      more : bad_in (points_of (drop i l)) ≡ suc (bad_in rest)
      more = ap bad_in (two l i h) ∙ simp (ne_eqb (of_point p) 0 bad)

-- at the end no point is left
pub all_made : {l : List Float} {s q : Rect} {n i : ℕ} → SoFar l s q n i → length l ≤ i → AfterCalls l s (record { refused = n; value = q })
unfolding running bad_in
all_made {l} {s} {q} {n} {i} a h =
    let e : i ≡ length l = omega (arith, a.left.up_to) in
    let none = ap (λ (j : ℕ). points_of (drop j l)) e ∙ none_left l in
    record { box = sym (a.box ∙ ap (running q) none); bad = sym (a.bad ∙ ap (λ (ps : List LatLng). n + bad_in ps) none ∙ zero_more n) }
  where
    zero_more : (m : ℕ) → m + 0 ≡ m
    zero_more m = omega arith
