-- What `grow` and `running` make of a start that was read and of the calls, on plain lists: by the start's number, and by how many calls were refused.
-- Assumes nothing.
use mathlib.Core.Path.{◌≡◌, refl, sym, ap, ◌∙◌, subst}
use mathlib.Core.Bool.{Bool, true, false, cond, ◌||◌}
use mathlib.Core.List.{List, [], ◌∷◌}
use Prim.Native.Nat.{ℕ, suc, ◌-◌, ◌/◌, ◌≤◌}
use native.Mathlib.Omega.{arith}
use borrow.Author.Tests.{eqb-true, eqb-false, ne_eqb}
use lib.Dec.{eqb}
use lib.ListN.{length}
use lib.Ieee.{Float}
use Rattle.std.specs.Prelude.{Err}
use Rattle.consts.specs.declared.refusal.Refusal.{Refusal}
use Rattle.consts.specs.Refusal.{number, accepted, bad_point, code, first_refusal, given}
use Rattle.consts.proofs.Codes.{refuses}
use Rattle.s2.specs.declared.latlng.LatLng.{LatLng}
use Rattle.s2.specs.declared.rect.Rect.{Rect}
use Rattle.s2.specs.declared.rect.Answer.{Answer}
use Rattle.s2.specs.Zone.{is_lat_lng}
use Rattle.s2.specs.Reading.{as_read, read_point, NoMinusRect}
use Rattle.s2.specs.Answers.{rect_answer, empty_under, grown_of}
use Rattle.s2.specs.Places.{Doubles, DoublePoint, Valid}
use Rattle.s2.proofs.Readings.{valid-read}
use Rattle.s2.proofs.Zeros.{read_plain}
use Rattle.entries.specs.Lists.{All, whole}
use Rattle.entries.specs.First.{first_number}
use Rattle.entries.proofs.Lengths.{whole_multiple}
use Rattle.lists.specs.Points.{points_of}
use Rattle.lists.specs.Refused.{first_bad}
use Rattle.lists.proofs.PointLists.{length-points}
use Rattle.growth.specs.declared.calls.Called.{Called}
use Rattle.growth.specs.RunningBox.{running, accepted_of}
use Rattle.growth.specs.Growth.{under, start_of, grown_by, grow, ran_by, no_calls, ran}
use Rattle.growth.specs.Devices.{bad_in, Started, Growing, AfterCalls}
use Rattle.growth.proofs.RunningBox.{read_same, read_first, accepted-count, none-accepted, accepted-plain}
use Rattle.growth.proofs.Laws.{start-0, start-in, grown-valid, ran-are}

-- ---- growth's number, by how many points are refused
abbrev by_count : ℕ → ℕ
by_count n = cond (eqb n 0) (number accepted) (number bad_point)

first-bad : (ps : List LatLng) → first_bad ps ≡ by_count (bad_in ps)
unfolding first_number first_refusal bad_in read_point
first-bad [] = refl
first-bad (p ∷ l) = go (is_lat_lng p) (first-bad l)
  where
    go : (t : Bool) → first_bad l ≡ by_count (bad_in l)
        → first_refusal (cond t (number accepted) (number bad_point)) (first_bad l) ≡ by_count (given (cond t (number accepted) (number bad_point)) (bad_in l) (suc (bad_in l)))
    go true ih = ih
    go false ih = simp (ne_eqb (suc (bad_in l)) 0 (λ z. omega (arith, z)))

-- ---- the start, of doubles, has been read
pub started : {r : Rect} {l : List Float} {x : Answer} → Doubles r → All DoublePoint (points_of l) → x ≡ start_of r l → Started r l x
started {r} {l} {x} d ds e = record { is = e; good = λ k. (start-0 r l d).0 (ap (λ (y : Answer). y.refusal) (sym e) ∙ k); points = ds }

-- a refused start has the refusal's own number
pub refused_start : (r : Rect) (w : Refusal) → (grown_of r (Err w)).refusal ≡ 0 → ⊥
refused_start r w = go (eqb (code w) 3 || eqb (code w) 5)
  where
    go : (t : Bool) → (cond t (under (code w) r) (empty_under (code w))).refusal ≡ 0 → ⊥
    go true e = refuses w e
    go false e = refuses w e

-- ---- after the start x was read
module _ {r : Rect} {l : List Float} {x : Answer} (s : Started r l x) where
  abbrev ps : List LatLng
  ps = points_of l

  pub grow-refused : (x.refusal ≡ 0 → ⊥) → grow r l ≡ x
  unfolding grow
  grow-refused k = ap (λ (y : Answer). given y.refusal (grown_by r ps) y) (sym s.is) ∙ rw (ne_eqb x.refusal 0 k) refl

  pub ran-refused : (x.refusal ≡ 0 → ⊥) → ran r l ≡ no_calls x
  unfolding ran
  ran-refused k = ap (λ (y : Answer). given y.refusal (ran_by r ps) (no_calls y)) (sym s.is) ∙ rw (ne_eqb x.refusal 0 k) refl

  -- it is accepted: the calls can be made
  module _ (k : x.refusal ≡ 0) where
    abbrev good : (whole 2 4096 l ≡ true) × Valid r
    good = s.good k

    start_is : x.value ≡ as_read r
    start_is = ap (λ (y : Answer). y.value) (s.is ∙ start-in r l good.0 good.1)

    pub growing : Growing l 0 x.value
    growing =
        record {
          up_to = omega arith;
          at-point = refl;
          whole = whole_multiple 2 4096 (length l) good.0;
          valid = subst Valid (sym start_is) (valid-read good.1);
          no_minus = subst NoMinusRect (sym start_is) (read_plain r);
        }

    -- and were made
    module _ {a : Called} (f : AfterCalls l x.value a) where
      box-is : a.value ≡ as_read (running r ps)
      box-is = f.box ∙ ap (λ (q : Rect). running q ps) start_is ∙ read_first r ps good.1 s.points

      -- growth, by its number and the box
      abbrev answer : ℕ → Rect → Answer
      answer n q = given n (rect_answer q) (under n r)

      grown-is : grow r l ≡ answer (by_count a.refused) a.value
      unfolding grown_by
      grown-is =
          grown-valid r l good.0 good.1 ∙ ap (λ (n : ℕ). answer n (as_read (running r ps))) (first-bad ps ∙ ap by_count (sym f.bad))
          ∙ ap (answer (by_count a.refused)) (sym box-is)

      pub grow-bad : (a.refused ≡ 0 → ⊥) → grow r l ≡ under (number bad_point) r
      grow-bad n = grown-is ∙ simp (ne_eqb a.refused 0 n)

      pub grow-good : a.refused ≡ 0 → grow r l ≡ rect_answer a.value
      grow-good n = grown-is ∙ rw n refl

      -- how many calls were accepted
      abbrev rest : ℕ
      rest = length l / 2 - a.refused

      counted : length (accepted_of r ps) ≡ rest
      counted = omega (arith, accepted-count r ps good.1 s.points, f.bad, length-points l)

      pub few : a.refused ≤ length l / 2
      few = omega (arith, accepted-count r ps good.1 s.points, f.bad, length-points l)

      -- the start where no call was accepted, else the box, which has then been read
      kept-is : (b : Rect) → b ≡ cond (eqb rest 0) r a.value → b ≡ running r ps
      kept-is b h = h ∙ go (eqb rest 0) refl
        where
          go : (t : Bool) → eqb rest 0 ≡ t → cond t r a.value ≡ running r ps
          go true z = sym (none-accepted r ps (counted ∙ eqb-true rest 0 z))
          go false z = box-is ∙ read_same (running r ps) (accepted-plain r ps good.1 s.points (λ n. eqb-false rest 0 z (sym counted ∙ n)))

      pub ran-made : (b : Rect) → b ≡ cond (eqb rest 0) r a.value → ran r l ≡ record { refusal = number accepted; accepted = rest; value = b }
      ran-made b h = ran-are r l good.0 good.1 ∙ (λ i. record { refusal = number accepted; accepted = counted i; value = sym (kept-is b h) i })

-- a refusal of the start is the whole's
pub refused_grow : (r : Rect) (l : List Float) (w : Refusal) → Started r l (grown_of r (Err w)) → grow r l ≡ grown_of r (Err w)
refused_grow r l w s = grow-refused s (refused_start r w)

pub refused_run : (r : Rect) (l : List Float) (w : Refusal) → Started r l (grown_of r (Err w)) → ran r l ≡ no_calls (grown_of r (Err w))
refused_run r l w s = ran-refused s (refused_start r w)
