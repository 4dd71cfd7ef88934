-- What the scan worker leaves in the lent box. A call with a point is a call of the running box, by definition, so that any list of such calls is that box
-- after them; a list that is accepted is all its points' calls at once. Assumes nothing.
use mathlib.Core.Path.{◌≡◌, sym, ap, ◌∙◌, subst}
use mathlib.Core.List.{List, [], ◌∷◌, foldl}
use borrow.Author.Tests.{eq-eqb, ne_eqb}
use lib.Ieee.{Float}
use Rattle.s2.specs.declared.latlng.LatLng.{LatLng}
use Rattle.s2.specs.declared.rect.Rect.{Rect}
use Rattle.s2.specs.declared.rect.Answer.{Answer}
use Rattle.s2.specs.Reading.{NoMinusRect}
use Rattle.s2.specs.Answers.{add}
use Rattle.s2.specs.Places.{Doubles, DoublePoint}
use Rattle.s2.proofs.Zeros.{growth-plain as add-plain}
use Rattle.entries.specs.Lists.{All}
use Rattle.lists.specs.Points.{points_of}
use Rattle.growth.specs.RunningBox.{after, running}
use Rattle.growth.specs.Growth.{under, grow}
use Rattle.growth.proofs.RunningBox.{run_none, run_more, refused-call, accepted-call}
use Rattle.growth.proofs.Laws.{accepted-exactly, growth-plain, growth-runs}
use Rattle.scan.specs.Scan.{enlarge, enlarge_all}

-- ---- by a point: any refusal leaves the lent box, and 0 stores what growth by value answers
module _ (b : Rect) (p : LatLng) where
  pub point-refused : ((add b p).refusal ≡ 0 → ⊥) → enlarge b p ≡ under (add b p).refusal b
  unfolding enlarge
  point-refused h = ap (under (add b p).refusal) (refused-call b p h)

  pub point-accepted : (add b p).refusal ≡ 0 → enlarge b p ≡ add b p
  unfolding enlarge
  point-accepted h = ap (under (add b p).refusal) (accepted-call b p h)

  -- what is stored has no negative zero
  pub point-plain : (enlarge b p).refusal ≡ 0 → NoMinusRect (enlarge b p).value
  unfolding enlarge
  point-plain h = subst (λ (a : Answer). NoMinusRect a.value) (sym (point-accepted h)) (add-plain b p h)

-- ---- by a list: the same
module _ (b : Rect) (l : List Float) where
  pub list-refused : ((grow b l).refusal ≡ 0 → ⊥) → enlarge_all b l ≡ under (grow b l).refusal b
  unfolding enlarge_all
  list-refused h = simp (ne_eqb (grow b l).refusal 0 h)

  pub list-accepted : (grow b l).refusal ≡ 0 → enlarge_all b l ≡ grow b l
  unfolding enlarge_all
  list-accepted h = simp (eq-eqb (grow b l).refusal 0 h)

  pub list-plain : Doubles b → All DoublePoint (points_of l) → (enlarge_all b l).refusal ≡ 0 → NoMinusRect (enlarge_all b l).value
  unfolding enlarge_all
  list-plain d e h = subst (λ (a : Answer). NoMinusRect a.value) (sym (list-accepted h)) (growth-plain b l d e h)

  -- it is the running box after the calls with its points
  pub list-runs : Doubles b → All DoublePoint (points_of l) → (enlarge_all b l).refusal ≡ 0 → (points_of l ≡ [] → ⊥) → (enlarge_all b l).value ≡ running b (points_of l)
  unfolding enlarge_all
  list-runs d e h n = ap (λ (a : Answer). a.value) (list-accepted h ∙ growth-runs b l ((accepted-exactly b l d e).0 h) n)

-- ---- many calls, each on the box that the one before it left
pub calls-run : (b : Rect) (ps : List LatLng) → foldl (λ (r : Rect) (p : LatLng). (enlarge r p).value) b ps ≡ running b ps
unfolding enlarge
calls-run b [] = sym (run_none b)
calls-run b (p ∷ l) = calls-run (after b p) l ∙ sym (run_more b p l)
