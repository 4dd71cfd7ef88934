-- What the library promises C beyond the operations beneath, each promise with all that it needs in its own signature. Assumes nothing.
use mathlib.Core.Path.{◌≡◌, refl, sym, ap, ◌∙◌}
use mathlib.Core.Bool.{Bool, true, false}
use mathlib.Core.List.{List, [], ◌∷◌, ◌++◌}
use Prim.Native.Nat.{ℕ, ◌-◌}
use native.Mathlib.Omega.{arith}
use borrow.Author.Tests.{ne_eqb}
use lib.ListN.{length}
use lib.Ieee.{Float}
use Rattle.consts.specs.Refusal.{number, accepted, no_room, bad_box}
use Rattle.text.specs.Answers.{Written}
use Rattle.bounds.specs.declared.bounds.Bounds.{Bounds}
use Rattle.bounds.specs.Bounds.{givable}
use Rattle.bbox_text.specs.Text.{text_of, wrote_box, left_box}
use Rattle.bbox_text.proofs.Answers.{enough}
use Rattle.s2.specs.declared.latlng.LatLng.{LatLng}
use Rattle.s2.specs.declared.rect.Rect.{Rect}
use Rattle.s2.specs.declared.rect.Answer.{Answer}
use Rattle.s2.specs.Answers.{add}
use Rattle.lists.specs.Rects.{numbers_of}
use Rattle.growth.specs.RunningBox.{kept, running}
use Rattle.growth.specs.Growth.{grow}
use Rattle.growth.proofs.RunningBox.{call-is, run_none, run_more}
use Rattle.scan.specs.Scan.{enlarge, enlarge_all}
use Rattle.c_records.specs.declared.boxes.CRefusal.{CRefusal}
use Rattle.c_records.specs.Texts.{zeros, box_text}
use Rattle.c_records.specs.Boxes.{box_of, box_left, Stored}
use Rattle.c_records.proofs.Laws.{left-given}
use Rattle.capi.proofs.Laws.{keeps, back}

-- ---- the running box of the scan worker: l before the call, l' after it, four numbers by its type; n is what is answered
-- a refusal leaves every number, whatever growth answered
pub refused-stays : (l : List Float) (a : Answer) (n : CRefusal) (l' : List Float) → Stored l a n l' → (n.refusal ≡ number accepted → ⊥) → l' ≡ l
unfolding box_left
refused-stays l a n l' s h = s.leaves ∙ simp (ne_eqb a.refusal 0 (λ e. h (s.answers ∙ e)))

-- a point leaves the box that the scan worker of the crate scan leaves, and answers its number; so does a list
pub as-enlarged : (l : List Float) (p : LatLng) (n : CRefusal) (l' : List Float) → length l ≡ 4 → Stored l (add (box_of l) p) n l'
    → (n.refusal ≡ (enlarge (box_of l) p).refusal) × (l' ≡ numbers_of ((enlarge (box_of l) p).value ∷ []))
unfolding enlarge
as-enlarged l p n l' h s = (s.answers, s.leaves ∙ keeps l (add (box_of l) p) h ∙ ap (λ (b : Rect). numbers_of (b ∷ [])) (sym (call-is (box_of l) p)))

pub as-enlarged-all : (l ps : List Float) (n : CRefusal) (l' : List Float) → length l ≡ 4 → Stored l (grow (box_of l) ps) n l'
    → (n.refusal ≡ (enlarge_all (box_of l) ps).refusal) × (l' ≡ numbers_of ((enlarge_all (box_of l) ps).value ∷ []))
unfolding enlarge_all
as-enlarged-all l ps n l' h s = (s.answers, s.leaves ∙ keeps l (grow (box_of l) ps) h)

-- T-04: calls one after the other, each with a point on the numbers that the one before it left, are those of the running box
pub data Calls : List Float → List LatLng → List Float → Type 0 where
  none : {l : List Float} → Calls l [] l
  call : {l m l' : List Float} {p : LatLng} {ps : List LatLng} {n : CRefusal} → length l ≡ 4 → Stored l (add (box_of l) p) n m → Calls m ps l' → Calls l (p ∷ ps) l'

pub calls-run : {l : List Float} {ps : List LatLng} {l' : List Float} → Calls l ps l' → box_of l' ≡ running (box_of l) ps
calls-run (none {l}) = sym (run_none (box_of l))
calls-run (call {l} {p} {ps} h s c) =
    let left = ap box_of (s.leaves ∙ keeps l (add (box_of l) p) h) ∙ back (kept (box_of l) (add (box_of l) p)) ∙ sym (call-is (box_of l) p) in
    calls-run c ∙ ap (λ (b : Rect). running b ps) left ∙ sym (run_more (box_of l) p ps)

-- ---- the text of a box
-- a box that reading can give: its text and the text's length, then zeros, one at least
pub text-given : (b : Bounds) → givable b ≡ true
    → box_text b ≡ record { refusal = number accepted; length = length (text_of b); text = text_of b ++ (0 ∷ zeros (51 - length (text_of b))) }
text-given b g = simp (enough b 52 g (omega arith), left-given b g)

-- any other: 9, and nothing but zeros
pub text-refused : (b : Bounds) → givable b ≡ false → box_text b ≡ record { refusal = number bad_box; length = 0; text = zeros 52 }
unfolding wrote_box left_box
text-refused b g = simp g

-- there is always room: 6 is never answered
pub always-room : (b : Bounds) → (box_text b).refusal ≡ number no_room → ⊥
unfolding wrote_box
always-room b h = by-test (givable b) refl
  where
    by-test : (t : Bool) → givable b ≡ t → ⊥
    by-test true g =
        let k : ◌≡◌ {A = ℕ} 0 6 = sym (ap (λ (w : Written). w.refusal) (enough b 52 g (omega arith))) ∙ h in
        omega arith
    by-test false g =
        let k : ◌≡◌ {A = ℕ} 9 6 = simp g at h in
        omega arith
