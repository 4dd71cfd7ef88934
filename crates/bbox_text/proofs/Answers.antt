-- What the writer's answer promises: a refused writing alters no byte; an accepted one has the box's text in the bytes that it counts, and every byte
-- after them as it was; 51 bytes are always enough. By whether reading can give the box. Assumes nothing.
use mathlib.Core.Path.{◌≡◌, refl, sym}
use mathlib.Core.Bool.{Bool, true, false}
use mathlib.Core.List.{List}
use Prim.Native.Nat.{ℕ, ◌≤◌}
use native.Mathlib.Omega.{arith}
use lib.ListN.{length}
use Rattle.consts.specs.Refusal.{number, accepted}
use Rattle.text.specs.Answers.{Stands}
use Rattle.text.proofs.Laws.{text-unaltered, text-stands}
use Rattle.text.proofs.Answered.{wrote-fits}
use Rattle.bounds.specs.declared.bounds.Bounds.{Bounds}
use Rattle.bounds.specs.Bounds.{givable}
use Rattle.bbox_text.specs.Text.{text_of, wrote_box, left_box}
use Rattle.bbox_text.proofs.Room.{longest}

pub box-unaltered : (b : Bounds) (out : List ℕ) → ((wrote_box b (length out)).refusal ≡ 0 → ⊥) → left_box b out ≡ out
unfolding wrote_box left_box
box-unaltered b out = by-test (givable b) refl
  where
    by-test : (t : Bool) → givable b ≡ t → ((wrote_box b (length out)).refusal ≡ 0 → ⊥) → left_box b out ≡ out
    by-test true e h = simp e (text-unaltered (text_of b) out (simp e at h))
    by-test false e h = simp e

pub box-stands : (b : Bounds) (out : List ℕ) → (wrote_box b (length out)).refusal ≡ 0 → Stands (text_of b) (wrote_box b (length out)) out (left_box b out)
unfolding wrote_box left_box
box-stands b out = by-test (givable b) refl
  where
    by-test : (t : Bool) → givable b ≡ t → (wrote_box b (length out)).refusal ≡ 0 → Stands (text_of b) (wrote_box b (length out)) out (left_box b out)
    by-test true e h = simp e (text-stands (text_of b) out (simp e at h))
    by-test false e h =
        let k : ◌≡◌ {A = ℕ} 9 0 = simp e at h in
        absurd (omega arith)

pub enough : (b : Bounds) (room : ℕ) → givable b ≡ true → 51 ≤ room → wrote_box b room ≡ record { refusal = number accepted; count = length (text_of b) }
unfolding wrote_box
enough b room g h = simp g (sym (wrote-fits (text_of b) (length (text_of b)) room refl (omega (arith, longest b g))))
