-- What the answers promise: a refused writing alters no byte; an accepted one has the text in the bytes that it counts, and every byte after them as it
-- was; and how much room is always enough. By the two tests, whether a list is taken and whether its text fits. Assumes nothing.
use mathlib.Core.Path.{◌≡◌, refl, sym}
use mathlib.Core.Bool.{Bool, true, false}
use mathlib.Core.List.{List}
use Prim.Native.Nat.{ℕ, ◌/◌, ◌%◌, ◌≤◌}
use native.Mathlib.Omega.{arith}
use lib.Dec.{leb, ltb}
use lib.ListN.{length, drop}
use lib.Seq.{take-append_seam, drop-append_seam}
use lib.Ieee.{Float}
use Rattle.consts.specs.Refusal.{number, accepted}
use Rattle.entries.specs.Lists.{whole}
use Rattle.text.specs.Text.{pieces_text, refused_text, refused_at_text, refused_at_line_text}
use Rattle.text.specs.Answers.{wrote, left, wrote_pieces, left_pieces, wrote_refusal, left_refusal, wrote_at, left_at, Stands}
use Rattle.text.specs.Answers.{wrote_refusal_at, left_refusal_at, wrote_refusal_at_line, left_refusal_at_line}
use Rattle.text.proofs.Lengths.{few-digits, length-pieces, length-refused}
use Rattle.text.proofs.Answered.{wrote-fits, whole_is}

-- ---- any text
pub text-unaltered : (t out : List ℕ) → ((wrote t (length out)).refusal ≡ 0 → ⊥) → left t out ≡ out
unfolding wrote left
text-unaltered t out = by-test (leb (length t) (length out)) refl
  where
    by-test : (b : Bool) → leb (length t) (length out) ≡ b → ((wrote t (length out)).refusal ≡ 0 → ⊥) → left t out ≡ out
    by-test true e h = absurd (h (simp e))
    by-test false e h = simp e

pub text-stands : (t out : List ℕ) → (wrote t (length out)).refusal ≡ 0 → Stands t (wrote t (length out)) out (left t out)
unfolding wrote left
text-stands t out = by-test (leb (length t) (length out)) refl
  where
    by-test : (b : Bool) → leb (length t) (length out) ≡ b → (wrote t (length out)).refusal ≡ 0 → Stands t (wrote t (length out)) out (left t out)
    by-test true e h = simp e (record { counted = refl; text = take-append_seam t (drop (length t) out); rest = drop-append_seam t (drop (length t) out) })
    by-test false e h =
        let k : ◌≡◌ {A = ℕ} 6 0 = simp e at h in
        absurd (omega arith)

-- ---- pieces
pub unaltered : (l : List Float) (out : List ℕ) → ((wrote_pieces l (length out)).refusal ≡ 0 → ⊥) → left_pieces l out ≡ out
unfolding wrote_pieces left_pieces
unaltered l out = by-test (whole 4 512 l) refl
  where
    by-test : (b : Bool) → whole 4 512 l ≡ b → ((wrote_pieces l (length out)).refusal ≡ 0 → ⊥) → left_pieces l out ≡ out
    by-test true e h = simp e (text-unaltered (pieces_text l) out (simp e at h))
    by-test false e h = simp e

pub stands : (l : List Float) (out : List ℕ) → (wrote_pieces l (length out)).refusal ≡ 0 → Stands (pieces_text l) (wrote_pieces l (length out)) out (left_pieces l out)
unfolding wrote_pieces left_pieces
stands l out = by-test (whole 4 512 l) refl
  where
    by-test : (b : Bool) → whole 4 512 l ≡ b → (wrote_pieces l (length out)).refusal ≡ 0 → Stands (pieces_text l) (wrote_pieces l (length out)) out (left_pieces l out)
    by-test true e h = simp e (text-stands (pieces_text l) out (simp e at h))
    by-test false e h =
        let k : ◌≡◌ {A = ℕ} 5 0 = simp e at h in
        absurd (omega arith)

-- ---- a refusal
pub refusal-unaltered : (n : ℕ) (out : List ℕ) → ((wrote_refusal n (length out)).refusal ≡ 0 → ⊥) → left_refusal n out ≡ out
unfolding wrote_refusal left_refusal
refusal-unaltered n out h = text-unaltered (refused_text n) out h

pub refusal-stands : (n : ℕ) (out : List ℕ) → (wrote_refusal n (length out)).refusal ≡ 0 → Stands (refused_text n) (wrote_refusal n (length out)) out (left_refusal n out)
unfolding wrote_refusal left_refusal
refusal-stands n out h = text-stands (refused_text n) out h

-- ---- a text that ends with the number of a place
at-unaltered : (t : List ℕ) (place : ℕ) (out : List ℕ) → ((wrote_at t place (length out)).refusal ≡ 0 → ⊥) → left_at t place out ≡ out
at-unaltered t place out = by-test (ltb place 1000) refl
  where
    by-test : (b : Bool) → ltb place 1000 ≡ b → ((wrote_at t place (length out)).refusal ≡ 0 → ⊥) → left_at t place out ≡ out
    by-test true e h = simp e (text-unaltered t out (simp e at h))
    by-test false e h = simp e

at-stands : (t : List ℕ) (place : ℕ) (out : List ℕ) → (wrote_at t place (length out)).refusal ≡ 0
    → Stands t (wrote_at t place (length out)) out (left_at t place out)
at-stands t place out = by-test (ltb place 1000) refl
  where
    by-test : (b : Bool) → ltb place 1000 ≡ b → (wrote_at t place (length out)).refusal ≡ 0
        → Stands t (wrote_at t place (length out)) out (left_at t place out)
    by-test true e h = simp e (text-stands t out (simp e at h))
    by-test false e h =
        let k : ◌≡◌ {A = ℕ} 5 0 = simp e at h in
        absurd (omega arith)

-- ---- a refusal and its entry
pub refusal-at-unaltered : (n entry : ℕ) (out : List ℕ) → ((wrote_refusal_at n entry (length out)).refusal ≡ 0 → ⊥) → left_refusal_at n entry out ≡ out
unfolding wrote_refusal_at left_refusal_at
refusal-at-unaltered n entry out h = at-unaltered (refused_at_text n entry) entry out h

pub refusal-at-stands : (n entry : ℕ) (out : List ℕ) → (wrote_refusal_at n entry (length out)).refusal ≡ 0
    → Stands (refused_at_text n entry) (wrote_refusal_at n entry (length out)) out (left_refusal_at n entry out)
unfolding wrote_refusal_at left_refusal_at
refusal-at-stands n entry out h = at-stands (refused_at_text n entry) entry out h

-- ---- a refusal and its line
pub refusal-at-line-unaltered : (n line : ℕ) (out : List ℕ) → ((wrote_refusal_at_line n line (length out)).refusal ≡ 0 → ⊥) → left_refusal_at_line n line out ≡ out
unfolding wrote_refusal_at_line left_refusal_at_line
refusal-at-line-unaltered n line out h = at-unaltered (refused_at_line_text n line) line out h

pub refusal-at-line-stands : (n line : ℕ) (out : List ℕ) → (wrote_refusal_at_line n line (length out)).refusal ≡ 0
    → Stands (refused_at_line_text n line) (wrote_refusal_at_line n line (length out)) out (left_refusal_at_line n line out)
unfolding wrote_refusal_at_line left_refusal_at_line
refusal-at-line-stands n line out h = at-stands (refused_at_line_text n line) line out h

-- ---- room
-- no list that is taken needs more than 8 + 3 + 68 * 512 bytes
pub enough : (l : List Float) (room : ℕ) → whole 4 512 l ≡ true → 34827 ≤ room → wrote_pieces l room ≡ record { refusal = number accepted; count = length (pieces_text l) }
unfolding wrote_pieces
enough l room w h =
    let s : (length l % 4 ≡ 0) × (length l ≤ 2048) = whole_is l w in
    simp w (sym (wrote-fits (pieces_text l) (length (pieces_text l)) room refl (omega (arith, length-pieces l, few-digits (length l / 4)))))

-- no refusal needs more than 9 + 3
pub refusal-enough : (n room : ℕ) → 12 ≤ room → wrote_refusal n room ≡ record { refusal = number accepted; count = length (refused_text n) }
unfolding wrote_refusal
refusal-enough n room h = sym (wrote-fits (refused_text n) (length (refused_text n)) room refl (omega (arith, length-refused n, few-digits n)))
