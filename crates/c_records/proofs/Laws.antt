-- C's text: no text has more than 51 bytes (the crate bbox_text), so of 52 zeros it leaves one at least. Assumes nothing.
use mathlib.Core.Path.{◌≡◌, ap}
use mathlib.Core.Bool.{true}
use mathlib.Core.List.{List, ◌∷◌, ◌++◌}
use Prim.Native.Nat.{ℕ, zero, suc, ◌+◌, ◌-◌, ◌≤◌}
use native.Mathlib.Omega.{arith}
use borrow.Author.Tests.{le-leb}
use lib.ListN.{length, drop}
use Rattle.text.specs.Answers.{left}
use Rattle.bounds.specs.declared.bounds.Bounds.{Bounds}
use Rattle.bounds.specs.Bounds.{givable}
use Rattle.bbox_text.specs.Text.{text_of, left_box}
use Rattle.bbox_text.proofs.Room.{longest}
use Rattle.c_records.specs.Texts.{zeros}

-- m zeros without the first n
dropped : (n m k : ℕ) → n + k ≡ m → drop n (zeros m) ≡ zeros k
dropped zero m k e =
    let s : m ≡ k = omega (arith, e) in
    ap zeros s
dropped (suc n) zero k e = absurd (omega (arith, e))
dropped (suc n) (suc m) k e = dropped n m k (omega (arith, e))

-- so a text of at most 51 bytes has a zero after it
zeros-after : (n : ℕ) → n ≤ 51 → drop n (zeros 52) ≡ 0 ∷ zeros (51 - n)
zeros-after n h = dropped n 52 (suc (51 - n)) (omega arith)

pub left-given : (b : Bounds) → givable b ≡ true → left_box b (zeros 52) ≡ text_of b ++ (0 ∷ zeros (51 - length (text_of b)))
unfolding left_box left
left-given b g =
    let h : length (text_of b) ≤ 51 = longest b g in
    simp (g, le-leb (length (text_of b)) 52 (omega arith)) (ap (λ (u : List ℕ). text_of b ++ u) (zeros-after (length (text_of b)) h))
