-- What stands at a position of a text: a byte that is not 0 stands inside it; a turn adds one digit to the value, so that the whole degrees stay under 1,000
-- and a number under ten billion; spaces are passed one by one, and are those at the front of what is left. By the tests of one turn, and induction on the
-- count of turns. Assumes nothing.
use mathlib.Core.Path.{◌≡◌, refl, sym, ap, ◌∙◌}
use mathlib.Core.Bool.{Bool, true, false, cond}
use mathlib.Core.List.{List, [], ◌∷◌, ◌++◌}
use Prim.Native.Nat.{ℕ, zero, suc, ◌+◌, ◌-◌, ◌*◌, ◌^◌, ◌≤◌, ◌<◌}
use native.Mathlib.Nat.{pow-suc, mul_assoc, mul_comm, mul-le-mul_right, mul-le-mul_left, pow-le-pow_right}
use native.Mathlib.Numerals.{add-one}
use native.Mathlib.Omega.{arith}
use borrow.Author.Tests.{ltb-true, ltb-false}
use lib.Dec.{ltb, eqb}
use lib.ListN.{get_or, length, take, drop, length-drop, get_or-eq_default, drop_of_length-le}
use lib.Seq.{get_or-drop, drop-drop, drop-cons, drop-append_seam}
use Rattle.std.proofs.Common.{take_all}
use Rattle.std.specs.List.{prefix_len}
use Rattle.bbox_text.proofs.Digits.{digit-high}
use Rattle.bbox.specs.declared.number.Run.{Run}
use Rattle.bbox_text.specs.Grammar.{is_digit, is_space}
use Rattle.bbox.specs.Reading.{turn_of, turns_of, whole_of, fraction_of, skip_of, spaces_of}

-- ---- bytes
pub inside : (l : List ℕ) (at : ℕ) → 0 < get_or l at 0 → at < length l
inside l at h = go (ltb at (length l)) refl
  where
    go : (t : Bool) → ltb at (length l) ≡ t → at < length l
    go true e = ltb-true at (length l) e
    go false e = absurd (let z : get_or l at 0 ≡ 0 = get_or-eq_default l 0 (ltb-false at (length l) e) in omega arith)

-- ---- the text from a position on: its first byte, and what follows a part of it
pub first : (s : List ℕ) (at : ℕ) (l : List ℕ) → drop at s ≡ l → get_or s at 0 ≡ get_or l 0 0
first s at l e =
    let z : at + 0 ≡ at = omega arith in
    ap (λ (k : ℕ). get_or s k 0) (sym z) ∙ sym (get_or-drop at s 0 0) ∙ ap (λ (k : List ℕ). get_or k 0 0) e

pub past : (s : List ℕ) (at : ℕ) (a l : List ℕ) → drop at s ≡ a ++ l → drop (at + length a) s ≡ l
past s at a l e = sym (drop-drop (length a) at s) ∙ ap (λ (k : List ℕ). drop (length a) k) e ∙ drop-append_seam a l

pub next : (s : List ℕ) (at b : ℕ) (l : List ℕ) → drop at s ≡ b ∷ l → drop (at + 1) s ≡ l
next s at b l e = past s at (b ∷ []) l e

pub here : (s : List ℕ) (at : ℕ) → 0 < get_or s at 0 → drop at s ≡ get_or s at 0 ∷ drop (at + 1) s
here s at h = drop-cons s at 0 (inside s at h) ∙ ap (λ (k : ℕ). get_or s at 0 ∷ drop k s) (sym (add-one at))

pub room : (s : List ℕ) (at b : ℕ) (l : List ℕ) → drop at s ≡ b ∷ l → at < length s
room s at b l e = omega (arith, length-drop at s, ap length e)

-- ---- turns
pub turn-bound : (pad : Bool) (s : List ℕ) (r : Run) → (turn_of pad s r).value ≤ r.value * 10 + 9
unfolding turn_of
turn-bound pad s r = go (is_digit (get_or s r.next 0)) refl pad
  where
    go : (t : Bool) → is_digit (get_or s r.next 0) ≡ t → (pad : Bool)
        → (cond t (record { value = r.value * 10 + (get_or s r.next 0 - 48); next = r.next + 1 }) (cond pad (record { value = r.value * 10; next = r.next }) r)).value ≤ r.value * 10 + 9
    go true e pad = omega (arith, digit-high (get_or s r.next 0) e)
    go false e true = omega arith
    go false e false = omega arith

turns-bound : (n : ℕ) (pad : Bool) (s : List ℕ) (r : Run) → (turns_of n pad s r).value < (r.value + 1) * 10 ^ n
unfolding turns_of
turns-bound zero pad s r = omega arith
turns-bound (suc n) pad s r =
    let m : ((turn_of pad s r).value + 1) * 10 ^ n ≤ (r.value + 1) * 10 * 10 ^ n = mul-le-mul_right (10 ^ n) (omega (arith, turn-bound pad s r)) in
    let e : (r.value + 1) * 10 * 10 ^ n ≡ (r.value + 1) * 10 ^ suc n = mul_assoc (r.value + 1) 10 (10 ^ n) ∙ ap (λ (k : ℕ). (r.value + 1) * k) (mul_comm 10 (10 ^ n) ∙ sym (pow-suc 10 n)) in
    omega (arith, turns-bound n pad s (turn_of pad s r))

-- one more turn, and the bound of them all
pub turns_more : (n : ℕ) (pad : Bool) (s : List ℕ) (r : Run) → turns_of (n + 1) pad s r ≡ turn_of pad s (turns_of n pad s r)
unfolding turns_of
turns_more n pad s r = ap (λ (k : ℕ). turns_of k pad s r) (add-one n) ∙ go n r
  where
    go : (n : ℕ) (r : Run) → turns_of (suc n) pad s r ≡ turn_of pad s (turns_of n pad s r)
    go zero r = refl
    go (suc n) r = go n (turn_of pad s r)

pub turns_within : (i n : ℕ) (pad : Bool) (s : List ℕ) (r t : Run) → t ≡ turns_of i pad s r → i ≤ n → t.value < (r.value + 1) * 10 ^ n
turns_within i n pad s r t e h =
    let m : (r.value + 1) * 10 ^ i ≤ (r.value + 1) * 10 ^ n = mul-le-mul_left (r.value + 1) (pow-le-pow_right {n = 10} (omega arith) h) in
    omega (arith, turns-bound i pad s r, ap (λ (u : Run). u.value) e)

pub no_turns : (pad : Bool) (s : List ℕ) (r : Run) → r ≡ turns_of 0 pad s r
unfolding turns_of
no_turns pad s r = refl

pub whole-bound : (s : List ℕ) (at : ℕ) → (whole_of s at).value < 1000
unfolding whole_of
whole-bound s at = go (eqb (get_or s at 0) 48)
  where
    start : Run
    start = record { value = 0; next = at }

    go : (t : Bool) → (cond t (turns_of 1 false s start) (turns_of 3 false s start)).value < 1000
    go true = omega (arith, turns-bound 1 false s start)
    go false = omega (arith, turns-bound 3 false s start)

pub fraction-bound : (s : List ℕ) (w : Run) → w.value < 1000 → (fraction_of s w).value < 10000000000
unfolding fraction_of
fraction-bound s w h = omega (arith, turns-bound 7 true s (record { value = w.value; next = w.next + 1 }))

-- ---- spaces: one more, none here, and the end
pub space-more : (s : List ℕ) (i : ℕ) → i < length s → is_space (get_or s i 0) ≡ true → spaces_of s (i + 1) ≡ spaces_of s i
unfolding spaces_of skip_of
space-more s i h e =
    let k : length s - i ≡ suc (length s - (i + 1)) = omega arith in
    rw k (rw e refl)

skip-none : (n : ℕ) (s : List ℕ) (i : ℕ) → is_space (get_or s i 0) ≡ false → skip_of n s i ≡ i
unfolding skip_of
skip-none zero s i e = refl
skip-none (suc n) s i e = rw e refl

pub space-none : (s : List ℕ) (i : ℕ) → is_space (get_or s i 0) ≡ false → spaces_of s i ≡ i
unfolding spaces_of
space-none s i e = skip-none (length s - i) s i e

pub space-end : (s : List ℕ) (i : ℕ) → length s ≤ i → spaces_of s i ≡ i
unfolding spaces_of skip_of
space-end s i h =
    let k : length s - i ≡ 0 = omega arith in
    rw k refl

-- the last of these, under a name that src/ can give
pub space_end : (s : List ℕ) (i : ℕ) → length s ≤ i → spaces_of s i ≡ i
space_end s i h = space-end s i h

-- as many as stand at the front of what is left
passed : (s : List ℕ) (at : ℕ) → at + prefix_len is_space (drop at s) ≡ spaces_of s at
unfolding spaces_of skip_of
passed s at = go (length s - at) at refl
  where
    go : (n at : ℕ) → length s - at ≡ n → at + prefix_len is_space (drop at s) ≡ skip_of n s at
    go zero at e =
        let d : drop at s ≡ [] = drop_of_length-le s (omega arith) in
        ap (λ (l : List ℕ). at + prefix_len is_space l) d ∙ omega arith
    go (suc n) at e =
        let d : drop at s ≡ get_or s at 0 ∷ drop (at + 1) s = drop-cons s at 0 (omega arith) ∙ ap (λ (k : ℕ). get_or s at 0 ∷ drop k s) (sym (add-one at)) in
        ap (λ (l : List ℕ). at + prefix_len is_space l) d ∙ by-test (is_space (get_or s at 0)) (go n (at + 1) (omega arith))
      where
        by-test : (b : Bool) → at + 1 + prefix_len is_space (drop (at + 1) s) ≡ skip_of n s (at + 1)
            → at + cond b (1 + prefix_len is_space (drop (at + 1) s)) 0 ≡ cond b (skip_of n s (at + 1)) at
        by-test true h = omega (arith, h)
        by-test false h = omega arith

pub skipped : (s : List ℕ) (at n : ℕ) → n ≡ prefix_len is_space (take (length s - at) (drop at s)) → at + n ≡ spaces_of s at
skipped s at n e =
    let d : take (length s - at) (drop at s) ≡ drop at s = take_all (length s - at) (drop at s) (simp length-drop (omega arith)) in
    ap (λ (k : ℕ). at + k) e ∙ ap (λ (l : List ℕ). at + prefix_len is_space l) d ∙ passed s at
