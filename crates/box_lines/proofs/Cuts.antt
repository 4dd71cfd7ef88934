-- How a text is cut into lines: by the place of its first newline, a line is the bytes up to there, and the next begins one byte after. So a part that
-- `split_inclusive` cuts off is a line, without the newline at its end if it has one. By induction on the text. Assumes nothing.
use mathlib.Core.Path.{◌≡◌, refl, sym, ap, ◌∙◌}
use mathlib.Core.Bool.{Bool, true, false, cond, ◌&&◌, false≢true}
use mathlib.Core.List.{List, [], ◌∷◌, ◌++◌, append-nil}
use Prim.Native.Nat.{ℕ, zero, suc, ◌+◌, ◌-◌, ◌≤◌, ◌<◌}
use native.Mathlib.Omega.{arith}
use native.Mathlib.Nat.{not-suc-le-zero}
use borrow.Author.Tests.{ltb-true, ltb-false}
use denote.Bor.{Bor}
use lib.Dec.{eqb, ltb}
use lib.ListN.{length, take, drop, get_or, get_or-append, length-append, drop_of_length-le}
use lib.Seq.{drop-cons, take_at, drop_at, take-take}
use lib.Pointwise.{pointwise}
use Rattle.std.specs.Prelude.{min, Option, Some, None, MatchOption, unwrap_or}
use Rattle.std.specs.List.{IsFirstMatchOrLen}
use Rattle.box_lines.specs.Lines.{line_of, after_line}

-- ---- the line, and what follows
pub line-is : (l : List ℕ) → take (length (line_of l)) l ≡ line_of l
unfolding line_of
line-is [] = refl
line-is (b ∷ s) = go (eqb b 10) (line-is s)
  where
    go : (t : Bool) → take (length (line_of s)) s ≡ line_of s → take (length (cond t [] (b ∷ line_of s))) (b ∷ s) ≡ cond t [] (b ∷ line_of s)
    go true h = refl
    go false h = ap (λ (l : List ℕ). b ∷ l) h

pub after_is : (l : List ℕ) → drop (suc (length (line_of l))) l ≡ after_line l
unfolding line_of after_line
after_is [] = refl
after_is (b ∷ s) = go (eqb b 10) (after_is s)
  where
    go : (t : Bool) → drop (suc (length (line_of s))) s ≡ after_line s → drop (length (cond t [] (b ∷ line_of s))) s ≡ cond t s (after_line s)
    go true h = refl
    go false h = h

-- ---- by the place of the first newline
abbrev pub newline : ℕ → Bool
newline b = eqb b 10

further : (b : ℕ) (s : List ℕ) (i : ℕ) → IsFirstMatchOrLen newline (b ∷ s) (suc i) → IsFirstMatchOrLen newline s i
further b s i h = (λ k d p q. h.0 (suc k) d (omega arith) (omega (arith, q)), λ p d. h.1 (omega (arith, p)) d)

pub line-length : (s : List ℕ) (i : ℕ) → i < length s → IsFirstMatchOrLen newline s i → length (line_of s) ≡ i
unfolding line_of
line-length [] i p h = absurd (not-suc-le-zero p)
line-length (b ∷ s) zero p h = simp (h.1 p 0) refl
line-length (b ∷ s) (suc i) p h = simp (h.0 0 0 (omega arith) (omega arith)) (ap suc (line-length s i (omega (arith, p)) (further b s i h)))

pub line-whole : (s : List ℕ) (i : ℕ) → length s ≤ i → IsFirstMatchOrLen newline s i → line_of s ≡ s
unfolding line_of
line-whole [] i p h = refl
line-whole (b ∷ s) zero p h = absurd (omega (arith, p))
line-whole (b ∷ s) (suc i) p h = simp (h.0 0 0 (omega arith) (omega arith)) (ap (λ (l : List ℕ). b ∷ l) (line-whole s i (omega (arith, p)) (further b s i h)))

-- ---- a part that is cut off
abbrev pub ends_so : List ℕ → Bool
ends_so x = pointwise eqb (drop (length x - 1) x) (10 ∷ [])

pub no-byte : (t : List ℕ) → length t ≡ 0 → t ≡ []
no-byte [] e = refl
no-byte (b ∷ t) e = absurd (omega arith)

last-byte : (x : List ℕ) (k : ℕ) → length x ≡ suc k → ends_so x ≡ (eqb (get_or x k 0) 10 && true)
last-byte x k e =
    let n : length x - 1 ≡ k = omega (arith, e) in
    let d : drop (suc k) x ≡ [] = drop_of_length-le x {i = suc k} (omega (arith, e)) in
    ap (λ (j : ℕ). pointwise eqb (drop j x) (10 ∷ [])) n ∙ ap (λ (l : List ℕ). pointwise eqb l (10 ∷ [])) (drop-cons x k 0 (omega (arith, e)))
    ∙ ap (λ (l : List ℕ). eqb (get_or x k 0) 10 && pointwise eqb l []) d

-- x is the line of s, but for a newline at its end, and t is what follows
pub record Part (s x t : List ℕ) : Type 0 where
  pub rest : t ≡ after_line s
  pub line : ends_so x ≡ true → take (length x - 1) x ≡ line_of s
  pub bare : ends_so x ≡ false → x ≡ line_of s

module _ (s x t : List ℕ) (e : s ≡ x ++ t) (i : ℕ) (h : IsFirstMatchOrLen newline s i) where
  -- with its newline
  with-newline : i < length s → length x ≡ suc i → Part s x t
  with-newline p n =
      let m : length (line_of s) ≡ i = line-length s i p h in
      let a : take (suc i) s ≡ x = ap (take (suc i)) e ∙ take_at x t (suc i) n in
      let b : drop (suc i) s ≡ t = ap (drop (suc i)) e ∙ drop_at x t (suc i) n in
      let c : get_or s i 0 ≡ get_or x i 0 = ap (λ (l : List ℕ). get_or l i 0) e ∙ get_or-append x t 0 i (omega (arith, n)) in
      let f : eqb (get_or x i 0) 10 ≡ true = ap newline (sym c) ∙ h.1 p 0 in
      let last : ends_so x ≡ true = last-byte x i n ∙ simp f refl in
      let k : length x - 1 ≡ i = omega (arith, n) in
      record {
        rest = sym b ∙ ap (λ (j : ℕ). drop (suc j) s) (sym m) ∙ after_is s;
        line = λ z. ap (λ (j : ℕ). take j x) k ∙ ap (take i) (sym a) ∙ take-take i (suc i) s (omega arith) ∙ ap (λ (j : ℕ). take j s) (sym m) ∙ line-is s;
        bare = λ z. absurd (false≢true (sym z ∙ last));
      }

  -- the last line may have none
  without : 0 < length s → length s ≤ i → length x ≡ length s → Part s x t
  without q p n =
      let l : line_of s ≡ s = line-whole s i p h in
      let none : length t ≡ 0 = omega (arith, n, ap length e, length-append x t) in
      let own : x ≡ s = sym (append-nil x) ∙ ap (λ (u : List ℕ). x ++ u) (sym (no-byte t none)) ∙ sym e in
      let f : eqb (get_or x (length s - 1) 0) 10 ≡ false = ap (λ (u : List ℕ). eqb (get_or u (length s - 1) 0) 10) own ∙ h.0 (length s - 1) 0 (omega arith) (omega (arith, p, q)) in
      let last : ends_so x ≡ false = last-byte x (length s - 1) (omega (arith, n, q)) ∙ simp f refl in
      record {
        rest = no-byte t none ∙ sym (drop_of_length-le s {i = suc (length (line_of s))} (omega (arith, ap length l))) ∙ after_is s;
        line = λ z. absurd (false≢true (sym last ∙ z));
        bare = λ z. own ∙ sym l;
      }

  pub part : 0 < length s → length x ≡ min (i + 1) (length s) → Part s x t
  part q n = go (ltb i (length s)) refl
    where
      go : (b : Bool) → ltb i (length s) ≡ b → Part s x t
      go true f = let p = ltb-true i (length s) f in with-newline p (omega (arith, n, p))
      go false f = let p = ltb-false i (length s) f in without q p (omega (arith, n, p))

-- ---- as it is read
pub trimmed : {s x t : List ℕ} → Part s x t → (r : Option (Bor (List ℕ))) (d : Bor (List ℕ)) → d.now ≡ x
    → MatchOption r (ends_so x ≡ false) (λ y. (ends_so x ≡ true) × (y.now ≡ take (length x - 1) x) × (length y.now + 1 ≡ length x))
    → (unwrap_or r d).now ≡ line_of s
trimmed p None d e m = e ∙ p.bare m
trimmed p (Some y) d e m = m.1 ∙ p.line m.0

-- a part as it is read is the line, and what follows it is what is left to be read
pub cut-line : (s x t : List ℕ) → s ≡ x ++ t → (i : ℕ) → length x ≡ min (i + 1) (length s) → IsFirstMatchOrLen newline s i → 0 < length s
    → (r : Option (Bor (List ℕ))) (d : Bor (List ℕ)) → d.now ≡ x
    → MatchOption r (ends_so x ≡ false) (λ y. (ends_so x ≡ true) × (y.now ≡ take (length x - 1) x) × (length y.now + 1 ≡ length x))
    → (y : Bor (List ℕ)) → y ≡ unwrap_or r d
    → (t ≡ after_line s) × (y.now ≡ line_of s)
cut-line s x t e i n h q r d a m y u =
    let p : Part s x t = part s x t e i h q n in
    (p.rest, ap (λ (b : Bor (List ℕ)). b.now) u ∙ trimmed p r d a m)
