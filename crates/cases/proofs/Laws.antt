-- What the definitions of cases mean: a case that was written is read back, whatever follows; one that is cut is none; its parts lie in the bytes,
-- and what is handed out was cut out there.
-- By the definitions' own cases. Assumes nothing.
use mathlib.Core.Path.{◌≡◌, refl, sym, subst, ◌∙◌, ap}
use mathlib.Core.Bool.{Bool, true, false, cond}
use mathlib.Core.List.{List, ◌∷◌, ◌++◌, append_assoc}
use Prim.Native.Nat.{ℕ, ◌+◌, ◌-◌, ◌*◌, ◌/◌, ◌%◌, ◌≤◌, ◌<◌}
use native.Mathlib.Omega.{arith}
use borrow.Author.Tests.{leb-true, le-leb, lt-leb}
use lib.ListN.{length, length-append, get_or, take, drop}
use lib.Seq.{take-append_seam, drop-append-add, drop-drop}
use lib.Dec.{leb}
use lib.Arith.{digits_mod}
use Rattle.std.proofs.lemmas.List.{length-take-le, length-drop, take_rest}
use denote.Ref.{Bor}
use Rattle.std.proofs.Common.{Some}
use Rattle.cases.specs.declared.Case.{Case}
use Rattle.cases.specs.Cases.{digit, two, six, end_of, no_case, first_case, case_of, Lies, IsCut, two_bytes, six_bytes, case_bytes}

-- ---- where the parts lie
pub lies : (s : List ℕ) → Lies (first_case s) (length s)
unfolding first_case no_case end_of
lies s = go (leb (end_of s) (length s)) refl
  where
    go : (b : Bool) → leb (end_of s) (length s) ≡ b
        → Lies (cond b (record { sort = get_or s 0 0; label = 12; line = 12 + two s 2; bytes = 12 + two s 2 + 1; end = end_of s }) (no_case (length s))) (length s)
    go true e = (omega arith, omega arith, omega arith, leb-true _ _ e, λ _. omega arith)
    go false e = (omega arith, omega arith, omega arith, omega arith, λ h. h)

-- ---- one that is cut
pub cut_short : (s : List ℕ) → length s < end_of s → first_case s ≡ no_case (length s)
unfolding first_case
cut_short s h = simp (lt-leb (end_of s) (length s) h)

-- ---- one that is whole: its counts are l and n
pub whole-case : (s : List ℕ) (l n : ℕ) → l ≡ two s 2 → n ≡ six s 5 → 12 + l + 1 + n ≤ length s
    → record { sort = get_or s 0 0; label = 12; line = 12 + l; bytes = 12 + l + 1; end = 12 + l + 1 + n } ≡ first_case s
unfolding first_case end_of
whole-case s l n el en h = rw (el, en) (sym (simp (le-leb (12 + two s 2 + 1 + six s 5) (length s) (subst (λ x. x ≤ length s) (simp (el, en)) h))))

-- ---- one that is handed out: it is whole, and was cut out at its places
cut-length : (s : List ℕ) (l a b : ℕ) → b ≡ a + l → b ≤ length s → length (take (b - a) (drop a s)) ≡ l
cut-length s l a b e h = length-take-le (b - a) (drop a s) (omega (arith, length-drop {A = ℕ})) ∙ omega arith

pub handed-out : (s : List ℕ) (l n : ℕ) (c : Case) (rest : Bor (List ℕ)) → l ≡ two s 2 → n ≡ six s 5 → 12 + l + 1 + n ≤ length s
    → c.sort ≡ get_or s 0 0 → c.label.now ≡ take (12 + l - 12) (drop 12 s) → c.bytes.now ≡ take (12 + l + 1 + n - (12 + l + 1)) (drop (12 + l + 1) s)
    → case_of s (Some (c, rest)) ≡ first_case s
unfolding case_of
handed-out s l n c rest el en h sort label bytes =
    rw (sort, ap length label ∙ cut-length s l 12 (12 + l) refl (omega arith), ap length bytes ∙ cut-length s n (12 + l + 1) (12 + l + 1 + n) refl h) (whole-case s l n el en h)

pub cut-out : (s : List ℕ) (l n : ℕ) → l ≡ two s 2 → n ≡ six s 5 → 12 + l + 1 + n ≤ length s
    → IsCut s (first_case s) (take (12 + l - 12) (drop 12 s)) (take (12 + l + 1 + n - (12 + l + 1)) (drop (12 + l + 1) s)) (take (length s - (12 + l + 1 + n)) (drop (12 + l + 1 + n) s))
cut-out s l n el en h = rw (← whole-case s l n el en h) (refl, refl, take_rest s (12 + l + 1 + n))

-- ---- one that is written
digit-back : (d : ℕ) → d < 10 → (48 + d) % 16 ≡ d
digit-back d h = digits_mod 3 {m = 16} (omega arith)

two_back : (n : ℕ) → n < 100 → 10 * ((48 + n / 10) % 16) + (48 + n % 10) % 16 ≡ n
two_back n h = omega (arith, digit-back (n / 10) (omega arith), digit-back (n % 10) (omega arith))

joined : (x y z b a c n : ℕ) → x ≡ b → y ≡ a → z ≡ c → 10000 * b + 100 * a + c ≡ n → n ≡ 10000 * x + 100 * y + z
joined x y z b a c n ex ey ez e = omega arith

parts : (n : ℕ) → 10000 * (n / 100 / 100) + 100 * (n / 100 % 100) + n % 100 ≡ n
parts n = omega arith

-- it is read back, whatever follows
pub read_back : (sort : ℕ) (label bytes rest : List ℕ) → length label < 100 → length bytes < 1000000
    → first_case (case_bytes sort label bytes ++ rest)
    ≡ record { sort = sort; label = 12; line = 12 + length label; bytes = 12 + length label + 1; end = 12 + length label + 1 + length bytes }
unfolding case_bytes six_bytes two_bytes two six digit
read_back sort label bytes rest hl hn =
    let n = length bytes in
    let a = two_back (n / 100 / 100) (omega arith) in
    let b = two_back (n / 100 % 100) (omega arith) in
    let c = two_back (n % 100) (omega arith) in
    sym (whole-case (case_bytes sort label bytes ++ rest) (length label) n (sym (two_back (length label) hl)) (joined _ _ _ _ _ _ n a b c (parts n))
    (omega (arith, length-append (label ++ (10 ∷ bytes)) rest, length-append label (10 ∷ bytes))))

-- and where it says, the label and the bytes lie
pub parts-back : (sort : ℕ) (label bytes rest : List ℕ)
    → (take (length label) (drop 12 (case_bytes sort label bytes ++ rest)) ≡ label)
    × (take (length bytes) (drop (12 + length label + 1) (case_bytes sort label bytes ++ rest)) ≡ bytes)
unfolding case_bytes six_bytes two_bytes
parts-back sort label bytes rest =
    let s = case_bytes sort label bytes ++ rest in
    let e = append_assoc label (10 ∷ bytes) rest in
    let place : 12 + length label + 1 ≡ 12 + (length label + 1) = omega arith in
    let there = ap (λ (n : ℕ). drop n s) place ∙ sym (drop-drop (length label + 1) 12 s) in
    let after : drop (length label + 1) ((label ++ (10 ∷ bytes)) ++ rest) ≡ bytes ++ rest = ap (drop (length label + 1)) e ∙ drop-append-add label (10 ∷ (bytes ++ rest)) 1 in
    (ap (take (length label)) e ∙ take-append_seam label _, ap (take (length bytes)) (there ∙ after) ∙ take-append_seam bytes rest)
