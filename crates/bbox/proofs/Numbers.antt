-- The numbers of the grammar are read, and nothing else is. A run of turns takes a front of the text: so many digits, or fewer with no digit after them. Every
-- text has a front, and a front is worth its digits, by induction on it; the whole degrees and the decimals are a front each. Assumes nothing.
use mathlib.Core.Path.{◌≡◌, refl, sym, ap, subst, ◌∙◌}
use mathlib.Core.Bool.{Bool, true, false, cond}
use mathlib.Core.List.{List, [], ◌∷◌, ◌++◌, append_assoc}
use Prim.Native.Nat.{ℕ, zero, suc, ◌+◌, ◌-◌, ◌*◌, ◌^◌, ◌≤◌, ◌<◌}
use native.Mathlib.Nat.{add-mul, mul_assoc, pow-succ'}
use native.Mathlib.Omega.{arith}
use borrow.Author.Tests.{eqb-true, lt-ltb, eq-eqb, ne_eqb}
use lib.Dec.{eqb}
use lib.ListN.{get_or, length, drop, length-append}
use lib.Pow.{pow-add}
use lib.IntN.{ℤ}
use Rattle.text.specs.Text.{digit_value, value}
use Rattle.bbox.specs.declared.number.Run.{Run}
use Rattle.bbox.specs.Reading.{Reading, Got, Bad}
use Rattle.bbox_text.specs.Grammar.{is_digit, are_digits, Int, zero-alone, one-to-three, Frac, no-point, with-point, is_space, minus_text, signed, Number, is_number}
use Rattle.bbox.specs.Reading.{turn_of, turns_of, whole_of, got_of, fraction_of, point_of, magnitude_of, number_of}
use Rattle.bounds.proofs.Tests.{and_left, and_right}
use Rattle.bbox_text.proofs.Digits.{digit_low, digit-high}
use Rattle.bbox.proofs.Positions.{first, past, next, here}

-- ---- a front of at most n digits t, and after them no digit where they are fewer
data Front : ℕ → List ℕ → List ℕ → Type 0 where
  full : (rest : List ℕ) → Front 0 [] rest
  ended : (n : ℕ) (rest : List ℕ) → is_digit (get_or rest 0 0) ≡ false → Front n [] rest
  more : (n d : ℕ) (t rest : List ℕ) → is_digit d ≡ true → Front n t rest → Front (suc n) (d ∷ t) rest

digits-cons : (d : ℕ) (t : List ℕ) → are_digits (d ∷ t) ≡ true → (is_digit d ≡ true) × (are_digits t ≡ true)
unfolding are_digits
digits-cons d t h = (and_left (is_digit d) (are_digits t) h, and_right (is_digit d) (are_digits t) h)

-- a text of digits, with no digit after it
front : (n : ℕ) (t rest : List ℕ) → are_digits t ≡ true → length t ≤ n → is_digit (get_or rest 0 0) ≡ false → Front n t rest
front n [] rest h l e = ended n rest e
front zero (d ∷ t) rest h l e = absurd (omega arith)
front (suc n) (d ∷ t) rest h l e = more n d t rest (digits-cons d t h).0 (front n t rest (digits-cons d t h).1 (omega arith) e)

-- every text has a front
record Fronted (n : ℕ) (l : List ℕ) : Type 0 where
  digits : List ℕ
  rest : List ℕ
  text : l ≡ digits ++ rest
  taken : Front n digits rest

fronted : (n : ℕ) (l : List ℕ) → Fronted n l
fronted zero l = record { digits = []; rest = l; text = refl; taken = full l }
fronted (suc n) [] = record { digits = []; rest = []; text = refl; taken = ended (suc n) [] (unfold is_digit in refl) }
fronted (suc n) (b ∷ l) = go (is_digit b) refl (fronted n l)
  where
    go : (t : Bool) → is_digit b ≡ t → Fronted n l → Fronted (suc n) (b ∷ l)
    go true e f = record { digits = b ∷ f.digits; rest = f.rest; text = ap (λ (k : List ℕ). b ∷ k) f.text; taken = more n b f.digits f.rest e f.taken }
    go false e f = record { digits = []; rest = b ∷ l; text = refl; taken = ended (suc n) (b ∷ l) e }

front-digits : {n : ℕ} {t rest : List ℕ} → Front n t rest → are_digits t ≡ true
unfolding are_digits
front-digits (full rest) = refl
front-digits (ended n rest e) = refl
front-digits (more n d t rest h f) = simp (h, front-digits f)

front_length : {n : ℕ} {t rest : List ℕ} → Front n t rest → length t ≤ n
front_length (full rest) = omega arith
front_length (ended n rest e) = omega arith
front_length (more n d t rest h f) = omega (arith, front_length f)

-- ---- turns: a digit, no digit, a front
digit-value : (d : ℕ) → is_digit d ≡ true → digit_value d ≡ d - 48
unfolding digit_value
digit-value d h = simp (lt-ltb d 58 (omega (arith, digit-high d h)))

same-run : {a b c d : ℕ} → a ≡ b → c ≡ d → ◌≡◌ {A = Run} (record { value = a; next = c }) (record { value = b; next = d })
same-run {a} {b} {c} {d} p q = ap (λ (k : ℕ). record { value = k; next = c }) p ∙ ap (λ (k : ℕ). record { value = b; next = k }) q

turn-digit : (pad : Bool) (s : List ℕ) (v at d : ℕ) (l : List ℕ) → is_digit d ≡ true → drop at s ≡ d ∷ l
    → turn_of pad s (record { value = v; next = at }) ≡ record { value = v * 10 + (d - 48); next = at + 1 }
unfolding turn_of
turn-digit pad s v at d l h e = simp (first s at (d ∷ l) e, h)

turn-none : (pad : Bool) (s : List ℕ) (v at : ℕ) → is_digit (get_or s at 0) ≡ false
    → turn_of pad s (record { value = v; next = at }) ≡ cond pad (record { value = v * 10; next = at }) (record { value = v; next = at })
unfolding turn_of
turn-none pad s v at h = simp h

-- what k digits that are not there multiply by
unfoldable padding : Bool → ℕ → ℕ
padding true k = 10 ^ k
padding false k = 1

no-padding : (pad : Bool) → padding pad 0 ≡ 1
unfolding padding
no-padding true = refl
no-padding false = refl

turns-none : (n : ℕ) (pad : Bool) (s : List ℕ) (v at : ℕ) → is_digit (get_or s at 0) ≡ false
    → turns_of n pad s (record { value = v; next = at }) ≡ record { value = v * padding pad n; next = at }
unfolding turns_of padding
turns-none zero pad s v at h = same-run (omega (arith, ap (λ (k : ℕ). v * k) (no-padding pad))) refl
turns-none (suc n) true s v at h =
    ap (turns_of n true s) (turn-none true s v at h) ∙ turns-none n true s (v * 10) at h
    ∙ same-run (mul_assoc v 10 (10 ^ n) ∙ ap (λ (k : ℕ). v * k) (sym (pow-succ' 10 n))) refl
turns-none (suc n) false s v at h = ap (turns_of n false s) (turn-none false s v at h) ∙ turns-none n false s v at h

digit-more : (v d : ℕ) (t : List ℕ) → is_digit d ≡ true
    → (v * 10 + (d - 48)) * 10 ^ length t + value 10 t ≡ v * 10 ^ suc (length t) + (digit_value d * 10 ^ length t + value 10 t)
digit-more v d t h =
    let p : ℕ = 10 ^ length t in
    omega (arith, add-mul (v * 10) (d - 48) p, mul_assoc v 10 p, ap (λ (k : ℕ). v * k) (pow-succ' 10 (length t)), ap (λ (k : ℕ). k * p) (digit-value d h))

turns-front : {n : ℕ} {t rest : List ℕ} (pad : Bool) (s : List ℕ) (v at : ℕ) → Front n t rest → drop at s ≡ t ++ rest
    → turns_of n pad s (record { value = v; next = at })
    ≡ record { value = (v * 10 ^ length t + value 10 t) * padding pad (n - length t); next = at + length t }
unfolding turns_of value
turns-front pad s v at (full rest) e = same-run (omega (arith, ap (λ (k : ℕ). (v * 1 + 0) * k) (no-padding pad))) (omega arith)
turns-front pad s v at (ended n rest h) e =
    let z : n - 0 ≡ n = omega arith in
    let u : v ≡ v * 1 + 0 = omega arith in
    turns-none n pad s v at (ap is_digit (first s at rest e) ∙ h)
    ∙ same-run (ap (λ (k : ℕ). k * padding pad n) u ∙ ap (λ (k : ℕ). (v * 1 + 0) * padding pad k) (sym z)) (omega arith)
turns-front pad s v at (more n d t rest h f) e =
    let z : n - length t ≡ suc n - suc (length t) = omega arith in
    ap (turns_of n pad s) (turn-digit pad s v at d (t ++ rest) h e)
    ∙ turns-front pad s (v * 10 + (d - 48)) (at + 1) f (next s at d (t ++ rest) e)
    ∙ same-run (ap (λ (k : ℕ). k * padding pad (n - length t)) (digit-more v d t h)
    ∙ ap (λ (k : ℕ). (v * 10 ^ suc (length t) + (digit_value d * 10 ^ length t + value 10 t)) * padding pad k) z) (omega arith)

-- ---- the whole degrees
whole-zero : (s : List ℕ) (at : ℕ) (rest : List ℕ) → drop at s ≡ 48 ∷ rest → whole_of s at ≡ record { value = 0; next = at + 1 }
unfolding whole_of is_digit value digit_value padding
whole-zero s at rest e = simp (eq-eqb (get_or s at 0) 48 (first s at (48 ∷ rest) e)) (turns-front false s 0 at (more 0 48 [] rest refl (full rest)) e)

whole-other : (s : List ℕ) (at d : ℕ) (t rest : List ℕ) → is_digit d ≡ true → eqb d 48 ≡ false → Front 2 t rest → drop at s ≡ d ∷ (t ++ rest)
    → whole_of s at ≡ record { value = value 10 (d ∷ t); next = at + length (d ∷ t) }
unfolding whole_of padding
whole-other s at d t rest h z f e =
    let b : eqb (get_or s at 0) 48 ≡ false = ap (λ (k : ℕ). eqb k 48) (first s at (d ∷ (t ++ rest)) e) ∙ z in
    simp b (turns-front false s 0 at (more 2 d t rest h f) e ∙ same-run (omega arith) refl)

read_whole : (s : List ℕ) (at : ℕ) {i : List ℕ} (rest : List ℕ) → Int i → drop at s ≡ i ++ rest → is_digit (get_or rest 0 0) ≡ false
    → whole_of s at ≡ record { value = value 10 i; next = at + length i }
unfolding value digit_value
read_whole s at rest zero-alone e stop = whole-zero s at rest e
read_whole s at rest (one-to-three d t h z ds l) e stop = whole-other s at d t rest h z (front 2 t rest ds l stop) e

record Whole (s : List ℕ) (at : ℕ) (r : Run) : Type 0 where
  digits : List ℕ
  rest : List ℕ
  int : Int digits
  text : drop at s ≡ digits ++ rest
  is : r ≡ record { value = value 10 digits; next = at + length digits }

found-whole : (s : List ℕ) (at : ℕ) → is_digit (get_or s at 0) ≡ true → Whole s at (whole_of s at)
unfolding value digit_value
found-whole s at h = go (eqb (get_or s at 0) 48) refl
  where
    d : ℕ
    d = get_or s at 0

    e : drop at s ≡ d ∷ drop (at + 1) s
    e = here s at (omega (arith, digit_low d h))

    go : (b : Bool) → eqb d 48 ≡ b → Whole s at (whole_of s at)
    go true z =
        let e0 : drop at s ≡ 48 ∷ drop (at + 1) s = e ∙ ap (λ (k : ℕ). k ∷ drop (at + 1) s) (eqb-true d 48 z) in
        record { digits = 48 ∷ []; rest = drop (at + 1) s; int = zero-alone; text = e0; is = whole-zero s at (drop (at + 1) s) e0 }
    go false z =
        let f : Fronted 2 (drop (at + 1) s) = fronted 2 (drop (at + 1) s) in
        let e1 : drop at s ≡ d ∷ (f.digits ++ f.rest) = e ∙ ap (λ (k : List ℕ). d ∷ k) f.text in
        record {
          digits = d ∷ f.digits;
          rest = f.rest;
          int = one-to-three d f.digits h z (front-digits f.taken) (front_length f.taken);
          text = e1;
          is = whole-other s at d f.digits f.rest h z f.taken e1;
        }

-- ---- the decimals
padded : (v w k : ℕ) → k ≤ 7 → (v * 10 ^ k + w) * 10 ^ (7 - k) ≡ v * 10000000 + w * 10 ^ (7 - k)
padded v w k h =
    let p : ℕ = 10 ^ (7 - k) in
    let z : k + (7 - k) ≡ 7 = omega arith in
    let q : 10 ^ k * p ≡ 10000000 = sym (pow-add 10 k (7 - k)) ∙ ap (λ (j : ℕ). 10 ^ j) z in
    omega (arith, add-mul (v * 10 ^ k) w p, mul_assoc v (10 ^ k) p, ap (λ (j : ℕ). v * j) q)

fraction-front : (s : List ℕ) (v at d : ℕ) (t rest : List ℕ) → is_digit d ≡ true → Front 6 t rest → drop (at + 1) s ≡ d ∷ (t ++ rest)
    → fraction_of s (record { value = v; next = at })
    ≡ record { value = v * 10000000 + value 10 (d ∷ t) * 10 ^ (7 - length (d ∷ t)); next = at + length (46 ∷ (d ∷ t)) }
unfolding fraction_of padding
fraction-front s v at d t rest h f e =
    turns-front true s v (at + 1) (more 6 d t rest h f) e
    ∙ same-run (padded v (value 10 (d ∷ t)) (length (d ∷ t)) (omega (arith, front_length f))) (omega arith)

module _ (s : List ℕ) (minus : Bool) (v at : ℕ) where
  point-none : eqb (get_or s at 0) 46 ≡ false → point_of s minus (record { value = v; next = at }) ≡ got_of minus (v * 10000000 + 0) (at + 0)
  unfolding point_of
  point-none b =
      let p : v * 10000000 ≡ v * 10000000 + 0 = omega arith in
      let q : at ≡ at + 0 = omega arith in
      simp b (ap (λ (k : ℕ). got_of minus k at) p ∙ ap (got_of minus (v * 10000000 + 0)) q)

  point-bad : eqb (get_or s at 0) 46 ≡ true → is_digit (get_or s (at + 1) 0) ≡ false → point_of s minus (record { value = v; next = at }) ≡ Bad
  unfolding point_of
  point-bad b h = simp (b, h)

  point-some : (d : ℕ) (t rest : List ℕ) → eqb (get_or s at 0) 46 ≡ true → is_digit d ≡ true → Front 6 t rest → drop (at + 1) s ≡ d ∷ (t ++ rest)
      → point_of s minus (record { value = v; next = at }) ≡ got_of minus (v * 10000000 + value 10 (d ∷ t) * 10 ^ (7 - length (d ∷ t))) (at + length (46 ∷ (d ∷ t)))
  unfolding point_of
  point-some d t rest b h f e =
      let g : is_digit (get_or s (at + 1) 0) ≡ true = ap is_digit (first s (at + 1) (d ∷ (t ++ rest)) e) ∙ h in
      simp (b, g, fraction-front s v at d t rest h f e)

read-point : (s : List ℕ) (minus : Bool) (v at : ℕ) {f : List ℕ} {n : ℕ} (rest : List ℕ) → Frac f n → drop at s ≡ f ++ rest → is_digit (get_or rest 0 0) ≡ false
    → eqb (get_or rest 0 0) 46 ≡ false → point_of s minus (record { value = v; next = at }) ≡ got_of minus (v * 10000000 + n) (at + length f)
read-point s minus v at rest no-point e stop bare = point-none s minus v at (ap (λ (k : ℕ). eqb k 46) (first s at rest e) ∙ bare)
read-point s minus v at rest (with-point t ds l u) e stop bare = go t ds l u e
  where
    go : (t : List ℕ) → are_digits t ≡ true → 0 < length t → length t ≤ 7 → drop at s ≡ 46 ∷ (t ++ rest)
        → point_of s minus (record { value = v; next = at }) ≡ got_of minus (v * 10000000 + value 10 t * 10 ^ (7 - length t)) (at + length (46 ∷ t))
    go [] ds l u e = absurd (omega arith)
    go (d ∷ t) ds l u e =
        let h : (is_digit d ≡ true) × (are_digits t ≡ true) = digits-cons d t ds in
        point-some s minus v at d t rest (eq-eqb (get_or s at 0) 46 (first s at (46 ∷ (d ∷ (t ++ rest))) e)) h.0 (front 6 t rest h.1 (omega arith) stop)
        (next s at 46 (d ∷ (t ++ rest)) e)

-- what was read at a position: the text's part, its worth, and what follows
record Decimals (s : List ℕ) (minus : Bool) (v at : ℕ) (z : ℤ) (n : ℕ) : Type 0 where
  part : List ℕ
  worth : ℕ
  rest : List ℕ
  frac : Frac part worth
  text : drop at s ≡ part ++ rest
  size : z ≡ signed minus (v * 10000000 + worth)
  after : n ≡ at + length part

abbrev HasDecimals : List ℕ → Bool → ℕ → ℕ → Reading → Type 0
HasDecimals s minus v at Bad = Unit
HasDecimals s minus v at (Got z n) = Decimals s minus v at z n

found-point : (s : List ℕ) (minus : Bool) (v at : ℕ) → HasDecimals s minus v at (point_of s minus (record { value = v; next = at }))
unfolding got_of
found-point s minus v at = go (eqb (get_or s at 0) 46) (is_digit (get_or s (at + 1) 0)) refl refl
  where
    d : ℕ
    d = get_or s (at + 1) 0

    got : (part : List ℕ) (worth : ℕ) (rest : List ℕ) → Frac part worth → drop at s ≡ part ++ rest
        → HasDecimals s minus v at (got_of minus (v * 10000000 + worth) (at + length part))
    got part worth rest f e = record { part = part; worth = worth; rest = rest; frac = f; text = e; size = refl; after = refl }

    go : (b c : Bool) → eqb (get_or s at 0) 46 ≡ b → is_digit d ≡ c → HasDecimals s minus v at (point_of s minus (record { value = v; next = at }))
    go false c b h = subst (HasDecimals s minus v at) (sym (point-none s minus v at b)) (got [] 0 (drop at s) no-point refl)
    go true false b h = subst (HasDecimals s minus v at) (sym (point-bad s minus v at b h)) tt
    go true true b h =
        let p : get_or s at 0 ≡ 46 = eqb-true (get_or s at 0) 46 b in
        let f : Fronted 6 (drop (at + 1 + 1) s) = fronted 6 (drop (at + 1 + 1) s) in
        let t : List ℕ = d ∷ f.digits in
        let e : drop (at + 1) s ≡ t ++ f.rest = here s (at + 1) (omega (arith, digit_low d h)) ∙ ap (λ (k : List ℕ). d ∷ k) f.text in
        let e0 : drop at s ≡ 46 ∷ (t ++ f.rest) = here s at (omega arith) ∙ ap (λ (k : ℕ). k ∷ drop (at + 1) s) p ∙ ap (λ (k : List ℕ). 46 ∷ k) e in
        let ds : are_digits t ≡ true = front-digits (more 6 d f.digits f.rest h f.taken) in
        subst (HasDecimals s minus v at) (sym (point-some s minus v at d f.digits f.rest b h f.taken e))
        (got (46 ∷ t) (value 10 t * 10 ^ (7 - length t)) f.rest (with-point t ds (omega arith) (omega (arith, front_length f.taken))) e0)

-- ---- a size: the whole degrees and the decimals
int-first : {i : List ℕ} (rest : List ℕ) → Int i → is_digit (get_or (i ++ rest) 0 0) ≡ true
unfolding is_digit
int-first rest zero-alone = refl
int-first rest (one-to-three d t h z ds l) = h

frac-first : {f : List ℕ} {n : ℕ} (rest : List ℕ) → Frac f n → is_digit (get_or rest 0 0) ≡ false → is_digit (get_or (f ++ rest) 0 0) ≡ false
unfolding is_digit
frac-first rest no-point stop = stop
frac-first rest (with-point t ds l u) stop = refl

read-size : (s : List ℕ) (minus : Bool) (at : ℕ) {i f : List ℕ} {n : ℕ} (rest : List ℕ) → Int i → Frac f n → drop at s ≡ i ++ (f ++ rest)
    → is_digit (get_or rest 0 0) ≡ false → eqb (get_or rest 0 0) 46 ≡ false
    → magnitude_of s at minus ≡ got_of minus (value 10 i * 10000000 + n) (at + length i + length f)
unfolding magnitude_of
read-size s minus at {i} {f} rest int frac e stop bare =
    let d : is_digit (get_or s at 0) ≡ true = ap is_digit (first s at (i ++ (f ++ rest)) e) ∙ int-first (f ++ rest) int in
    simp (d, read_whole s at (f ++ rest) int e (frac-first rest frac stop))
    (read-point s minus (value 10 i) (at + length i) rest frac (past s at i (f ++ rest) e) stop bare)

record Sized (s : List ℕ) (minus : Bool) (at : ℕ) (z : ℤ) (n : ℕ) : Type 0 where
  whole : List ℕ
  part : List ℕ
  worth : ℕ
  rest : List ℕ
  int : Int whole
  frac : Frac part worth
  text : drop at s ≡ whole ++ (part ++ rest)
  size : z ≡ signed minus (value 10 whole * 10000000 + worth)
  after : n ≡ at + length whole + length part

abbrev HasSize : List ℕ → Bool → ℕ → Reading → Type 0
HasSize s minus at Bad = Unit
HasSize s minus at (Got z n) = Sized s minus at z n

found-size : (s : List ℕ) (minus : Bool) (at : ℕ) → HasSize s minus at (magnitude_of s at minus)
unfolding magnitude_of
found-size s minus at = go (is_digit (get_or s at 0)) refl
  where
    sized : (i rest : List ℕ) (r : Reading) → Int i → drop at s ≡ i ++ rest → HasDecimals s minus (value 10 i) (at + length i) r → HasSize s minus at r
    sized i rest Bad int e h = tt
    sized i rest (Got z n) int e h =
        record {
          whole = i;
          part = h.part;
          worth = h.worth;
          rest = h.rest;
          int = int;
          frac = h.frac;
          text = e ∙ ap (λ (k : List ℕ). i ++ k) (sym (past s at i rest e) ∙ h.text);
          size = h.size;
          after = h.after;
        }

    go : (b : Bool) → is_digit (get_or s at 0) ≡ b → HasSize s minus at (cond b (point_of s minus (whole_of s at)) Bad)
    go false b = tt
    go true b =
        let w : Whole s at (whole_of s at) = found-whole s at b in
        let i : List ℕ = w.digits in
        subst (λ (r : Run). HasSize s minus at (point_of s minus r)) (sym w.is)
        (sized i w.rest (point_of s minus (record { value = value 10 i; next = at + length i })) w.int w.text (found-point s minus (value 10 i) (at + length i)))

-- ---- a number, with a minus or none
minus-first : (minus : Bool) {i : List ℕ} (rest : List ℕ) → Int i → eqb (get_or (minus_text minus ++ (i ++ rest)) 0 0) 45 ≡ minus
unfolding minus_text
minus-first true rest int = refl
minus-first false {i} rest int = ne_eqb (get_or (i ++ rest) 0 0) 45 (λ k. omega (arith, digit_low (get_or (i ++ rest) 0 0) (int-first rest int)))

number_step : (s : List ℕ) (at : ℕ) (minus : Bool) → eqb (get_or s at 0) 45 ≡ minus → number_of s at ≡ magnitude_of s (at + length (minus_text minus)) minus
unfolding number_of minus_text
number_step s at true b = simp b
number_step s at false b =
    let z : at ≡ at + 0 = omega arith in
    simp b (ap (λ (k : ℕ). magnitude_of s k false) z)

number-text : (minus : Bool) (i f rest : List ℕ) → (minus_text minus ++ (i ++ f)) ++ rest ≡ minus_text minus ++ (i ++ (f ++ rest))
number-text minus i f rest = append_assoc (minus_text minus) (i ++ f) rest ∙ ap (λ (k : List ℕ). minus_text minus ++ k) (append_assoc i f rest)

number-length : (minus : Bool) (i f : List ℕ) → length (minus_text minus ++ (i ++ f)) ≡ length (minus_text minus) + length i + length f
number-length minus i f = omega (arith, length-append (minus_text minus) (i ++ f), length-append i f)

-- no number begins with a space
digit-no-space : (b : ℕ) → is_digit b ≡ true → is_space b ≡ false
unfolding is_space
digit-no-space b h =
    let lo : 48 ≤ b = digit_low b h in
    simp (ne_eqb b 32 (λ k. omega arith), ne_eqb b 9 (λ k. omega arith), ne_eqb b 10 (λ k. omega arith), ne_eqb b 13 (λ k. omega arith))

signed-first : (minus : Bool) {i : List ℕ} (rest : List ℕ) → Int i → is_space (get_or (minus_text minus ++ (i ++ rest)) 0 0) ≡ false
unfolding minus_text is_space
signed-first true rest int = refl
signed-first false {i} rest int = digit-no-space (get_or (i ++ rest) 0 0) (int-first rest int)

pub number-first : (t rest : List ℕ) (z : ℤ) → Number t z → is_space (get_or (t ++ rest) 0 0) ≡ false
number-first t rest z (is_number minus i f n int frac) =
    ap (λ (k : List ℕ). is_space (get_or k 0 0)) (number-text minus i f rest) ∙ signed-first minus (f ++ rest) int

-- a number of the grammar is read, with its meaning, where no digit and no point follow
pub accepted-number : (s : List ℕ) (at : ℕ) (t rest : List ℕ) (z : ℤ) → Number t z → drop at s ≡ t ++ rest → is_digit (get_or rest 0 0) ≡ false
    → eqb (get_or rest 0 0) 46 ≡ false → number_of s at ≡ Got z (at + length t)
unfolding got_of
accepted-number s at t rest z (is_number minus i f n int frac) e stop bare =
    let m : List ℕ = minus_text minus in
    let e0 : drop at s ≡ m ++ (i ++ (f ++ rest)) = e ∙ number-text minus i f rest in
    let b : eqb (get_or s at 0) 45 ≡ minus = ap (λ (k : ℕ). eqb k 45) (first s at (m ++ (i ++ (f ++ rest))) e0) ∙ minus-first minus (f ++ rest) int in
    let l : at + length m + length i + length f ≡ at + length (m ++ (i ++ f)) = omega (arith, number-length minus i f) in
    number_step s at minus b ∙ read-size s minus (at + length m) rest int frac (past s at m (i ++ (f ++ rest)) e0) stop bare
    ∙ ap (got_of minus (value 10 i * 10000000 + n)) l

-- a number of the grammar stands from at to n
pub record NumberAt (s : List ℕ) (at : ℕ) (z : ℤ) (n : ℕ) : Type 0 where
  pub text : List ℕ
  pub number : Number text z
  pub from : drop at s ≡ text ++ drop n s
  pub after : n ≡ at + length text

abbrev HasNumber : List ℕ → ℕ → Reading → Type 0
HasNumber s at Bad = Unit
HasNumber s at (Got z n) = NumberAt s at z n

minus-here : (s : List ℕ) (at : ℕ) (minus : Bool) → eqb (get_or s at 0) 45 ≡ minus → drop at s ≡ minus_text minus ++ drop (at + length (minus_text minus)) s
unfolding minus_text
minus-here s at true b =
    let p : get_or s at 0 ≡ 45 = eqb-true (get_or s at 0) 45 b in
    here s at (omega arith) ∙ ap (λ (k : ℕ). k ∷ drop (at + 1) s) p
minus-here s at false b =
    let z : at ≡ at + 0 = omega arith in
    ap (λ (k : ℕ). drop k s) z

found_number : (s : List ℕ) (at : ℕ) → HasNumber s at (number_of s at)
found_number s at = go (eqb (get_or s at 0) 45) refl
  where
    signed-number : (minus : Bool) (r : Reading) → drop at s ≡ minus_text minus ++ drop (at + length (minus_text minus)) s
        → HasSize s minus (at + length (minus_text minus)) r → HasNumber s at r
    signed-number minus Bad e h = tt
    signed-number minus (Got z n) e h =
        let t : List ℕ = minus_text minus ++ (h.whole ++ h.part) in
        let e0 : drop at s ≡ t ++ h.rest = e ∙ ap (λ (k : List ℕ). minus_text minus ++ k) h.text ∙ sym (number-text minus h.whole h.part h.rest) in
        let l : n ≡ at + length t = omega (arith, h.after, number-length minus h.whole h.part) in
        record {
          text = t;
          number = subst (λ (k : ℤ). Number t k) (sym h.size) (is_number minus h.whole h.part h.worth h.int h.frac);
          from = e0 ∙ ap (λ (k : List ℕ). t ++ k) (sym (past s at t h.rest e0) ∙ ap (λ (k : ℕ). drop k s) (sym l));
          after = l;
        }

    go : (minus : Bool) → eqb (get_or s at 0) 45 ≡ minus → HasNumber s at (number_of s at)
    go minus b =
        subst (HasNumber s at) (sym (number_step s at minus b))
        (signed-number minus (magnitude_of s (at + length (minus_text minus)) minus) (minus-here s at minus b) (found-size s minus (at + length (minus_text minus))))

-- nothing else is read
pub only-numbers : (s : List ℕ) (at : ℕ) (z : ℤ) (n : ℕ) → number_of s at ≡ Got z n → NumberAt s at z n
only-numbers s at z n e = subst (HasNumber s at) e (found_number s at)
