-- A statement on the order of a few doubles, decided by trying each way that they can be ordered: entries of a list compare as their ranks do,
-- a rank is below the list's length, and a test that holds at all numbers below that length, which antt computes, holds at the doubles.
-- Assumes nothing.
use mathlib.Core.Path.{◌≡◌, refl, sym, ap, ◌∙◌, subst}
use mathlib.Core.Bool.{Bool, true, false, not, ◌&&◌, ◌||◌, false≢true}
use mathlib.Core.List.{List, [], ◌∷◌}
use mathlib.Core.Logic.{◌⊎◌, inl, inr}
use Prim.Native.Nat.{ℕ, zero, suc, ◌≤◌, ◌<◌}
use native.Mathlib.Omega.{arith}
use lib.ListN.{length}
use lib.Dec.{leb, ltb, eqb}
use lib.Ieee.{Float, binary64, lt, le, eq, ne}
use borrow.Author.Tests.{ltb-true, ltb-false, leb-true, leb-false, eqb-true, eqb-false, lt-ltb, le-ltb, le-leb, lt-leb, eq-eqb, ne_eqb}
use Rattle.order.specs.Key.{K, Num}
use Rattle.order.proofs.Rank.{In, here, there, Nums, one_if, count, rank, all, both, imp, every, some, Found}
use Rattle.order.proofs.Keys.{lt-key, le-key, eq-key}

pub in-num : {l : List Float} {x : Float} → In l x → Num x ≡ true
in-num (here p) = p
in-num (there i) = in-num i

-- ---- ranks
one-mono : (z j k : ℕ) → j ≤ k → one_if (ltb z j) ≤ one_if (ltb z k)
one-mono z j k h = go (ltb z j) (ltb z k) (ltb-true z j) (lt-ltb z k)
  where
    go : (s t : Bool) → (s ≡ true → z < j) → (z < k → t ≡ true) → one_if s ≤ one_if t
    go false t p q = omega arith
    go true true p q = omega arith
    go true false p q = absurd (false≢true (q (omega (arith, p refl))))

count-mono : (l : List Float) (j k : ℕ) → j ≤ k → count l j ≤ count l k
unfolding count
count-mono [] j k h = omega arith
count-mono (z ∷ l) j k h = omega (arith, one-mono (K z) j k h, count-mono l j k h)

count-strict : {l : List Float} {x : Float} (k : ℕ) → In l x → K x < k → count l (K x) < count l k
unfolding count
count-strict k (here {l = l} {x = x} p) h =
    rw (le-ltb (K x) (K x) (omega arith), lt-ltb (K x) k h) (omega (arith, count-mono l (K x) k (omega arith)))
count-strict k (there {l = l} {x = x} {y = z} i) h = omega (arith, one-mono (K z) (K x) k (omega arith), count-strict k i h)

one-le : (s : Bool) → one_if s ≤ 1
one-le true = omega arith
one-le false = omega arith

count-le : (l : List Float) (k : ℕ) → count l k ≤ length l
unfolding count
count-le [] k = omega arith
count-le (z ∷ l) k = omega (arith, one-le (ltb (K z) k), count-le l k)

pub rank_lt : {l : List Float} {x : Float} → In l x → rank l x < length l
unfolding count rank
rank_lt (here {l = l} {x = x} p) = rw (le-ltb (K x) (K x) (omega arith)) (omega (arith, count-le l (K x)))
rank_lt (there {l = l} {x = x} {y = z} i) = omega (arith, one-le (ltb (K z) (K x)), rank_lt i)

-- ---- entries of a list compare as their ranks do
ltb-same : (a b x y : ℕ) → (a < b → x < y) → (b ≤ a → y ≤ x) → ltb a b ≡ ltb x y
ltb-same a b x y u v = go (ltb a b) (ltb-true a b) (ltb-false a b)
  where
    go : (s : Bool) → (s ≡ true → a < b) → (s ≡ false → b ≤ a) → s ≡ ltb x y
    go true g h = sym (lt-ltb x y (u (g refl)))
    go false g h = sym (le-ltb x y (v (h refl)))

leb-same : (a b x y : ℕ) → (b < a → y < x) → (a ≤ b → x ≤ y) → leb a b ≡ leb x y
leb-same a b x y u v = go (leb a b) (leb-true a b) (leb-false a b)
  where
    go : (s : Bool) → (s ≡ true → a ≤ b) → (s ≡ false → b < a) → s ≡ leb x y
    go true g h = sym (le-leb x y (v (g refl)))
    go false g h = sym (lt-leb x y (u (h refl)))

eqb-and : (a b : ℕ) → eqb a b ≡ (leb a b && leb b a)
eqb-and a b = go (leb a b) (leb b a) (leb-true a b) (leb-false a b) (leb-true b a) (leb-false b a)
  where
    go : (s t : Bool) → (s ≡ true → a ≤ b) → (s ≡ false → b < a) → (t ≡ true → b ≤ a) → (t ≡ false → a < b) → eqb a b ≡ (s && t)
    go true true g h i j = eq-eqb a b (omega (arith, g refl, i refl))
    go true false g h i j = ne_eqb a b (omega (arith, j refl))
    go false t g h i j = ne_eqb a b (omega (arith, h refl))

module _ (l : List Float) (x y : Float) (i : In l x) (j : In l y) where
  pub lt-rank : lt x y ≡ ltb (rank l x) (rank l y)
  unfolding rank
  lt-rank = lt-key binary64 x y (in-num i) (in-num j) ∙ ltb-same (K x) (K y) (rank l x) (rank l y) (count-strict (K y) i) (count-mono l (K y) (K x))

  leb-rank : leb (K x) (K y) ≡ leb (rank l x) (rank l y)
  unfolding rank
  leb-rank = leb-same (K x) (K y) (rank l x) (rank l y) (count-strict (K x) j) (count-mono l (K x) (K y))

  pub le-rank : le x y ≡ leb (rank l x) (rank l y)
  le-rank = le-key binary64 x y (in-num i) (in-num j) ∙ leb-rank

module _ (l : List Float) (x y : Float) (i : In l x) (j : In l y) where
  pub eq-rank : eq x y ≡ eqb (rank l x) (rank l y)
  eq-rank =
      eq-key binary64 x y (in-num i) (in-num j) ∙ eqb-and (K x) (K y)
      ∙ ap (λ (b : Bool). b && leb (K y) (K x)) (leb-rank l x y i j) ∙ ap (λ (b : Bool). leb (rank l x) (rank l y) && b) (leb-rank l y x j i)
      ∙ sym (eqb-and (rank l x) (rank l y))

  pub ne-rank : ne x y ≡ not (eqb (rank l x) (rank l y))
  ne-rank = unfold ne in ap not eq-rank

-- ---- trial of all numbers below n, and of both truth values
pub and_l : (a b : Bool) → a && b ≡ true → a ≡ true
and_l true b h = refl
and_l false b h = h

pub and_r : (a b : Bool) → a && b ≡ true → b ≡ true
and_r true b h = h
and_r false b h = absurd (false≢true h)

pub and-of : {a b : Bool} → a ≡ true → b ≡ true → a && b ≡ true
and-of {a} {b} p q = ap (λ (t : Bool). t && b) p ∙ q

pub and-off : (a b : Bool) → b ≡ false → a && b ≡ false
and-off true b h = h
and-off false b h = refl

pub all-at : (n : ℕ) (P : ℕ → Bool) → all n P ≡ true → (k : ℕ) → k < n → P k ≡ true
unfolding all
all-at zero P h k b = absurd (omega arith)
all-at (suc n) P h k b = go (eqb k n) (eqb-true k n) (eqb-false k n) (all-at n P (and_r (P n) (all n P) h) k)
  where
    go : (s : Bool) → (s ≡ true → k ≡ n) → (s ≡ false → k ≡ n → ⊥) → (k < n → P k ≡ true) → P k ≡ true
    go true p q r = subst (λ (j : ℕ). P j ≡ true) (sym (p refl)) (and_l (P n) (all n P) h)
    go false p q r = r (omega (arith, q refl))

pub both_at : (P : Bool → Bool) → both P ≡ true → (b : Bool) → P b ≡ true
unfolding both
both_at P h true = and_l (P true) (P false) h
both_at P h false = and_r (P true) (P false) h

-- ---- implication, and a list of candidates
pub imp-at : (a b : Bool) → imp a b ≡ true → a ≡ true → b ≡ true
unfolding imp
imp-at true b h p = h
imp-at false b h p = absurd (false≢true p)

pub imp-of : (a b : Bool) → (a ≡ true → b ≡ true) → imp a b ≡ true
unfolding imp
imp-of true b h = h refl
imp-of false b h = refl

pub or_at : (a b : Bool) → a || b ≡ true → (a ≡ true) ⊎ (b ≡ true)
or_at true b h = inl refl
or_at false b h = inr h

pub every_of : (P : Float → Bool → Bool) → ((w : Float) (g : Bool) → Num w ≡ true → P w g ≡ true) → (l : List Float) → Nums l → every P l ≡ true
unfolding every
every_of P h [] n = refl
every_of P h (w ∷ l) n = and-of (h w true n.0) (and-of (h w false n.0) (every_of P h l n.1))

pub some_at : (P : Float → Bool → Bool) (l : List Float) → Nums l → some P l ≡ true → Found P
unfolding some
some_at P [] n h = absurd (false≢true h)
some_at P (w ∷ l) n h = go (or_at (P w true) (P w false || some P l) h) (or_at (P w false) (some P l)) (some_at P l n.1)
  where
    far : (P w false ≡ true) ⊎ (some P l ≡ true) → (some P l ≡ true → Found P) → Found P
    far (inl p) r = (w, false, n.0, p)
    far (inr p) r = r p

    go : (P w true ≡ true) ⊎ (P w false || some P l ≡ true) → (P w false || some P l ≡ true → (P w false ≡ true) ⊎ (some P l ≡ true)) → (some P l ≡ true → Found P) → Found P
    go (inl p) f r = (w, true, n.0, p)
    go (inr p) f r = far (f p) r

pub or-of-l : (a b : Bool) → a ≡ true → a || b ≡ true
or-of-l true b h = refl
or-of-l false b h = absurd (false≢true h)

pub or-of-r : (a b : Bool) → b ≡ true → a || b ≡ true
or-of-r true b h = refl
or-of-r false b h = h
