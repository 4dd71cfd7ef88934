-- Where a double from -PI to PI stands among the entries of a list of at most seven: its rank, but 0 for -PI and 6 for PI. The doubles compare as these
-- numbers do, so a statement on the order of -PI, PI and up to five doubles between them is tried with -PI at 0 and PI at 6. Assumes nothing.
use mathlib.Core.Path.{◌≡◌, refl, sym, ap, ◌∙◌}
use mathlib.Core.Bool.{Bool, true, false, cond}
use mathlib.Core.List.{List}
use Prim.Native.Nat.{ℕ, ◌≤◌, ◌<◌}
use native.Mathlib.Omega.{arith}
use lib.Dec.{leb, ltb, eqb}
use lib.Ieee.{Float, lt, le, eq, of_bits}
use borrow.Author.Tests.{ltb-true, lt-ltb, le-ltb, le-leb, lt-leb, eq-eqb, ne_eqb}
use Rattle.order.proofs.Rank.{In, rank}
use Rattle.order.proofs.Ranks.{lt-rank, le-rank, eq-rank}
use Rattle.order.proofs.Facts.{tests}
use Rattle.consts.specs.Constants.{PI, NEG-PI}

-- two numbers compare as two others that are in the same order
module _ (n j x y : ℕ) (a : n < j → x < y) (b : n ≡ j → x ≡ y) (c : j < n → y < x) where
  alike : (ltb n j ≡ ltb x y) × (leb n j ≡ leb x y) × (eqb n j ≡ eqb x y)
  alike = go (ltb n j) refl (ltb j n) refl
    where
      go : (s : Bool) → ltb n j ≡ s → (t : Bool) → ltb j n ≡ t → (ltb n j ≡ ltb x y) × (leb n j ≡ leb x y) × (eqb n j ≡ eqb x y)
      go true h t k =
          let p : n < j = ltb-true n j h in
          let q : x < y = a p in
          (lt-ltb n j p ∙ sym (lt-ltb x y q), le-leb n j (omega arith) ∙ sym (le-leb x y (omega arith)), ne_eqb n j (omega arith) ∙ sym (ne_eqb x y (omega arith)))
      go false h true k =
          let p : j < n = ltb-true j n k in
          let q : y < x = c p in
          (le-ltb n j (omega arith) ∙ sym (le-ltb x y (omega arith)), lt-leb n j p ∙ sym (lt-leb x y q), ne_eqb n j (omega arith) ∙ sym (ne_eqb x y (omega arith)))
      go false h false k =
          let p : n ≡ j = omega tests in
          let q : x ≡ y = b p in
          (le-ltb n j (omega arith) ∙ sym (le-ltb x y (omega arith)), le-leb n j (omega arith) ∙ sym (le-leb x y (omega arith)), eq-eqb n j p ∙ sym (eq-eqb x y q))

-- a rank from m to k, moved to 0 and 6 at the two ends
unfoldable spread : ℕ → ℕ → ℕ → ℕ
spread m k n = cond (eqb n m) 0 (cond (eqb n k) 6 n)

module _ (m k : ℕ) (apart : m < k) (few : k < 7) where
  spread-low : spread m k m ≡ 0
  unfolding spread
  spread-low = simp (eq-eqb m m refl)

  spread-high : spread m k k ≡ 6
  unfolding spread
  spread-high = simp (ne_eqb k m (omega arith), eq-eqb k k refl)

  spread-few : (n : ℕ) → n ≤ k → spread m k n < 7
  unfolding spread
  spread-few n h = go (eqb n m) (eqb n k)
    where
      go : (s t : Bool) → cond s 0 (cond t 6 n) < 7
      go true t = omega arith
      go false true = omega arith
      go false false = omega arith

  module _ (n j : ℕ) (from : m ≤ n) (to : j ≤ k) (h : n < j) where
    spread-mono : spread m k n < spread m k j
    unfolding spread
    spread-mono = simp (ne_eqb n k (omega arith), ne_eqb j m (omega arith)) (go (eqb n m) refl (eqb j k) refl)
      where
        go : (s : Bool) → eqb n m ≡ s → (t : Bool) → eqb j k ≡ t → cond s 0 n < cond t 6 j
        go true a true b = omega arith
        go true a false b = omega arith
        go false a true b = omega arith
        go false a false b = omega arith

-- where x stands
pub spot : List Float → Float → ℕ
spot l x = spread (rank l NEG-PI) (rank l PI) (rank l x)

-- an entry from -PI to PI
pub record Stands (l : List Float) (x : Float) : Type 0 where
  pub entry : In l x
  pub west : le NEG-PI x ≡ true
  pub east : le x PI ≡ true

module _ (l : List Float) (N : In l NEG-PI) (P : In l PI) (few : rank l PI < 7) where
  apart : rank l NEG-PI < rank l PI
  apart = let h : lt NEG-PI PI ≡ true = unfold lt of_bits in refl in ltb-true _ _ (sym (lt-rank l NEG-PI PI N P) ∙ h)

  pub spot-low : spot l NEG-PI ≡ 0
  unfolding spot
  spot-low = spread-low (rank l NEG-PI) (rank l PI) apart few

  pub spot-high : spot l PI ≡ 6
  unfolding spot
  spot-high = spread-high (rank l NEG-PI) (rank l PI) apart few

  from : (x : Float) → Stands l x → rank l NEG-PI ≤ rank l x
  from x p = let h = sym (le-rank l NEG-PI x N p.entry) ∙ p.west in omega tests

  to : (x : Float) → Stands l x → rank l x ≤ rank l PI
  to x p = let h = sym (le-rank l x PI p.entry P) ∙ p.east in omega tests

  pub spot-few : (x : Float) → Stands l x → spot l x < 7
  unfolding spot
  spot-few x p = spread-few (rank l NEG-PI) (rank l PI) apart few (rank l x) (to x p)

  module _ (x y : Float) (p : Stands l x) (q : Stands l y) where
    compared : (ltb (rank l x) (rank l y) ≡ ltb (spot l x) (spot l y)) × (leb (rank l x) (rank l y) ≡ leb (spot l x) (spot l y)) × (eqb (rank l x) (rank l y) ≡ eqb (spot l x) (spot l y))
    unfolding spot
    compared =
        alike (rank l x) (rank l y) (spread (rank l NEG-PI) (rank l PI) (rank l x)) (spread (rank l NEG-PI) (rank l PI) (rank l y))
        (spread-mono (rank l NEG-PI) (rank l PI) apart few (rank l x) (rank l y) (from x p) (to y q))
        (λ e. ap (λ (n : ℕ). spread (rank l NEG-PI) (rank l PI) n) e)
        (spread-mono (rank l NEG-PI) (rank l PI) apart few (rank l y) (rank l x) (from y q) (to x p))

    pub lt-spot : lt x y ≡ ltb (spot l x) (spot l y)
    lt-spot = lt-rank l x y p.entry q.entry ∙ compared.0

    pub le-spot : le x y ≡ leb (spot l x) (spot l y)
    le-spot = le-rank l x y p.entry q.entry ∙ compared.1

    pub eq-spot : eq x y ≡ eqb (spot l x) (spot l y)
    eq-spot = eq-rank l x y p.entry q.entry ∙ compared.2
