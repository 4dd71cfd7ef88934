-- The first refusal of a list and its entry: the entry is the first that is refused, all before it are accepted, and the number is that entry's own. By
-- induction on the list, once for entries of every kind. Assumes nothing.
use mathlib.Core.Path.{◌≡◌, refl, sym, ap, ◌∙◌, subst}
use mathlib.Core.Bool.{Bool, true, false}
use mathlib.Core.List.{List, [], ◌∷◌}
use mathlib.Core.Logic.{◌⊎◌, inl, inr, ◌↔◌}
use Prim.Native.Nat.{ℕ, zero, suc, ◌+◌, ◌≤◌, ◌<◌}
use native.Mathlib.Nat.{not-suc-le-zero}
use native.Mathlib.Numerals.{add-one}
use native.Mathlib.Omega.{arith}
use borrow.Author.Tests.{eqb-true, eqb-false, eq-eqb, ne_eqb}
use lib.Dec.{eqb}
use lib.ListN.{length, take, get_or}
use lib.Seq.{take_all, take-suc}
use Rattle.consts.specs.Refusal.{first_refusal}
use Rattle.entries.specs.Lists.{All}
use Rattle.entries.specs.First.{First, first_number, first_entry, first_of}
use Rattle.entries.proofs.Entries.{all_append}

module _ {A : Type 0} (why : A → ℕ) where
  -- an entry that is not refused
  abbrev pub Good : A → Type 0
  Good x = why x ≡ 0

  -- the entry k is the first that is refused, and n is its number
  pub record IsFirst (l : List A) (n k : ℕ) : Type 0 where
    pub there : k < length l
    pub own : (d : A) → why (get_or l k d) ≡ n
    pub refuses : n ≡ 0 → ⊥
    pub before : All Good (take k l)

  -- ---- the first entry is accepted, or it is refused
  pub passed : (x : A) (l : List A) → Good x → first_number why (x ∷ l) ≡ first_number why l
  unfolding first_number first_refusal
  passed x l e = rw (eq-eqb (why x) 0 e) refl

  passed_entry : (x : A) (l : List A) → Good x → (first_number why l ≡ 0 → ⊥) → first_entry why (x ∷ l) ≡ suc (first_entry why l)
  unfolding first_entry
  passed_entry x l e h = rw (eq-eqb (why x) 0 e, ne_eqb (first_number why l) 0 h) refl

  passed_none : (x : A) (l : List A) → Good x → first_number why l ≡ 0 → first_entry why (x ∷ l) ≡ 0
  unfolding first_entry
  passed_none x l e h = rw (eq-eqb (why x) 0 e, eq-eqb (first_number why l) 0 h) refl

  pub stopped : (x : A) (l : List A) → (Good x → ⊥) → first_number why (x ∷ l) ≡ why x
  unfolding first_number first_refusal
  stopped x l h = rw (ne_eqb (why x) 0 h) refl

  stopped-entry : (x : A) (l : List A) → (Good x → ⊥) → first_entry why (x ∷ l) ≡ 0
  unfolding first_entry
  stopped-entry x l h = rw (ne_eqb (why x) 0 h) refl

  decide : (x : A) → Good x ⊎ (Good x → ⊥)
  decide x = go (eqb (why x) 0) refl
    where
      go : (t : Bool) → eqb (why x) 0 ≡ t → Good x ⊎ (Good x → ⊥)
      go true e = inl (eqb-true (why x) 0 e)
      go false e = inr (eqb-false (why x) 0 e)

  -- ---- what is told
  -- of a list in which none is refused: 0 beside 0
  pub none_told : (l : List A) → All Good l → first_of why l ≡ record { refusal = 0; entry = 0 }
  unfolding first_number first_entry
  none_told [] a = refl
  none_told (x ∷ l) a =
      let none : first_number why l ≡ 0 = ap (λ (f : First). f.refusal) (none_told l a.1) in
      λ i. record { refusal = (passed x l a.0 ∙ none) i; entry = passed_none x l a.0 none i }

  -- of any other: the first, and its number
  pub first-told : (l : List A) (n k : ℕ) → IsFirst l n k → first_of why l ≡ record { refusal = n; entry = k }
  first-told [] n k f = absurd (not-suc-le-zero f.there)
  first-told (x ∷ l) n zero f =
      let here : Good x → ⊥ = λ w. f.refuses (sym (f.own x) ∙ w) in
      λ i. record { refusal = (stopped x l here ∙ f.own x) i; entry = stopped-entry x l here i }
  first-told (x ∷ l) n (suc k) f =
      let rest : IsFirst l n k = record { there = omega (arith, f.there); own = f.own; refuses = f.refuses; before = f.before.1 } in
      let told = first-told l n k rest in
      let number_is : first_number why l ≡ n = ap (λ (f : First). f.refusal) told in
      let entry-is : first_entry why l ≡ k = ap (λ (f : First). f.entry) told in
      λ i. record {
        refusal = (passed x l f.before.0 ∙ number_is) i;
        entry = (passed_entry x l f.before.0 (λ w. f.refuses (sym number_is ∙ w)) ∙ ap suc entry-is) i;
      }

  -- and one of the two is told
  pub decided : (l : List A) → All Good l ⊎ IsFirst l (first_number why l) (first_entry why l)
  decided [] = inl tt
  decided (x ∷ l) = go (decide x) (decided l)
    where
      first : (l : List A) (n k : ℕ) → first_of why l ≡ record { refusal = n; entry = k } → IsFirst l n k → IsFirst l (first_number why l) (first_entry why l)
      first l n k e f = rw (ap (λ (f : First). f.refusal) e, ap (λ (f : First). f.entry) e) f

      go : Good x ⊎ (Good x → ⊥) → All Good l ⊎ IsFirst l (first_number why l) (first_entry why l)
          → All Good (x ∷ l) ⊎ IsFirst (x ∷ l) (first_number why (x ∷ l)) (first_entry why (x ∷ l))
      go (inl e) (inl a) = inl (e, a)
      go (inl e) (inr f) =
          let more : IsFirst (x ∷ l) (first_number why l) (suc (first_entry why l)) = record { there = omega (arith, f.there); own = f.own; refuses = f.refuses; before = (e, f.before) } in
          inr (first (x ∷ l) _ _ (first-told (x ∷ l) _ _ more) more)
      go (inr h) r =
          let here : IsFirst (x ∷ l) (why x) 0 = record { there = omega arith; own = λ d. refl; refuses = h; before = tt } in
          inr (first (x ∷ l) _ _ (first-told (x ∷ l) _ _ here) here)

  -- ---- exactly when
  pub none-when : (l : List A) → (first_number why l ≡ 0) ↔ All Good l
  none-when l = ((λ e. go (decided l) e), (λ a. ap (λ (f : First). f.refusal) (none_told l a)))
    where
      go : All Good l ⊎ IsFirst l (first_number why l) (first_entry why l) → first_number why l ≡ 0 → All Good l
      go (inl a) e = a
      go (inr f) e = absurd (f.refuses e)

  pub first-when : (l : List A) → (first_number why l ≡ 0 → ⊥) → IsFirst l (first_number why l) (first_entry why l)
  first-when l h = go (decided l)
    where
      go : All Good l ⊎ IsFirst l (first_number why l) (first_entry why l) → IsFirst l (first_number why l) (first_entry why l)
      go (inl a) = absurd (h (ap (λ (f : First). f.refusal) (none_told l a)))
      go (inr f) = f

  -- ---- a loop over the entries: the first k are accepted
  pub one-passed : (l : List A) (k : ℕ) (d : A) → k < length l → All Good (take k l) → Good (get_or l k d) → All Good (take (k + 1) l)
  one-passed l k d h a e = rw (add-one k, take-suc l k d h) (all_append Good (take k l) (get_or l k d ∷ []) a (e, tt))

  pub all-passed : (l : List A) (k : ℕ) → length l ≤ k → All Good (take k l) → first_of why l ≡ record { refusal = 0; entry = 0 }
  all-passed l k h a = none_told l (subst (All Good) (take_all k l h) a)

  pub one-stopped : (l : List A) (k n : ℕ) → k < length l → All Good (take k l) → ((d : A) → why (get_or l k d) ≡ n) → (n ≡ 0 → ⊥)
      → first_of why l ≡ record { refusal = n; entry = k }
  one-stopped l k n h a e z = first-told l n k (record { there = h; own = e; refuses = z; before = a })
