-- When a refusal number is given: an answer that is chosen by tests has the number of the first test that fails, and 0 where none does.
-- The tests t stand for reasons P: P holds exactly where t fails. Assumes nothing.
use mathlib.Core.Path.{◌≡◌, refl, sym, ap, ◌∙◌, subst}
use mathlib.Core.Bool.{Bool, true, false, cond, false≢true}
use mathlib.Core.Logic.{◌↔◌}
use Prim.Native.Nat.{ℕ}
use lib.Dec.{eqb}
use Rattle.consts.specs.Refusal.{given, GivenExactly, GivenInTurn}

-- one of two reasons, by a test
abbrev pub either : Bool → Type 0 → Type 0 → Type 0
either true p q = p
either false p q = q

-- ---- by one test, or by two
module _ {A : Type 0} (number_of : A → ℕ) where
  pub chosen : (t : Bool) {P : Type 0} (a answer refused : A) → a ≡ cond t answer refused → number_of answer ≡ 0 → (number_of refused ≡ 0 → ⊥) → (t ≡ false) ↔ P
      → GivenExactly number_of a refused P
  chosen t {P} a answer refused e z n r = go t refl e
    where
      go : (b : Bool) → t ≡ b → a ≡ cond b answer refused → GivenExactly number_of a refused P
      go true h d =
          let none : P → ⊥ = λ p. false≢true (sym (r.1 p) ∙ h) in
          record { exactly = (λ k. absurd (n (sym k ∙ ap number_of d ∙ z)), λ p. absurd (none p)); result = λ p. absurd (none p); accepts = λ f. ap number_of d ∙ z }
      go false h d = record { exactly = (λ k. r.0 h, λ p. ap number_of d); result = λ p. d; accepts = λ f. absurd (f (r.0 h)) }

  pub chosen-in-turn : (t u : Bool) {P Q : Type 0} (a answer first second : A) → a ≡ cond t (cond u answer second) first
      → number_of answer ≡ 0 → (number_of first ≡ 0 → ⊥) → (number_of second ≡ 0 → ⊥) → (number_of first ≡ number_of second → ⊥) → (t ≡ false) ↔ P → (u ≡ false) ↔ Q
      → GivenInTurn number_of a first second P Q
  chosen-in-turn t u {P} {Q} a answer first second e z m n d r s = go t u refl refl e
    where
      go : (b c : Bool) → t ≡ b → u ≡ c → a ≡ cond b (cond c answer second) first → GivenInTurn number_of a first second P Q
      go false c h k e =
          record {
            exactly = (λ q. r.0 h, λ p. ap number_of e);
            result = λ p. e;
            exactly-second = (λ q. absurd (d (sym (ap number_of e) ∙ q)), λ q. absurd (q.0 (r.0 h)));
            result-second = λ f q. absurd (f (r.0 h));
            accepts = λ f g. absurd (f (r.0 h));
          }
      go true false h k e =
          let none : P → ⊥ = λ p. false≢true (sym (r.1 p) ∙ h) in
          record {
            exactly = (λ q. absurd (d (sym q ∙ ap number_of e)), λ p. absurd (none p));
            result = λ p. absurd (none p);
            exactly-second = (λ q. (none, s.0 k), λ q. ap number_of e);
            result-second = λ f q. e;
            accepts = λ f g. absurd (g (s.0 k));
          }
      go true true h k e =
          let none : P → ⊥ = λ p. false≢true (sym (r.1 p) ∙ h) in
          let neither : Q → ⊥ = λ q. false≢true (sym (s.1 q) ∙ k) in
          record {
            exactly = (λ q. absurd (m (sym q ∙ ap number_of e ∙ z)), λ p. absurd (none p));
            result = λ p. absurd (none p);
            exactly-second = (λ q. absurd (n (sym q ∙ ap number_of e ∙ z)), λ q. absurd (neither q.1));
            result-second = λ f q. absurd (neither q);
            accepts = λ f g. ap number_of e ∙ z;
          }

-- ---- an answer given under a number is so chosen
module _ {A : Type 0} (answer : A) (refused : ℕ → A) where
  pub given-chosen : (t : Bool) (m n : ℕ) → eqb n 0 ≡ false → m ≡ cond t 0 n → given m answer (refused m) ≡ cond t answer (refused n)
  given-chosen t m n d e = subst (λ (k : ℕ). given k answer (refused k) ≡ cond t answer (refused n)) (sym e) (go t)
    where
      go : (b : Bool) → given (cond b 0 n) answer (refused (cond b 0 n)) ≡ cond b answer (refused n)
      go true = refl
      go false = ap (λ (b : Bool). cond b answer (refused n)) d

  pub given-in-turn : (t u : Bool) (m n k : ℕ) → eqb n 0 ≡ false → eqb k 0 ≡ false → m ≡ cond t (cond u 0 k) n
      → given m answer (refused m) ≡ cond t (cond u answer (refused k)) (refused n)
  given-in-turn t u m n k d f e = subst (λ (j : ℕ). given j answer (refused j) ≡ cond t (cond u answer (refused k)) (refused n)) (sym e) (go t)
    where
      go : (b : Bool) → given (cond b (cond u 0 k) n) answer (refused (cond b (cond u 0 k) n)) ≡ cond b (cond u answer (refused k)) (refused n)
      go true = given-chosen u (cond u 0 k) k f refl
      go false = ap (λ (b : Bool). cond b answer (refused n)) d
