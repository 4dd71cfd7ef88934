-- An input that is written item by item is read again as those items, up to the limit; then the first fault after them decides, or that the input goes on. Once for
-- every form and every writer that the form reads again (`Reads`). By induction on the items. Assumes nothing.
use mathlib.Core.Path.{◌≡◌, refl, sym, ap, ◌∙◌}
use mathlib.Core.List.{List, [], ◌∷◌, ◌++◌, append_assoc, append-nil}
use Prim.Native.Nat.{ℕ, suc, ◌+◌, ◌-◌, ◌≤◌, ◌<◌}
use native.Mathlib.Nat.{zero-add, suc-add, add-suc, add-zero}
use native.Mathlib.Omega.{arith}
use lib.ListN.{length}
use Rattle.entries.specs.Lists.{All}
use Rattle.entries.specs.Inputs.{Form, Items, Fault, after, read_from, input_of, in_turn}
use Rattle.entries.proofs.Inputs.{ahead, ahead-items, ahead-fault, read-end, read-item, read-fault, read-over}

-- what is written for c, if it is one of P, is read as the item `gives c`, whatever follows
pub record Reads {B A C : Type 0} (f : Form B A) (P : C → Type 0) (write : C → List B) (gives : C → A) : Type 0 where
  pub some : (c : C) → P c → (t : List B) → 0 < length (write c ++ t)
  pub number_is : (c : C) → P c → (t : List B) → f.number (write c ++ t) ≡ 0
  pub item-is : (c : C) → P c → (t : List B) → f.item (write c ++ t) ≡ gives c
  pub rest-is : (c : C) → P c → (t : List B) → f.rest (write c ++ t) ≡ t

-- all of them
abbrev pub each : {A C : Type 0} → (C → A) → List C → List A
each gives [] = []
each gives (c ∷ l) = gives c ∷ each gives l

module _ {B A C : Type 0} (f : Form B A) (P : C → Type 0) (write : C → List B) (gives : C → A) (w : Reads f P write gives) where
  read-turn : (cs : List C) → All P cs → (n k : ℕ) (t : List B) → read_from f (length cs + n) k (in_turn write cs ++ t) ≡ ahead (each gives cs) (read_from f n (length cs + k) t)
  unfolding in_turn
  read-turn [] a n k t = ap (λ (m : ℕ). read_from f m k t) (zero-add n) ∙ ap (λ (m : ℕ). read_from f n m t) (sym (zero-add k))
  read-turn (c ∷ cs) a n k t =
      let u : List B = in_turn write cs ++ t in
      ap (read_from f (suc (length cs) + n) k) (append_assoc (write c) (in_turn write cs) t)
      ∙ ap (λ (m : ℕ). read_from f m k (write c ++ u)) (suc-add (length cs) n)
      ∙ read-item f (length cs + n) k (write c ++ u) (w.some c a.0 u) (w.number_is c a.0 u)
      ∙ ap (λ (x : A). after x (read_from f (length cs + n) (suc k) (f.rest (write c ++ u)))) (w.item-is c a.0 u)
      ∙ ap (λ (v : List B). after (gives c) (read_from f (length cs + n) (suc k) v)) (w.rest-is c a.0 u)
      ∙ ap (after (gives c)) (read-turn cs a.1 n (suc k) t)
      ∙ ap (λ (m : ℕ). after (gives c) (ahead (each gives cs) (read_from f n m t))) (add-suc (length cs) k ∙ sym (suc-add (length cs) k))

  module _ (cs : List C) (a : All P cs) where
    from_first : (n : ℕ) (t : List B) → f.limit ≡ length cs + n → input_of f (in_turn write cs ++ t) ≡ ahead (each gives cs) (read_from f n (length cs) t)
    unfolding input_of
    from_first n t e =
        ap (λ (m : ℕ). read_from f m 0 (in_turn write cs ++ t)) e ∙ read-turn cs a n 0 t
        ∙ ap (λ (m : ℕ). ahead (each gives cs) (read_from f n m t)) (add-zero (length cs))

    -- up to the limit all of them are read
    pub written : length cs ≤ f.limit → input_of f (in_turn write cs) ≡ Items (each gives cs)
    written h =
        ap (input_of f) (sym (append-nil (in_turn write cs)))
        ∙ from_first (f.limit - length cs) [] (omega arith)
        ∙ ap (ahead (each gives cs)) (read-end f (f.limit - length cs) (length cs) [] refl)
        ∙ ahead-items (each gives cs) [] ∙ ap Items (append-nil (each gives cs))

    -- under the limit the first fault decides, whatever follows it
    pub then-fault : length cs < f.limit → (t : List B) → 0 < length t → (f.number t ≡ 0 → ⊥) → input_of f (in_turn write cs ++ t) ≡ Fault (f.number t) (length cs)
    then-fault h t p e =
        from_first (suc (f.limit - suc (length cs))) t (omega arith)
        ∙ ap (ahead (each gives cs)) (read-fault f (f.limit - suc (length cs)) (length cs) t p e)
        ∙ ahead-fault (each gives cs) (f.number t) (length cs)

    -- at the limit an input that goes on is a fault
    pub then-over : length cs ≡ f.limit → (t : List B) → 0 < length t → input_of f (in_turn write cs ++ t) ≡ Fault (f.over t) (length cs)
    then-over h t p =
        from_first 0 t (sym h ∙ sym (add-zero (length cs)))
        ∙ ap (ahead (each gives cs)) (read-over f (length cs) t p)
        ∙ ahead-fault (each gives cs) (f.over t) (length cs)
