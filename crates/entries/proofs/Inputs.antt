-- What an input comes to, once for every form: all items are told only where every one is read and nothing is left; a fault stands at the entry that is told, is
-- the number of that entry or, past the last item that is taken, of an input that goes on, and no entry before it has a fault. By induction on the entries.
-- And the turns of a loop that reads one. Assumes nothing.
use mathlib.Core.Path.{◌≡◌, refl, sym, ap, ◌∙◌, subst}
use mathlib.Core.Bool.{Bool, true, false, cond}
use mathlib.Core.List.{List, [], ◌∷◌, ◌++◌, append-nil}
use mathlib.Core.Logic.{◌⊎◌, inl, inr}
use Prim.Native.Nat.{ℕ, zero, suc, ◌+◌, ◌-◌, ◌≤◌, ◌<◌}
use native.Mathlib.Nat.{not-suc-le-zero, add-zero}
use native.Mathlib.Omega.{arith}
use borrow.Author.Tests.{eqb-true, eqb-false, eq-eqb, ne_eqb}
use lib.Dec.{eqb}
use lib.ListN.{length, length-append}
use Rattle.entries.specs.Inputs.{Form, Input, Items, Fault, after, read_from, input_of}

-- ---- items in front
abbrev pub ahead : {A : Type 0} → List A → Input A → Input A
ahead [] r = r
ahead (x ∷ l) r = after x (ahead l r)

pub ahead-items : {A : Type 0} (l m : List A) → ahead l (Items m) ≡ Items (l ++ m)
ahead-items [] m = refl
ahead-items (x ∷ l) m = ap (after x) (ahead-items l m)

pub ahead-fault : {A : Type 0} (l : List A) (n k : ℕ) → ahead l (Fault n k) ≡ Fault n k
ahead-fault [] n k = refl
ahead-fault (x ∷ l) n k = ap (after x) (ahead-fault l n k)

pub ahead-one : {A : Type 0} (l : List A) (x : A) (r : Input A) → ahead (l ++ (x ∷ [])) r ≡ ahead l (after x r)
ahead-one [] x r = refl
ahead-one (y ∷ l) x r = ap (after y) (ahead-one l x r)

module _ {B A : Type 0} (f : Form B A) where
  -- ---- one turn of the definition
  pub read-end : (n k : ℕ) (s : List B) → length s ≡ 0 → read_from f n k s ≡ Items []
  unfolding read_from
  read-end zero k [] e = refl
  read-end (suc n) k [] e = refl
  read-end n k (b ∷ s) e = absurd (omega arith)

  pub read-over : (k : ℕ) (s : List B) → 0 < length s → read_from f 0 k s ≡ Fault (f.over s) k
  unfolding read_from
  read-over k [] h = absurd (not-suc-le-zero h)
  read-over k (b ∷ s) h = refl

  pub read-item : (n k : ℕ) (s : List B) → 0 < length s → f.number s ≡ 0 → read_from f (suc n) k s ≡ after (f.item s) (read_from f n (suc k) (f.rest s))
  unfolding read_from
  read-item n k [] h e = absurd (not-suc-le-zero h)
  read-item n k (b ∷ s) h e = rw (eq-eqb (f.number (b ∷ s)) 0 e) refl

  pub read-fault : (n k : ℕ) (s : List B) → 0 < length s → (f.number s ≡ 0 → ⊥) → read_from f (suc n) k s ≡ Fault (f.number s) k
  unfolding read_from
  read-fault n k [] h e = absurd (not-suc-le-zero h)
  read-fault n k (b ∷ s) h e = rw (ne_eqb (f.number (b ∷ s)) 0 e) refl

  -- ---- what is told
  -- the input from the entry i on; the first n items
  abbrev pub rest_at : ℕ → List B → List B
  rest_at zero s = s
  rest_at (suc i) s = rest_at i (f.rest s)

  abbrev pub items_at : ℕ → List B → List A
  items_at zero s = []
  items_at (suc n) s = f.item s ∷ items_at n (f.rest s)

  -- the entry i is there and is read
  abbrev pub ReadAt : List B → ℕ → Type 0
  ReadAt s i = (0 < length (rest_at i s)) × (f.number (rest_at i s) ≡ 0)

  -- l are all the items of s, at most n
  pub record AllItems (n : ℕ) (s : List B) (l : List A) : Type 0 where
    pub few : length l ≤ n
    pub are : l ≡ items_at (length l) s
    pub read : (i : ℕ) → i < length l → ReadAt s i
    pub ended : length (rest_at (length l) s) ≡ 0

  -- the first fault of s, of which n items are taken, stands at the entry k, and m is its number
  pub record FirstFault (n : ℕ) (s : List B) (m k : ℕ) : Type 0 where
    pub there : 0 < length (rest_at k s)
    pub before : (i : ℕ) → i < k → ReadAt s i
    pub own : ((k < n) × (m ≡ f.number (rest_at k s)) × (m ≡ 0 → ⊥)) ⊎ ((k ≡ n) × (m ≡ f.over (rest_at k s)))

  record FaultFrom (n j : ℕ) (s : List B) (m k : ℕ) : Type 0 where
    entry : ℕ
    is : k ≡ entry + j
    fault : FirstFault n s m entry

  abbrev Told : ℕ → ℕ → List B → Input A → Type 0
  Told n j s (Items l) = AllItems n s l
  Told n j s (Fault m k) = FaultFrom n j s m k

  more-read : (s : List B) (m : ℕ) → ReadAt s 0 → ((i : ℕ) → i < m → ReadAt (f.rest s) i) → (i : ℕ) → i < suc m → ReadAt s i
  more-read s m z g zero h = z
  more-read s m z g (suc i) h = g i (omega (arith, h))

  none_read : (s : List B) (i : ℕ) → i < 0 → ReadAt s i
  none_read s i h = absurd (not-suc-le-zero h)

  told_more : (n j : ℕ) (s : List B) → ReadAt s 0 → (r : Input A) → Told n (suc j) (f.rest s) r → Told (suc n) j s (after (f.item s) r)
  told_more n j s z (Items l) t =
      record { few = omega (arith, t.few); are = ap (λ (m : List A). f.item s ∷ m) t.are; read = more-read s (length l) z t.read; ended = t.ended }
  told_more n j s z (Fault m k) t =
      let u = t.fault in
      record {
        entry = suc t.entry;
        is = omega (arith, t.is);
        fault = record { there = u.there; before = more-read s t.entry z u.before; own = go u.own };
      }
    where
      go : ((t.entry < n) × (m ≡ f.number (rest_at t.entry (f.rest s))) × (m ≡ 0 → ⊥)) ⊎ ((t.entry ≡ n) × (m ≡ f.over (rest_at t.entry (f.rest s))))
          → ((suc t.entry < suc n) × (m ≡ f.number (rest_at t.entry (f.rest s))) × (m ≡ 0 → ⊥)) ⊎ ((suc t.entry ≡ suc n) × (m ≡ f.over (rest_at t.entry (f.rest s))))
      go (inl o) = inl (omega (arith, o.0), o.1, o.2)
      go (inr o) = inr (ap suc o.0, o.1)

  told_here : (n j : ℕ) (s : List B) → 0 < length s → (t : Bool) → eqb (f.number s) 0 ≡ t → (r : Input A) → Told n (suc j) (f.rest s) r
      → Told (suc n) j s (cond t (after (f.item s) r) (Fault (f.number s) j))
  told_here n j s h true e r w = told_more n j s (h, eqb-true (f.number s) 0 e) r w
  told_here n j s h false e r w =
      record { entry = 0; is = omega arith; fault = record { there = h; before = none_read s; own = inl (omega arith, refl, eqb-false (f.number s) 0 e) } }

  told : (n j : ℕ) (s : List B) → Told n j s (read_from f n j s)
  unfolding read_from
  told zero j [] = record { few = omega arith; are = refl; read = none_read []; ended = refl }
  told zero j (b ∷ s) = record { entry = 0; is = omega arith; fault = record { there = omega arith; before = none_read (b ∷ s); own = inr (refl, refl) } }
  told (suc n) j [] = record { few = omega arith; are = refl; read = none_read []; ended = refl }
  told (suc n) j (b ∷ s) =
      told_here n j (b ∷ s) (omega arith) (eqb (f.number (b ∷ s)) 0) refl (read_from f n (suc j) (f.rest (b ∷ s))) (told n (suc j) (f.rest (b ∷ s)))

  pub all-items : (s : List B) (l : List A) → input_of f s ≡ Items l → AllItems f.limit s l
  unfolding input_of
  all-items s l e = subst (Told f.limit 0 s) e (told f.limit 0 s)

  pub first-fault : (s : List B) (m k : ℕ) → input_of f s ≡ Fault m k → FirstFault f.limit s m k
  unfolding input_of
  first-fault s m k e =
      let t : FaultFrom f.limit 0 s m k = subst (Told f.limit 0 s) e (told f.limit 0 s) in
      subst (FirstFault f.limit s m) (sym (t.is ∙ add-zero t.entry)) t.fault

  -- ---- a loop: the items l are read, and t is what is left
  pub record Held (s : List B) (l : List A) (t : List B) : Type 0 where
    pub is : input_of f s ≡ ahead l (read_from f (f.limit - length l) (length l) t)

  pub starts : (s : List B) → Held s [] s
  unfolding input_of
  starts s = record { is = ap (λ (n : ℕ). read_from f n 0 s) (whole-left f.limit) }
    where
      whole-left : (n : ℕ) → n ≡ n - 0
      whole-left n = omega arith

  module _ (s : List B) (l : List A) (t : List B) (h : Held s l t) where
    -- nothing is left
    pub ends : length t ≡ 0 → input_of f s ≡ Items l
    ends e = h.is ∙ ap (ahead l) (read-end (f.limit - length l) (length l) t e) ∙ ahead-items l [] ∙ ap Items (append-nil l)

    -- more is left after the last item that is taken
    pub over : length l ≡ f.limit → 0 < length t → input_of f s ≡ Fault (f.over t) (length l)
    over e p =
        let u : f.limit - length l ≡ 0 = omega arith in
        h.is ∙ ap (λ (n : ℕ). ahead l (read_from f n (length l) t)) u ∙ ap (ahead l) (read-over (length l) t p) ∙ ahead-fault l (f.over t) (length l)

    module _ (few : length l < f.limit) (p : 0 < length t) where
      one_less : f.limit - length l ≡ suc (f.limit - suc (length l))
      one_less = omega (arith, few)

      -- one more item
      pub good : f.number t ≡ 0 → Held s (l ++ (f.item t ∷ [])) (f.rest t)
      good e =
          let more : suc (length l) ≡ length (l ++ (f.item t ∷ [])) = omega (arith, length-append l (f.item t ∷ [])) in
          record {
            is = h.is ∙ ap (λ (n : ℕ). ahead l (read_from f n (length l) t)) one_less
                ∙ ap (ahead l) (read-item (f.limit - suc (length l)) (length l) t p e)
                ∙ sym (ahead-one l (f.item t) (read_from f (f.limit - suc (length l)) (suc (length l)) (f.rest t)))
                ∙ ap (λ (n : ℕ). ahead (l ++ (f.item t ∷ [])) (read_from f (f.limit - n) n (f.rest t))) more;
          }

      -- a fault
      pub bad : (f.number t ≡ 0 → ⊥) → input_of f s ≡ Fault (f.number t) (length l)
      bad e =
          h.is ∙ ap (λ (n : ℕ). ahead l (read_from f n (length l) t)) one_less
          ∙ ap (ahead l) (read-fault (f.limit - suc (length l)) (length l) t p e) ∙ ahead-fault l (f.number t) (length l)
