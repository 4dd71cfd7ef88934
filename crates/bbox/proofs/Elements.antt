-- The elements of the grammar are read, and nothing else is: spaces, by induction on them or on how many bytes are left, then a number, spaces and the mark.
-- Neither a space nor a mark can go on a number, and a number does not begin with a space. Assumes nothing.
use mathlib.Core.Path.{◌≡◌, refl, sym, ap, subst, ◌∙◌}
use mathlib.Core.Bool.{Bool, true, false, ◌||◌, cond}
use mathlib.Core.List.{List, [], ◌∷◌, ◌++◌, append_assoc}
use Prim.Native.Nat.{ℕ, zero, suc, ◌+◌, ◌-◌, ◌<◌}
use native.Mathlib.Omega.{arith}
use borrow.Author.Tests.{eqb-true, lt-leb, eq-eqb, ne_eqb}
use lib.Dec.{eqb}
use lib.ListN.{get_or, length, drop, length-append}
use lib.IntN.{ℤ}
use Rattle.bbox.specs.Reading.{Reading, Got, Bad}
use Rattle.bbox_text.specs.Grammar.{is_digit, is_space, are_spaces, Element, is-element}
use Rattle.bbox.specs.Reading.{number_of, skip_of, spaces_of, mark_of, element_of}
use Rattle.bounds.proofs.Tests.{and_left, and_right}
use Rattle.bbox.proofs.Positions.{space-more, space-none, first, past, next, here, room}
use Rattle.bbox.proofs.Numbers.{number-first, accepted-number, NumberAt, only-numbers}

-- ---- bytes: a space is not 0, no digit and no point
space-low : (b : ℕ) → is_space b ≡ true → (0 < b) × (b < 46)
unfolding is_space
space-low b h = go (eqb b 32) (eqb b 9) (eqb b 10) (eqb b 13) refl refl refl refl h
  where
    go : (p q r t : Bool) → eqb b 32 ≡ p → eqb b 9 ≡ q → eqb b 10 ≡ r → eqb b 13 ≡ t → p || q || r || t ≡ true → (0 < b) × (b < 46)
    go true q r t ep eq er et h = let e : b ≡ 32 = eqb-true b 32 ep in (omega arith, omega arith)
    go false true r t ep eq er et h = let e : b ≡ 9 = eqb-true b 9 eq in (omega arith, omega arith)
    go false false true t ep eq er et h = let e : b ≡ 10 = eqb-true b 10 er in (omega arith, omega arith)
    go false false false true ep eq er et h = let e : b ≡ 13 = eqb-true b 13 et in (omega arith, omega arith)
    go false false false false ep eq er et h = absurd (let z : ◌≡◌ {A = ℕ} 0 1 = cc in omega arith)

space-no-digit : (b : ℕ) → is_space b ≡ true → is_digit b ≡ false
unfolding is_digit
space-no-digit b h = simp (lt-leb 48 b (omega (arith, space-low b h)))

space-no-point : (b : ℕ) → is_space b ≡ true → eqb b 46 ≡ false
space-no-point b h = ne_eqb b 46 (λ k. omega (arith, space-low b h))

-- what is false of spaces and of the byte after them is false of the first
spaces-first : (p : ℕ → Bool) → ((b : ℕ) → is_space b ≡ true → p b ≡ false) → (a rest : List ℕ) → are_spaces a ≡ true → p (get_or rest 0 0) ≡ false
    → p (get_or (a ++ rest) 0 0) ≡ false
unfolding are_spaces
spaces-first p f [] rest h e = e
spaces-first p f (b ∷ a) rest h e = f b (and_left (is_space b) (are_spaces a) h)

-- ---- spaces
pub read-spaces : (s : List ℕ) (at : ℕ) (a rest : List ℕ) → are_spaces a ≡ true → drop at s ≡ a ++ rest → is_space (get_or rest 0 0) ≡ false
    → spaces_of s at ≡ at + length a
unfolding are_spaces
read-spaces s at [] rest h e stop = space-none s at (ap is_space (first s at rest e) ∙ stop) ∙ omega arith
read-spaces s at (b ∷ a) rest h e stop =
    let p : is_space (get_or s at 0) ≡ true = ap is_space (first s at (b ∷ (a ++ rest)) e) ∙ and_left (is_space b) (are_spaces a) h in
    sym (space-more s at (room s at b (a ++ rest) e) p)
    ∙ read-spaces s (at + 1) a rest (and_right (is_space b) (are_spaces a) h) (next s at b (a ++ rest) e) stop ∙ omega arith

pub record SpacesAt (s : List ℕ) (at n : ℕ) : Type 0 where
  pub text : List ℕ
  pub spaces : are_spaces text ≡ true
  pub from : drop at s ≡ text ++ drop n s
  pub after : n ≡ at + length text

no-spaces : (s : List ℕ) (at : ℕ) → SpacesAt s at at
unfolding are_spaces
no-spaces s at = record { text = []; spaces = refl; from = refl; after = omega arith }

one_more : (s : List ℕ) (at n : ℕ) → is_space (get_or s at 0) ≡ true → SpacesAt s (at + 1) n → SpacesAt s at n
unfolding are_spaces
one_more s at n h r =
    record {
      text = get_or s at 0 ∷ r.text;
      spaces = simp (h, r.spaces);
      from = here s at (space-low (get_or s at 0) h).0 ∙ ap (λ (k : List ℕ). get_or s at 0 ∷ k) r.from;
      after = omega (arith, r.after);
    }

found-skip : (n : ℕ) (s : List ℕ) (at : ℕ) → SpacesAt s at (skip_of n s at)
unfolding skip_of
found-skip zero s at = no-spaces s at
found-skip (suc n) s at = go (is_space (get_or s at 0)) refl (found-skip n s (at + 1))
  where
    go : (b : Bool) → is_space (get_or s at 0) ≡ b → SpacesAt s (at + 1) (skip_of n s (at + 1)) → SpacesAt s at (cond b (skip_of n s (at + 1)) at)
    go true h r = one_more s at (skip_of n s (at + 1)) h r
    go false h r = no-spaces s at

pub found-spaces : (s : List ℕ) (at : ℕ) → SpacesAt s at (spaces_of s at)
unfolding spaces_of
found-spaces s at = found-skip (length s - at) s at

-- ---- an element, with a mark that cannot go on a number and is no space
element-text : (a t b : List ℕ) (mark : ℕ) (rest : List ℕ) → (a ++ (t ++ (b ++ (mark ∷ [])))) ++ rest ≡ a ++ (t ++ (b ++ (mark ∷ rest)))
element-text a t b mark rest = simp append_assoc

element-length : (a t b : List ℕ) (mark : ℕ) → length (a ++ (t ++ (b ++ (mark ∷ [])))) ≡ length a + length t + length b + 1
element-length a t b mark = simp length-append (omega arith)

pub accepted-element : (s : List ℕ) (at mark : ℕ) (t rest : List ℕ) (z : ℤ) → is_digit mark ≡ false → eqb mark 46 ≡ false → is_space mark ≡ false
    → Element mark t z → drop at s ≡ t ++ rest → element_of s at mark ≡ Got z (at + length t)
unfolding element_of mark_of
accepted-element s at mark u rest v m1 m2 m3 (is-element a t b z ha n hb) e =
    let end : List ℕ = b ++ (mark ∷ rest) in
    let e0 : drop at s ≡ a ++ (t ++ end) = e ∙ element-text a t b mark rest in
    let p : ℕ = at + length a in
    let e1 : drop p s ≡ t ++ end = past s at a (t ++ end) e0 in
    let q : ℕ = p + length t in
    let e2 : drop q s ≡ end = past s p t end e1 in
    let r : ℕ = q + length b in
    let e3 : get_or s r 0 ≡ mark = first s r (mark ∷ rest) (past s q b (mark ∷ rest) e2) in
    let f1 : spaces_of s at ≡ p = read-spaces s at a (t ++ end) ha e0 (number-first t end z n) in
    let f2 : number_of s p ≡ Got z q =
    accepted-number s p t end z n e1 (spaces-first is_digit space-no-digit b (mark ∷ rest) hb m1) (spaces-first (λ (k : ℕ). eqb k 46) space-no-point b (mark ∷ rest) hb m2) in
    let f3 : spaces_of s q ≡ r = read-spaces s q b (mark ∷ rest) hb e2 m3 in
    let l : r + 1 ≡ at + length (a ++ (t ++ (b ++ (mark ∷ [])))) = omega (arith, element-length a t b mark) in
    ap (λ (k : ℕ). mark_of s mark (number_of s k)) f1 ∙ ap (mark_of s mark) f2 ∙ simp (f3, e3, eq-eqb mark mark refl) (ap (Got z) l)

pub record ElementAt (s : List ℕ) (at mark : ℕ) (z : ℤ) (n : ℕ) : Type 0 where
  pub text : List ℕ
  pub element : Element mark text z
  pub from : drop at s ≡ text ++ drop n s
  pub after : n ≡ at + length text

abbrev HasElement : List ℕ → ℕ → ℕ → Reading → Type 0
HasElement s at mark Bad = Unit
HasElement s at mark (Got z n) = ElementAt s at mark z n

-- the spaces before a number, the number, the spaces after it, and the mark
joined : (s : List ℕ) (at p mark : ℕ) (z : ℤ) (q r : ℕ) → 0 < mark → SpacesAt s at p → NumberAt s p z q → SpacesAt s q r → get_or s r 0 ≡ mark
    → ElementAt s at mark z (r + 1)
joined s at p mark z q r m a t b e =
    let e3 : drop r s ≡ mark ∷ drop (r + 1) s = here s r (omega arith) ∙ ap (λ (k : ℕ). k ∷ drop (r + 1) s) e in
    let e2 : drop q s ≡ b.text ++ (mark ∷ drop (r + 1) s) = b.from ∙ ap (λ (k : List ℕ). b.text ++ k) e3 in
    let e1 : drop p s ≡ t.text ++ (b.text ++ (mark ∷ drop (r + 1) s)) = t.from ∙ ap (λ (k : List ℕ). t.text ++ k) e2 in
    record {
      text = a.text ++ (t.text ++ (b.text ++ (mark ∷ [])));
      element = is-element a.text t.text b.text z a.spaces t.number b.spaces;
      from = a.from ∙ ap (λ (k : List ℕ). a.text ++ k) e1 ∙ sym (element-text a.text t.text b.text mark (drop (r + 1) s));
      after = omega (arith, element-length a.text t.text b.text mark, a.after, t.after, b.after);
    }

found-mark : (s : List ℕ) (at p mark : ℕ) (r : Reading) → 0 < mark → SpacesAt s at p → number_of s p ≡ r → HasElement s at mark (mark_of s mark r)
unfolding mark_of
found-mark s at p mark Bad m a e = tt
found-mark s at p mark (Got z q) m a e = go (eqb (get_or s (spaces_of s q) 0) mark) refl
  where
    go : (b : Bool) → eqb (get_or s (spaces_of s q) 0) mark ≡ b → HasElement s at mark (cond b (Got z (spaces_of s q + 1)) Bad)
    go true b = joined s at p mark z q (spaces_of s q) m a (only-numbers s p z q e) (found-spaces s q) (eqb-true (get_or s (spaces_of s q) 0) mark b)
    go false b = tt

pub only-elements : (s : List ℕ) (at mark : ℕ) (z : ℤ) (n : ℕ) → 0 < mark → element_of s at mark ≡ Got z n → ElementAt s at mark z n
unfolding element_of
only-elements s at mark z n m e = subst (HasElement s at mark) e (found-mark s at (spaces_of s at) mark (number_of s (spaces_of s at)) m (found-spaces s at) refl)
