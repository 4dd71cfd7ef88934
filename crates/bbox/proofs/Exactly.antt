-- The reader accepts exactly the texts of the grammar, with their meaning: both ways an array is four elements one after another. So a text has one meaning,
-- 8 is the refusal of the texts that are no array and of no other, and an array is answered by its four numbers alone. Assumes nothing of a text.
use mathlib.Core.Path.{◌≡◌, refl, sym, ap, subst, ◌∙◌}
use mathlib.Core.Bool.{Bool, true, false, cond}
use mathlib.Core.List.{List, [], ◌∷◌, ◌++◌, append-nil}
use Prim.Native.Nat.{ℕ, ◌+◌, ◌≤◌, ◌<◌}
use native.Mathlib.Omega.{arith}
use borrow.Author.Tests.{ltb-false, le-ltb, eqb-true}
use lib.Dec.{ltb, eqb}
use lib.ListN.{get_or, length, drop, length-drop, drop_of_length-le}
use lib.IntN.{ℤ}
use Rattle.bounds.specs.declared.bounds.Bounds.{Bounds}
use Rattle.bbox.specs.Reading.{Reading, Got, Bad}
use Rattle.bbox.specs.declared.reader.Answer.{Answer}
use Rattle.bbox.specs.Reading.{Four, Numbers, Not}
use Rattle.bounds.specs.Bounds.{in_limits, placed}
use Rattle.bbox_text.specs.Grammar.{is_digit, is_space, Element, Array, is-array}
use Rattle.bbox.specs.Reading.{spaces_of, element_of, then_of, four_of, zeros_under, judged_of, read_of}
use Rattle.bbox.proofs.Positions.{first, past, next, here}
use Rattle.bbox.proofs.Elements.{read-spaces, SpacesAt, found-spaces, accepted-element, ElementAt, only-elements}

-- ---- every array is read
four-steps : (s : List ℕ) (b : Bounds) (o p q r t : ℕ) → spaces_of s 0 ≡ o → get_or s o 0 ≡ 91 → element_of s (o + 1) 44 ≡ Got b.west p
    → element_of s p 44 ≡ Got b.south q → element_of s q 44 ≡ Got b.east r → element_of s r 93 ≡ Got b.north t → length s ≤ spaces_of s t
    → four_of s ≡ Numbers b
unfolding four_of then_of
four-steps s b o p q r t z m e1 e2 e3 e4 l = simp (z, m, e1, e2, e3, e4, le-ltb (spaces_of s t) (length s) l)

comma : (s : List ℕ) (at : ℕ) (t rest : List ℕ) (z : ℤ) → Element 44 t z → drop at s ≡ t ++ rest → element_of s at 44 ≡ Got z (at + length t)
unfolding is_digit is_space
comma s at t rest z x e = accepted-element s at 44 t rest z refl refl refl x e

bracket : (s : List ℕ) (at : ℕ) (t rest : List ℕ) (z : ℤ) → Element 93 t z → drop at s ≡ t ++ rest → element_of s at 93 ≡ Got z (at + length t)
unfolding is_digit is_space
bracket s at t rest z x e = accepted-element s at 93 t rest z refl refl refl x e

pub accepted : (s : List ℕ) (b : Bounds) → Array s b → four_of s ≡ Numbers b
unfolding is_space
accepted text box (is-array a w s e n b west south east north ha hw hs he hn hb) =
    let r3 : List ℕ = n ++ b in
    let r2 : List ℕ = e ++ r3 in
    let r1 : List ℕ = s ++ r2 in
    let l : List ℕ = a ++ (91 ∷ (w ++ r1)) in
    let o : ℕ = 0 + length a in
    let p : ℕ = o + 1 + length w in
    let q : ℕ = p + length s in
    let r : ℕ = q + length e in
    let t : ℕ = r + length n in
    let e0 : drop o l ≡ 91 ∷ (w ++ r1) = past l 0 a (91 ∷ (w ++ r1)) refl in
    let e1 : drop (o + 1) l ≡ w ++ r1 = next l o 91 (w ++ r1) e0 in
    let e2 : drop p l ≡ r1 = past l (o + 1) w r1 e1 in
    let e3 : drop q l ≡ r2 = past l p s r2 e2 in
    let e4 : drop r l ≡ r3 = past l q e r3 e3 in
    let e5 : drop t l ≡ b ++ [] = past l r n b e4 ∙ sym (append-nil b) in
    let m : spaces_of l t ≡ t + length b = read-spaces l t b [] hb e5 refl in
    let z : drop (t + length b) l ≡ [] = past l t b [] e5 in
    let end : length l ≤ spaces_of l t = omega (arith, m, length-drop (t + length b) l, ap length z) in
    four-steps l (record { west = west; south = south; east = east; north = north }) o p q r t (read-spaces l 0 a (91 ∷ (w ++ r1)) ha refl refl) (first l o (91 ∷ (w ++ r1)) e0)
    (comma l (o + 1) w r1 west hw e1) (comma l p s r2 south hs e2) (comma l q e r3 east he e3) (bracket l r n b north hn e4) end

-- ---- nothing else is read
abbrev IsArray : List ℕ → Four → Type 0
IsArray s Not = Unit
IsArray s (Numbers b) = Array s b

then_found : (s : List ℕ) (at mark : ℕ) (k : ℤ → ℕ → Four) → 0 < mark → ((z : ℤ) (n : ℕ) → ElementAt s at mark z n → IsArray s (k z n))
    → IsArray s (then_of (element_of s at mark) k)
unfolding then_of
then_found s at mark k m f = go (element_of s at mark) refl
  where
    go : (r : Reading) → element_of s at mark ≡ r → IsArray s (then_of r k)
    go Bad e = tt
    go (Got z n) e = f z n (only-elements s at mark z n m e)

joined : (s : List ℕ) (o p q r t m : ℕ) (west south east north : ℤ) → SpacesAt s 0 o → get_or s o 0 ≡ 91 → ElementAt s (o + 1) 44 west p → ElementAt s p 44 south q
    → ElementAt s q 44 east r → ElementAt s r 93 north t → SpacesAt s t m → length s ≤ m
    → Array s (record { west = west; south = south; east = east; north = north })
joined s o p q r t m west south east north a e w x y z b l =
    let e5 : drop t s ≡ b.text = b.from ∙ ap (λ (k : List ℕ). b.text ++ k) (drop_of_length-le s l) ∙ append-nil b.text in
    let e4 : drop r s ≡ z.text ++ b.text = z.from ∙ ap (λ (k : List ℕ). z.text ++ k) e5 in
    let e3 : drop q s ≡ y.text ++ (z.text ++ b.text) = y.from ∙ ap (λ (k : List ℕ). y.text ++ k) e4 in
    let e2 : drop p s ≡ x.text ++ (y.text ++ (z.text ++ b.text)) = x.from ∙ ap (λ (k : List ℕ). x.text ++ k) e3 in
    let e1 : drop (o + 1) s ≡ w.text ++ (x.text ++ (y.text ++ (z.text ++ b.text))) = w.from ∙ ap (λ (k : List ℕ). w.text ++ k) e2 in
    let e0 : drop o s ≡ 91 ∷ (w.text ++ (x.text ++ (y.text ++ (z.text ++ b.text)))) =
    here s o (omega arith) ∙ ap (λ (k : ℕ). k ∷ drop (o + 1) s) e ∙ ap (λ (k : List ℕ). 91 ∷ k) e1 in
    subst (λ (k : List ℕ). Array k (record { west = west; south = south; east = east; north = north })) (sym (a.from ∙ ap (λ (k : List ℕ). a.text ++ k) e0))
    (is-array a.text w.text x.text y.text z.text b.text west south east north a.spaces w.element x.element y.element z.element b.spaces)

found-four : (s : List ℕ) → IsArray s (four_of s)
unfolding four_of
found-four s = opened (eqb (get_or s o 0) 91) refl
  where
    o : ℕ
    o = spaces_of s 0

    closed : (p q r t : ℕ) (west south east north : ℤ) → get_or s o 0 ≡ 91 → ElementAt s (o + 1) 44 west p → ElementAt s p 44 south q → ElementAt s q 44 east r
        → ElementAt s r 93 north t → (b : Bool) → ltb (spaces_of s t) (length s) ≡ b
        → IsArray s (cond b Not (Numbers (record { west = west; south = south; east = east; north = north })))
    closed p q r t west south east north e w x y z true l = tt
    closed p q r t west south east north e w x y z false l =
        joined s o p q r t (spaces_of s t) west south east north (found-spaces s 0) e w x y z (found-spaces s t) (ltb-false (spaces_of s t) (length s) l)

    opened : (b : Bool) → eqb (get_or s o 0) 91 ≡ b
        → IsArray s (cond b (then_of (element_of s (o + 1) 44) (λ w a. then_of (element_of s a 44) (λ t b. then_of (element_of s b 44) (λ e c. then_of (element_of s c 93) (λ n d.
        cond (ltb (spaces_of s d) (length s)) Not (Numbers (record { west = w; south = t; east = e; north = n }))))))) Not)
    opened false h = tt
    opened true h =
        let e : get_or s o 0 ≡ 91 = eqb-true (get_or s o 0) 91 h in
        then_found s (o + 1) 44 _ (omega arith) (λ west p w.
        then_found s p 44 _ (omega arith) (λ south q x.
        then_found s q 44 _ (omega arith) (λ east r y.
        then_found s r 93 _ (omega arith) (λ north t z. closed p q r t west south east north e w x y z (ltb (spaces_of s t) (length s)) refl))))

pub only-arrays : (s : List ℕ) (b : Bounds) → four_of s ≡ Numbers b → Array s b
only-arrays s b e = subst (IsArray s) e (found-four s)

-- ---- what follows
pub one-meaning : (s : List ℕ) (b c : Bounds) → Array s b → Array s c → b ≡ c
one-meaning s b c x y =
    let p : four_of s ≡ Numbers b = accepted s b x in
    let q : four_of s ≡ Numbers c = accepted s c y in
    cc

-- an array is answered by its four numbers
pub read-array : (s : List ℕ) (b : Bounds) → Array s b → read_of s ≡ cond (in_limits b) (record { refusal = 0; value = placed b }) (zeros_under 9)
unfolding read_of judged_of
read-array s b x = ap judged_of (accepted s b x)

-- 8 is the refusal of a text that is no array, and of no other
pub bad-text : (s : List ℕ) → ((b : Bounds) → Array s b → ⊥) → read_of s ≡ zeros_under 8
unfolding read_of judged_of
bad-text s h = go (four_of s) refl
  where
    go : (f : Four) → four_of s ≡ f → judged_of f ≡ zeros_under 8
    go Not e = refl
    go (Numbers b) e = absurd (h b (only-arrays s b e))

pub bad-text-only : (s : List ℕ) → (read_of s).refusal ≡ 8 → (b : Bounds) → Array s b → ⊥
bad-text-only s h b x = go (in_limits b) (sym (ap (λ (r : Answer). r.refusal) (read-array s b x)) ∙ h)
  where
    go : (t : Bool) → (cond t (record { refusal = 0; value = placed b }) (zeros_under 9)).refusal ≡ 8 → ⊥
    go true e = omega arith
    go false e = omega arith
