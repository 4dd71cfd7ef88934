-- A turn of each loop, on plain lists: pieces cut and clipped.
-- A loop's invariant goes forward over `drop`: what was done so far and what the rest comes to is the whole. Assumes nothing.
use mathlib.Core.Path.{◌≡◌, refl, sym, ap, ◌∙◌}
use mathlib.Core.Bool.{Bool, true, false, cond, not, ◌&&◌, ◌||◌}
use mathlib.Core.List.{List, [], ◌∷◌, ◌++◌, append_assoc, append-nil}
use Prim.Native.Nat.{ℕ, zero, suc, ◌+◌, ◌-◌, ◌≤◌, ◌<◌}
use native.Mathlib.Numerals.{add-one}
use native.Mathlib.Omega.{arith}
use lib.ListN.{length, drop, take, get_or, set}
use lib.Seq.{drop-cons, drop-length, take-suc-set, take-set-le, drop-set-lt}
use lib.Dec.{leb, eqb}
use borrow.Author.Tests.{ne_eqb, le-leb, leb-true, lt-ltb, ltb-true}
use lib.Ieee.{Float}
use Rattle.std.proofs.Common.{Option, Some, None, length-drop, length-take}
use Rattle.std.proofs.lemmas.List.{take_all, take-append-le}
use Rattle.order.proofs.Ranks.{and_l, and_r, and-of}
use Rattle.s1.specs.declared.interval.Interval.{Interval}
use Rattle.s1.specs.Circle.{ends, fast_contains, is_full, is_empty}
use Rattle.s1.specs.Places.{holds}
use Rattle.arcs.specs.CommonArcs.{some_holds}
use Rattle.arcs.specs.Clipping.{sooner, insert, cut, end_at, clip, whole, step, steps}
use Rattle.arcs.specs.Arrays.{room}
use Rattle.arcs.specs.Inside.{Room, Firsts, end_found}

-- ---- a turn of the cutting
module _ (d : List Interval) (k m : ℕ) (z : Interval) (h : k < length d) (f : m ≤ k) where
  abbrev y : Interval
  y = get_or d k z

  pub rest-is : drop k d ≡ y ∷ drop (k + 1) d
  rest-is = drop-cons d k z h ∙ ap (λ (j : ℕ). y ∷ drop j d) (sym (add-one k))

  pub rest-set : (c : Interval) → drop (k + 1) (set d m c) ≡ drop (k + 1) d
  rest-set c = drop-set-lt (k + 1) d m c (omega arith)

  pub turn-cut : (i c : Interval) (t : Bool) → t ≡ fast_contains i (get_or d k z).lo → c ≡ ends (get_or d k z).lo (sooner (get_or d k z).lo (get_or d k z).hi i.hi)
      → take (cond t (m + 1) m) (set d m c) ++ cut i (drop (k + 1) (set d m c)) ≡ take m d ++ cut i (drop k d)
  unfolding cut fast_contains is_empty
  turn-cut i c t o p =
      ap (λ (l : List Interval). take (cond t (m + 1) m) (set d m c) ++ cut i l) (rest-set c) ∙ go t o
      ∙ ap (λ (l : List Interval). take m d ++ cut i l) (sym rest-is)
    where
      go : (t : Bool) → t ≡ holds i y.lo false → take (cond t (m + 1) m) (set d m c) ++ cut i (drop (k + 1) d) ≡ take m d ++ cut i (y ∷ drop (k + 1) d)
      go true q =
          let a : take (m + 1) (set d m c) ≡ take m d ++ (c ∷ []) = rw (add-one m) (take-suc-set d m c (omega arith)) in
          ap (λ (l : List Interval). l ++ cut i (drop (k + 1) d)) a
          ∙ append_assoc (take m d) (c ∷ []) (cut i (drop (k + 1) d))
          ∙ ap (λ (a : Interval). take m d ++ (a ∷ cut i (drop (k + 1) d))) p
          ∙ ap (λ (u : Bool). take m d ++ cond u (ends y.lo (sooner y.lo y.hi i.hi) ∷ cut i (drop (k + 1) d)) (cut i (drop (k + 1) d))) q
      go false q =
          ap (λ (l : List Interval). l ++ cut i (drop (k + 1) d)) (take-set-le m d m c (omega arith))
          ∙ ap (λ (u : Bool). take m d ++ cond u (ends y.lo (sooner y.lo y.hi i.hi) ∷ cut i (drop (k + 1) d)) (cut i (drop (k + 1) d))) q

  pub turn-end : (c : Interval) (s : Float) (o r : Option Float) → r ≡ cond (fast_contains (get_or d k z) s) (Some (get_or d k z).hi) o
      → end_found s r (drop (k + 1) (set d m c)) ≡ end_found s o (drop k d)
  unfolding end_found fast_contains is_empty
  turn-end c s o r q =
      ap (λ (l : List Interval). end_found s r l) (rest-set c) ∙ ap (λ (u : Option Float). end_found s u (drop (k + 1) d)) q ∙ ap (λ (l : List Interval). end_found s o l) (sym rest-is)

none_rest : (d : List Interval) (n : ℕ) → n ≡ length d → drop n d ≡ []
none_rest d n e = ap (λ (k : ℕ). drop k d) e ∙ drop-length d

-- none is left once the loop is through
module _ (d : List Interval) (n : ℕ) (e : n ≡ length d) where
  pub cut-end : (m : ℕ) (i : Interval) → take m d ≡ take m d ++ cut i (drop n d)
  unfolding cut
  cut-end m i = sym (ap (λ (l : List Interval). take m d ++ cut i l) (none_rest d n e) ∙ append-nil (take m d))

  pub end-end : (s : Float) (o : Option Float) → o ≡ end_found s o (drop n d)
  unfolding end_found
  end-end s o = sym (ap (λ (l : List Interval). end_found s o l) (none_rest d n e))

-- the end found is that of `end_at`, whatever that has for none
end-some : (s e : Float) (l : List Interval) → end_found s (Some e) l ≡ Some (end_at s e l)
unfolding end_found end_at
end-some s e [] = refl
end-some s e (x ∷ l) =
    elim (holds x s false) as (λ t. end_found s (cond t (Some x.hi) (Some e)) l ≡ Some (end_at s (cond t x.hi e) l)) [ true ↦ end-some s x.hi l | false ↦ end-some s e l ]

end-is : (s e : Float) (l : List Interval) → end_found s None l ≡ cond (some_holds l s false) (Some (end_at s e l)) None
unfolding end_found end_at some_holds
end-is s e [] = refl
end-is s e (x ∷ l) =
    elim (holds x s false) as (λ t. end_found s (cond t (Some x.hi) None) l ≡ cond (t || some_holds l s false) (Some (end_at s (cond t x.hi e) l)) None) [
      | true ↦ end-some s x.hi l
      | false ↦ end-is s e l
    ]

-- where one was found, a piece held s; where none was, none did
pub end-held : (s e r : Float) (l : List Interval) → Some r ≡ end_found s None l → (some_holds l s false ≡ true) × (r ≡ end_at s e l)
end-held s e r l h = go (some_holds l s false) (h ∙ end-is s e l)
  where
    go : (t : Bool) → Some r ≡ cond t (Some (end_at s e l)) None → (t ≡ true) × (r ≡ end_at s e l)
    go true q = (refl, cc)
    go false q = absurd (cc)

pub none-held : (s : Float) (l : List Interval) → None ≡ end_found s None l → some_holds l s false ≡ false
none-held s l h = go (some_holds l s false) (h ∙ end-is s s l)
  where
    go : (t : Bool) → None ≡ cond t (Some (end_at s s l)) None → t ≡ false
    go true q = absurd (cc)
    go false q = refl

pub past-few : (t : Bool) (m k r : ℕ) → m ≤ k → r ≡ cond t (m + 1) m → r ≤ k + 1
past-few true m k r h e = omega arith
past-few false m k r h e = omega arith

-- ---- one arc more: the cases
pub whole_is : (d : List Interval) (m : ℕ) (z : Interval) → m < length d → whole (take m d) ≡ not (eqb m 0) && is_full (get_or d 0 z)
unfolding whole
whole_is [] m z h = absurd (omega arith)
whole_is (x ∷ d) zero z h = refl
whole_is (x ∷ d) (suc m) z h = sym (ap (λ (t : Bool). not t && is_full x) (ne_eqb (suc m) 0 (λ e. omega arith)))

module _ (found : List Interval) (a : Interval) where
  pub step-full : is_full a ≡ true → step found a ≡ found
  unfolding step
  step-full f = ap (λ (t : Bool). cond t found (cond (whole found) (cond (is_empty a) [] (a ∷ [])) (clip found a))) f

  module _ (f : is_full a ≡ false) where
    step_part : step found a ≡ cond (whole found) (cond (is_empty a) [] (a ∷ [])) (clip found a)
    unfolding step
    step_part = ap (λ (t : Bool). cond t found (cond (whole found) (cond (is_empty a) [] (a ∷ [])) (clip found a))) f

    pub step-first : (t : Bool) → whole found ≡ true → is_empty a ≡ t → step found a ≡ cond t [] (a ∷ [])
    step-first t w e = step_part ∙ ap (λ (u : Bool). cond u (cond (is_empty a) [] (a ∷ [])) (clip found a)) w ∙ ap (λ (u : Bool). cond u [] (a ∷ [])) e

    pub step-rest : whole found ≡ false → step found a ≡ clip found a
    step-rest w = step_part ∙ ap (λ (u : Bool). cond u (cond (is_empty a) [] (a ∷ [])) (clip found a)) w

  -- clipping, by whether the arc is EMPTY and whether a piece holds its western end
  module _ (e o : Bool) (q : e ≡ is_empty a) (u : o ≡ some_holds found a.lo false) where
    abbrev opened : Bool → List Interval
    opened t = cond t (insert (ends a.lo (sooner a.lo (end_at a.lo a.hi found) a.hi)) (cut a found)) (cut a found)

    clip-is : clip found a ≡ opened (not e && o)
    unfolding clip
    clip-is = ap opened (ap (λ (v : Bool). not v && some_holds found a.lo false) (sym q) ∙ ap (λ (v : Bool). not e && v) (sym u))

    pub clip-open : (r s : Float) (p : List Interval) → r ≡ end_at a.lo a.hi found → p ≡ cut a found → s ≡ sooner a.lo r a.hi → not e && o ≡ true → insert (ends a.lo s) p ≡ clip found a
    clip-open r s p x y z t =
        sym (clip-is ∙ ap opened t
        ∙ ap (λ (v : Float). insert (ends a.lo (sooner a.lo v a.hi)) (cut a found)) (sym x) ∙ ap (λ (v : Float). insert (ends a.lo v) (cut a found)) (sym z)
        ∙ ap (λ (v : List Interval). insert (ends a.lo s) v) (sym y))

    pub clip-cut : not e && o ≡ false → clip found a ≡ cut a found
    clip-cut t = clip-is ∙ ap opened t

pub first_one : (d : List Interval) (a : Interval) → 0 < length d → take 1 (set d 0 a) ≡ a ∷ []
first_one [] a h = absurd (omega arith)
first_one (x ∷ d) a h = refl

-- ---- the arcs clipped one by one
module _ (arcs : List Interval) (k : ℕ) (z : Interval) (h : k < length arcs) where
  pub next-arc : drop k arcs ≡ get_or arcs k z ∷ drop (k + 1) arcs
  next-arc = drop-cons arcs k z h ∙ ap (λ (j : ℕ). get_or arcs k z ∷ drop j arcs) (sym (add-one k))

  pub clipped-turn : (found new : List Interval) → new ≡ step found (get_or arcs k z) → steps new (drop (k + 1) arcs) ≡ steps found (drop k arcs)
  unfolding steps
  clipped-turn found new e = ap (λ (x : List Interval). steps x (drop (k + 1) arcs)) e ∙ ap (steps found) (sym next-arc)

-- the arcs that are left, as a part of the slice has them
pub left_is : (arcs : List Interval) (k : ℕ) → take (length arcs - k) (drop k arcs) ≡ drop k arcs
left_is arcs k = take_all (length arcs - k) (drop k arcs) (omega (arith, length-drop k arcs))

pub turn_clips : (arcs found : List Interval) (k : ℕ) (z : Interval) → k < length arcs → steps (step found (get_or arcs k z)) (drop (k + 1) arcs) ≡ steps found (drop k arcs)
turn_clips arcs found k z h = clipped-turn arcs k z h found (step found (get_or arcs k z)) refl

pub all_clipped : (found arcs : List Interval) (k : ℕ) → k ≡ length arcs → steps found (drop k arcs) ≡ found
unfolding steps
all_clipped found arcs k e = ap (steps found) (none_rest arcs k e)

-- ---- the test of room, and what it says
pub room_of : (arcs pieces : List Interval) → room (length arcs) (length pieces) ≡ true → Room 1 arcs pieces
unfolding room
room_of arcs pieces h =
    let most = leb-true (length arcs) 512 (and_l (leb (length arcs) 512) _ h) in
    let few = ltb-true (length arcs + 1) (length pieces) (and_r (leb (length arcs) 512) _ h) in
    record { most = omega (arith, most); holds = omega (arith, few) }

pub room-is : (arcs pieces : List Interval) → length arcs ≤ 512 → length arcs + 1 < length pieces → room (length arcs) (length pieces) ≡ true
unfolding room
room-is arcs pieces a b = and-of (le-leb (length arcs) 512 a) (lt-ltb (length arcs + 1) (length pieces) b)

-- ---- the pieces left, written another way
pub first_as : {n m most : ℕ} {l p q : List Interval} → Firsts n l p m → p ≡ q → m ≤ most → Firsts n l q most
first_as w e h = record { is = w.is ∙ e; few = omega (arith, w.few, h) }

-- ---- sets by what they serve
pub ruleset cutting = (cut-end, end-end)

pub ruleset clipping = (clip-open, clip-cut, end-held, none-held, take-append-le, length-take)
