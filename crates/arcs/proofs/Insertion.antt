-- Insertion into an array, turn by turn: `walk` is what is still to be done, before and after the place is found. Assumes nothing.
use mathlib.Core.Path.{◌≡◌, refl, sym, ap, ◌∙◌}
use mathlib.Core.Bool.{Bool, true, false, cond, ◌||◌, false≢true}
use mathlib.Core.List.{List, [], ◌∷◌, ◌++◌, append_assoc}
use Prim.Native.Nat.{ℕ, suc, ◌+◌, ◌≤◌, ◌<◌}
use native.Mathlib.Numerals.{add-one}
use native.Mathlib.Omega.{arith}
use lib.ListN.{length, drop, take, get_or, set, take-append-drop}
use lib.Seq.{drop-cons, drop-length, length-take-le, get_or-take, take-suc, take-suc-set, take-set-lt, drop-set-lt, take-take}
use lib.Ieee.{lt}
use Rattle.s1.specs.declared.interval.Interval.{Interval}
use Rattle.arcs.specs.Clipping.{insert}

abbrev pub walk : Bool → Interval → List Interval → List Interval
walk true c l = c ∷ l
walk false c l = insert c l

walk_first : (m : Bool) (c y : Interval) (r : List Interval) → m || lt c.lo y.lo ≡ true → walk m c (y ∷ r) ≡ c ∷ (y ∷ r)
unfolding insert
walk_first true c y r e = refl
walk_first false c y r e = ap (λ (t : Bool). cond t (c ∷ (y ∷ r)) (cond (lt y.lo c.lo) (y ∷ insert c r) (y ∷ r))) e

walk-past : (m : Bool) (c y : Interval) (r : List Interval) (t : Bool) → m || lt c.lo y.lo ≡ false → lt y.lo c.lo ≡ t → walk m c (y ∷ r) ≡ cond t (y ∷ walk m c r) (y ∷ r)
unfolding insert
walk-past true c y r t e f = absurd (false≢true (sym e))
walk-past false c y r t e f = ap (λ (t : Bool). cond t (c ∷ (y ∷ r)) (cond (lt y.lo c.lo) (y ∷ insert c r) (y ∷ r))) e ∙ ap (λ (t : Bool). cond t (y ∷ insert c r) (y ∷ r)) f

walk_none : (m : Bool) (c : Interval) → walk m c [] ≡ c ∷ []
unfolding insert
walk_none true c = refl
walk_none false c = refl

module _ (d : List Interval) (n i : ℕ) (z : Interval) (h : i < n) (k : n ≤ length d) where
  abbrev y : Interval
  y = get_or d i z

  rest-is : drop i (take n d) ≡ y ∷ drop (i + 1) (take n d)
  rest-is =
      drop-cons (take n d) i z (rw (length-take-le n d k) h)
      ∙ ap (λ (a : Interval). a ∷ drop (suc i) (take n d)) (get_or-take n d i z h) ∙ ap (λ (j : ℕ). y ∷ drop j (take n d)) (sym (add-one i))

  front : take (i + 1) d ≡ take i d ++ (y ∷ [])
  front = rw (add-one i) (take-suc d i z (omega arith))

  pub turn-move : (m : Bool) (c : Interval) → m || lt c.lo y.lo ≡ true
      → take (i + 1) (set d i c) ++ walk true y (drop (i + 1) (take n (set d i c))) ≡ take i d ++ walk m c (drop i (take n d))
  turn-move m c e =
      let a : take (i + 1) (set d i c) ≡ take i d ++ (c ∷ []) = rw (add-one i) (take-suc-set d i c (omega arith)) in
      let b : drop (i + 1) (take n (set d i c)) ≡ drop (i + 1) (take n d) = ap (λ (l : List Interval). drop (i + 1) l) (take-set-lt n d i c h) ∙ drop-set-lt (i + 1) (take n d) i c (omega arith) in
      ap (λ (l : List Interval). l ++ (y ∷ drop (i + 1) (take n (set d i c)))) a ∙ ap (λ (l : List Interval). (take i d ++ (c ∷ [])) ++ (y ∷ l)) b
      ∙ append_assoc (take i d) (c ∷ []) (y ∷ drop (i + 1) (take n d))
      ∙ ap (λ (l : List Interval). take i d ++ l) (sym (ap (λ (l : List Interval). walk m c l) rest-is ∙ walk_first m c y (drop (i + 1) (take n d)) e))

  pub turn-past : (m : Bool) (c : Interval) → m || lt c.lo y.lo ≡ false → lt y.lo c.lo ≡ true
      → take (i + 1) d ++ walk m c (drop (i + 1) (take n d)) ≡ take i d ++ walk m c (drop i (take n d))
  turn-past m c e f =
      ap (λ (l : List Interval). l ++ walk m c (drop (i + 1) (take n d))) front ∙ append_assoc (take i d) (y ∷ []) (walk m c (drop (i + 1) (take n d)))
      ∙ ap (λ (l : List Interval). take i d ++ l) (sym (ap (λ (l : List Interval). walk m c l) rest-is ∙ walk-past m c y (drop (i + 1) (take n d)) true e f))

  pub turn-same : (m : Bool) (c : Interval) → m || lt c.lo y.lo ≡ false → lt y.lo c.lo ≡ false → take n d ≡ take i d ++ walk m c (drop i (take n d))
  turn-same m c e f =
      sym (ap (λ (l : List Interval). take i d ++ l) (ap (λ (l : List Interval). walk m c l) rest-is ∙ walk-past m c y (drop (i + 1) (take n d)) false e f ∙ sym rest-is)
      ∙ ap (λ (l : List Interval). l ++ drop i (take n d)) (sym (take-take i n d (omega arith))) ∙ take-append-drop i (take n d))

pub turn_end : (d : List Interval) (n : ℕ) (m : Bool) (c : Interval) → n < length d → take (n + 1) (set d n c) ≡ take n d ++ walk m c (drop n (take n d))
turn_end d n m c h =
    rw (add-one n) (take-suc-set d n c h)
    ∙ ap (λ (l : List Interval). take n d ++ l)
    (sym (ap (λ (l : List Interval). walk m c l) (ap (λ (k : ℕ). drop k (take n d)) (sym (length-take-le n d (omega arith))) ∙ drop-length (take n d)) ∙ walk_none m c))

-- the turns of the loop
pub ruleset insertion = (turn-move, turn-past, turn-same, turn_end)
