-- The output written turn by turn: four numbers for each piece, and what was there behind them. Assumes nothing.
use mathlib.Core.Path.{◌≡◌, refl, sym, ap, ◌∙◌}
use mathlib.Core.List.{List, [], ◌∷◌, ◌++◌}
use Prim.Native.Nat.{ℕ, suc, ◌+◌, ◌*◌, ◌≤◌, ◌<◌}
use native.Mathlib.Numerals.{add-one}
use native.Mathlib.Omega.{arith}
use lib.ListN.{length, drop, take, get_or, set}
use lib.Seq.{take-length, length-take-le, take-suc, take_at, drop_at, drop-drop, sets-eq}
use lib.Ieee.{Float}
use Rattle.r1.specs.declared.interval.Interval.{Interval as Line}
use Rattle.s1.specs.declared.interval.Interval.{Interval}
use Rattle.lists.specs.Rects.{numbers_of}
use Rattle.region.specs.Region.{across}

numbers-append : (b : Line) (l m : List Interval) → numbers_of (across b (l ++ m)) ≡ numbers_of (across b l) ++ numbers_of (across b m)
unfolding numbers_of across
numbers-append b [] m = refl
numbers-append b (x ∷ l) m = ap (λ (r : List Float). b.lo ∷ (b.hi ∷ (x.lo ∷ (x.hi ∷ r)))) (numbers-append b l m)

pub length-numbers : (b : Line) (l : List Interval) → length (numbers_of (across b l)) ≡ 4 * length l
unfolding numbers_of across
length-numbers b [] = refl
length-numbers b (x ∷ l) = omega (arith, length-numbers b l)

module _ (b : Line) (d : List Interval) (k : ℕ) (z : Interval) (h : k < length d) where
  abbrev x : Interval
  x = get_or d k z

  abbrev done : List Float
  done = numbers_of (across b (take k d))

  done-suc : numbers_of (across b (take (k + 1) d)) ≡ done ++ (b.lo ∷ (b.hi ∷ (x.lo ∷ (x.hi ∷ []))))
  unfolding numbers_of across
  done-suc =
      let e : take (k + 1) d ≡ take k d ++ (x ∷ []) = rw (add-one k) (take-suc d k z h) in
      ap (λ (l : List Interval). numbers_of (across b l)) e ∙ numbers-append b (take k d) (x ∷ [])

  done-length : length done ≡ 4 * k
  done-length = length-numbers b (take k d) ∙ ap (λ (n : ℕ). 4 * n) (length-take-le k d (omega arith))

  pub turn-out : (o o₀ : List Float) → o ≡ done ++ drop (4 * k) o₀ → length o ≡ length o₀ → 4 * k + 4 ≤ length o₀
      → set (set (set (set o (4 * k) b.lo) (4 * k + 1) b.hi) (4 * k + 2) x.lo) (4 * k + 3) x.hi ≡ numbers_of (across b (take (k + 1) d)) ++ drop (4 * (k + 1)) o₀
  turn-out o o₀ e f g =
      let vs : List Float = b.lo ∷ (b.hi ∷ (x.lo ∷ (x.hi ∷ []))) in
      let s1 : 4 * k + 1 ≡ suc (4 * k) = omega arith in
      let s2 : 4 * k + 2 ≡ suc (suc (4 * k)) = omega arith in
      let s3 : 4 * k + 3 ≡ suc (suc (suc (4 * k))) = omega arith in
      let s4 : 4 * k + 4 ≡ 4 * (k + 1) = omega arith in
      let a : take (4 * k) o ≡ done = ap (λ (l : List Float). take (4 * k) l) e ∙ take_at done (drop (4 * k) o₀) (4 * k) done-length in
      let c : drop (4 * k + 4) o ≡ drop (4 * (k + 1)) o₀ =
      sym (drop-drop 4 (4 * k) o) ∙ ap (λ (l : List Float). drop 4 l) (ap (λ (l : List Float). drop (4 * k) l) e ∙ drop_at done (drop (4 * k) o₀) (4 * k) done-length)
      ∙ drop-drop 4 (4 * k) o₀ ∙ ap (λ (n : ℕ). drop n o₀) s4 in
      rw (s1, s2, s3)
      (sets-eq vs o (4 * k) (omega arith) ∙ ap (λ (l : List Float). (l ++ vs) ++ drop (4 * k + 4) o) a ∙ ap (λ (l : List Float). (done ++ vs) ++ l) c
      ∙ ap (λ (l : List Float). l ++ drop (4 * (k + 1)) o₀) (sym done-suc))

pub out_none : (b : Line) (d : List Interval) (o : List Float) → o ≡ numbers_of (across b (take 0 d)) ++ drop (4 * 0) o
unfolding numbers_of across
out_none b d o = refl

-- no piece leaves the output as it was
pub out-nothing : (b : Line) (d : List Interval) (n : ℕ) (o last : List Float) → n ≡ 0 → last ≡ numbers_of (across b (take n d)) ++ drop (4 * n) o → last ≡ o
out-nothing b d n o last e h = h ∙ ap (λ (k : ℕ). numbers_of (across b (take k d)) ++ drop (4 * k) o) e ∙ sym (out_none b d o)

-- the turns of the loop
pub ruleset writing = (turn-out, take-length)
