-- Whole numbers in radians: how many there are, one more of them, and the first one whose radians are a given number, which stands at the place where that
-- number is found; and a list that is searched in two parts. By induction on the list. Assumes nothing.
use mathlib.Core.Path.{◌≡◌, refl, sym, ap, ◌∙◌}
use mathlib.Core.Bool.{Bool, true, false, not, cond}
use mathlib.Core.List.{List, [], ◌∷◌, ◌++◌}
use Prim.Native.Nat.{ℕ, suc, ◌+◌, ◌<◌}
use native.Mathlib.Omega.{arith}
use borrow.Author.Tests.{lt-ltb}
use lib.Dec.{leb-suc-suc}
use lib.ListN.{length, get_or}
use lib.IntN.{ℤ, pos}
use lib.Ieee.{Float, eq, nan}
use Rattle.std.specs.Prelude.{Option, Some, None, nat_lt}
use Rattle.std.specs.List.{position, position_or_len}
use Rattle.std.proofs.lemmas.List.Quantifiers.{position-Some}
use Rattle.degrees.specs.Degrees.{radians}
use Rattle.box_lines.specs.Answers.{in_radians, whole_of}

pub length_radians : (l : List ℤ) → length (in_radians l) ≡ length l
unfolding in_radians
length_radians [] = refl
length_radians (w ∷ l) = ap suc (length_radians l)

pub radians_more : (l : List ℤ) (w : ℤ) → in_radians (l ++ (w ∷ [])) ≡ in_radians l ++ (radians w ∷ [])
unfolding in_radians
radians_more [] w = refl
radians_more (a ∷ l) w = ap (λ (t : List Float). radians a ∷ t) (radians_more l w)

-- ---- looking
pub position-under : (p : Float → Bool) (xs : List Float) (i : ℕ) → position p xs ≡ Some i → i < length xs
position-under p xs i e = (position-Some p xs i nan e).0

abbrev pub number_at : List ℤ → Option ℕ → ℤ
number_at ws None = pos 0
number_at ws (Some i) = get_or ws i (pos 0)

-- ---- where a number stands, by its own case first
abbrev next : Option ℕ → Option ℕ
next None = None
next (Some i) = Some (suc i)

one-more : (p : Float → Bool) (x : Float) (xs : List Float) → position p (x ∷ xs) ≡ cond (p x) (Some 0) (next (position p xs))
one-more p x xs = go (p x)
  where
    n : ℕ
    n = position_or_len p xs

    m : ℕ
    m = length xs

    step : 1 + n ≡ suc n
    step = omega arith

    before : nat_lt (suc n) (suc m) ≡ nat_lt n m
    before = leb-suc-suc (suc n) m

    both : (t : Bool) → cond t (Some (suc n)) None ≡ next (cond t (Some n) None)
    both true = refl
    both false = refl

    go : (t : Bool) → cond (nat_lt (cond (not t) (1 + n) 0) (suc m)) (Some (cond (not t) (1 + n) 0)) None ≡ cond t (Some 0) (next (cond (nat_lt n m) (Some n) None))
    go true = ap (λ (t : Bool). cond t (Some 0) None) (lt-ltb 0 (suc m) (omega arith))
    go false = ap (λ (k : ℕ). cond (nat_lt k (suc m)) (Some k) None) step ∙ ap (λ (t : Bool). cond t (Some (suc n)) None) before ∙ both (nat_lt n m)

pub looked : (ws : List ℤ) (v : Float) → number_at ws (position (λ (x : Float). eq x v) (in_radians ws)) ≡ whole_of ws v
unfolding in_radians whole_of
looked [] v = refl
looked (w ∷ ws) v = ap (number_at (w ∷ ws)) (one-more (λ (x : Float). eq x v) (radians w) (in_radians ws)) ∙ go (eq (radians w) v) (looked ws v)
  where
    found : Option ℕ
    found = position (λ (x : Float). eq x v) (in_radians ws)

    behind : (r : Option ℕ) → number_at (w ∷ ws) (next r) ≡ number_at ws r
    behind None = refl
    behind (Some i) = refl

    go : (t : Bool) → number_at ws found ≡ whole_of ws v → number_at (w ∷ ws) (cond t (Some 0) (next found)) ≡ cond t w (whole_of ws v)
    go true h = refl
    go false h = behind found ∙ h

-- ---- looking in two parts, the one behind the other
-- the place in n numbers, or else that in those behind them
abbrev pub or_behind : ℕ → Option ℕ → Option ℕ → Option ℕ
or_behind n (Some i) r = Some i
or_behind n None None = None
or_behind n None (Some i) = Some (n + i)

pub parted : (p : Float → Bool) (xs ys : List Float) → position p (xs ++ ys) ≡ or_behind (length xs) (position p xs) (position p ys)
parted p [] ys = go (position p ys)
  where
    go : (r : Option ℕ) → r ≡ or_behind 0 None r
    go None = refl
    go (Some i) = ap Some (omega arith)
parted p (x ∷ xs) ys =
    one-more p x (xs ++ ys) ∙ go (p x) (parted p xs ys) ∙ ap (λ (r : Option ℕ). or_behind (suc (length xs)) r (position p ys)) (sym (one-more p x xs))
  where
    both : (r q : Option ℕ) → next (or_behind (length xs) r q) ≡ or_behind (suc (length xs)) (next r) q
    both (Some i) q = refl
    both None None = refl
    both None (Some i) = ap Some (omega arith)

    go : (t : Bool) → position p (xs ++ ys) ≡ or_behind (length xs) (position p xs) (position p ys)
        → cond t (Some 0) (next (position p (xs ++ ys))) ≡ or_behind (suc (length xs)) (cond t (Some 0) (next (position p xs))) (position p ys)
    go true h = refl
    go false h = ap next h ∙ both (position p xs) (position p ys)
