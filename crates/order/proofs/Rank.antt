-- What a statement on the order of a few doubles is tried by: the ranks of the doubles in a list, and trial of all numbers below a bound.
-- Entries of a list compare as their ranks do (Ranks.antt), so a test that holds at all numbers below the list's length holds at the doubles.
-- Definitions only, of proofs: no contract cites one.
use mathlib.Core.Path.{◌≡◌}
use mathlib.Core.Bool.{Bool, true, false, ◌&&◌, ◌||◌}
use mathlib.Core.List.{List, [], ◌∷◌}
use Prim.Native.Nat.{ℕ, zero, suc, ◌+◌}
use lib.Dec.{ltb}
use lib.Ieee.{Float}
use Rattle.order.specs.Key.{K, Num}

-- x is a number, and stands in the list
pub data In : List Float → Float → Type 0 where
  here : {l : List Float} {x : Float} → Num x ≡ true → In (x ∷ l) x
  there : {l : List Float} {x y : Float} → In l x → In (y ∷ l) x

-- a list of numbers
abbrev pub Nums : List Float → Type 0
Nums [] = Unit
Nums (x ∷ l) = (Num x ≡ true) × Nums l

abbrev pub one_if : Bool → ℕ
one_if true = 1
one_if false = 0

-- how many entries of the list have a key below k
unfoldable pub count : List Float → ℕ → ℕ
count [] k = 0
count (z ∷ l) k = one_if (ltb (K z) k) + count l k

-- how many entries of the list are below x
unfoldable pub rank : List Float → Float → ℕ
rank l x = count l (K x)

-- ---- trial of all numbers below n, and of both truth values
unfoldable pub all : ℕ → (ℕ → Bool) → Bool
all zero P = true
all (suc n) P = P n && all n P

unfoldable pub both : (Bool → Bool) → Bool
both P = P true && P false

unfoldable pub imp : Bool → Bool → Bool
imp true b = b
imp false b = true

-- P of each entry, or of some entry, with either mark
unfoldable pub every : {A : Type 0} → (A → Bool → Bool) → List A → Bool
every P [] = true
every P (w ∷ l) = P w true && (P w false && every P l)

unfoldable pub some : {A : Type 0} → (A → Bool → Bool) → List A → Bool
some P [] = false
some P (w ∷ l) = P w true || (P w false || some P l)

-- what `some` finds among doubles
abbrev pub Found : (Float → Bool → Bool) → Type 0
Found P = (w : Float) × (g : Bool) × (Num w ≡ true) × (P w g ≡ true)
