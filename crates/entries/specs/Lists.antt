-- Lists of records: what holds of each entry, and how long a list may be. Definitions only.
use Rattle.std.specs.Prelude.{Bool, ◌&&◌, List, [], ◌∷◌, ℕ, ◌*◌, ◌%◌, length, leb, eqb}

-- x is an entry
pub data Mem {A : Type 0} (x : A) : List A → Type 0 where
  first : {l : List A} → Mem x (x ∷ l)
  later : {y : A} {l : List A} → Mem x l → Mem x (y ∷ l)

-- P of each entry; R of each entry and each later one
abbrev pub All : {A : Type 0} → (A → Type 0) → List A → Type 0
All P [] = Unit
All P (x ∷ l) = P x × All P l

abbrev pub Pairs : {A : Type 0} → (A → A → Type 0) → List A → Type 0
Pairs R [] = Unit
Pairs R (x ∷ l) = All (R x) l × Pairs R l

-- n numbers are whole records of `size` numbers each, at most `limit` of them
unfoldable pub whole_length : ℕ → ℕ → ℕ → Bool
whole_length size limit n = eqb (n % size) 0 && leb n (size * limit)

-- and so is a list
abbrev pub whole : {A : Type 0} → ℕ → ℕ → List A → Bool
whole size limit l = whole_length size limit (length l)
