-- The first refusal of a list of entries of any kind, from the first entry on, and the entry that it stands at. Definitions only; what they mean is in
-- proofs/FirstLaws.antt.
use Rattle.std.specs.Prelude.{List, [], ◌∷◌, ℕ, suc, Option, None, Some}
use Rattle.consts.specs.Refusal.{number, accepted, code, first_refusal, given}
use Rattle.entries.specs.declared.records.Fault.{Fault}

-- a refusal number, and the entry that it stands at
pub record First : Type 0 where
  pub refusal : ℕ
  pub entry : ℕ

-- what is told of a first fault, or of none: 0 beside 0
abbrev pub told : Option Fault → First
told None = record { refusal = number accepted; entry = 0 }
told (Some f) = record { refusal = code f.refusal; entry = f.entry }

-- by `why`, each entry is refused by its own number, or it is 0: the number of the first entry that is refused, or 0
unfoldable pub first_number : {A : Type 0} → (A → ℕ) → List A → ℕ
first_number why [] = number accepted
first_number why (x ∷ l) = first_refusal (why x) (first_number why l)

-- which entry that is, counted from zero; 0 where there is none
unfoldable pub first_entry : {A : Type 0} → (A → ℕ) → List A → ℕ
first_entry why [] = 0
first_entry why (x ∷ l) = given (why x) (given (first_number why l) 0 (suc (first_entry why l))) 0

-- both
abbrev pub first_of : {A : Type 0} → (A → ℕ) → List A → First
first_of why l = record { refusal = first_number why l; entry = first_entry why l }
