-- An input that is read item by item, in order, where the first fault decides. The form of the input says how one item is read; what the whole input comes to
-- is said here, once for every form. Definitions only; what they mean is in proofs/Inputs.antt.
use Rattle.std.specs.Prelude.{List, [], ◌∷◌, ◌++◌, ℕ, zero, suc}
use Rattle.consts.specs.Refusal.{given}

-- an input of letters B that holds items A
pub record Form (B A : Type 0) : Type 0 where
  -- the number of the item that the input begins with, and under 0 the item
  pub number : List B → ℕ
  pub item : List B → A
  -- what is left after it
  pub rest : List B → List B
  -- how many items are taken, and the number of an input that goes on after them
  pub limit : ℕ
  pub over : List B → ℕ

-- what an input comes to
pub data Input (A : Type 0) : Type 0 where
  -- all of its items
  Items : List A → Input A
  -- its first fault: the number, and the entry that it stands at, counted from zero
  Fault : ℕ → ℕ → Input A

-- an item, and what the rest comes to
abbrev pub after : {A : Type 0} → A → Input A → Input A
after x (Items l) = Items (x ∷ l)
after x (Fault n k) = Fault n k

-- the input s from the entry k on, of which n items more are taken
unfoldable pub read_from : {B A : Type 0} → Form B A → ℕ → ℕ → List B → Input A
read_from f zero k [] = Items []
read_from f zero k (b ∷ s) = Fault (f.over (b ∷ s)) k
read_from f (suc n) k [] = Items []
read_from f (suc n) k (b ∷ s) =
    given (f.number (b ∷ s)) (after (f.item (b ∷ s)) (read_from f n (suc k) (f.rest (b ∷ s)))) (Fault (f.number (b ∷ s)) k)

-- from its first entry on
unfoldable pub input_of : {B A : Type 0} → Form B A → List B → Input A
input_of f s = read_from f f.limit 0 s

-- ---- the way back: what is written for each item, one after the other
unfoldable pub in_turn : {C B : Type 0} → (C → List B) → List C → List B
in_turn write [] = []
in_turn write (c ∷ l) = write c ++ in_turn write l
