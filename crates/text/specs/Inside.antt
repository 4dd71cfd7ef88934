-- What the functions of src/ promise each other of the bytes that they put into the output. Nothing here needs to be believed: no public contract and no promise
-- cites it. The laws are in proofs/Puts.antt.
use Rattle.std.specs.Prelude.{List, ◌++◌, ℕ, length, drop}

-- the text t over the start of o
abbrev pub onto : List ℕ → List ℕ → List ℕ
onto t o = t ++ drop (length t) o
