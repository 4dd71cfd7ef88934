-- What the writers answer where the text fits: it stands at the start of the output, and its length is the count. Assumes nothing.
use mathlib.Core.Path.{◌≡◌}
use mathlib.Core.Bool.{true}
use mathlib.Core.List.{List}
use Prim.Native.Nat.{ℕ, ◌%◌, ◌≤◌}
use borrow.Author.Tests.{le-leb}
use lib.ListN.{length}
use lib.Ieee.{Float}
use Rattle.consts.specs.Refusal.{number, accepted}
use Rattle.text.specs.Inside.{onto}
use Rattle.entries.specs.Lists.{whole}
use Rattle.entries.proofs.Lengths.{whole_multiple, whole-short}
use Rattle.text.specs.Answers.{wrote, left}

pub wrote-fits : (t : List ℕ) (n room : ℕ) → length t ≡ n → n ≤ room → record { refusal = number accepted; count = n } ≡ wrote t room
unfolding wrote
wrote-fits t n room e h = simp (e, le-leb n room h)

pub left-fits : (t out : List ℕ) → length t ≤ length out → onto t out ≡ left t out
unfolding left
left-fits t out h = simp (le-leb (length t) (length out) h)

-- ---- a list that is taken
pub whole_is : (l : List Float) → whole 4 512 l ≡ true → (length l % 4 ≡ 0) × (length l ≤ 2048)
whole_is l h = (whole_multiple 4 512 (length l) h, whole-short 4 512 (length l) h)
