-- What the writers of a text, of pieces and of a refusal answer, and every byte that they leave in the output: a text that fits stands at its start, and
-- the bytes after it stay; a refusal leaves all as it was. Definitions only.
use Rattle.std.specs.Prelude.{◌≡◌, cond, List, ◌++◌, ℕ, leb, ltb, length, take, drop, Float, Result, Ok, Err}
use Rattle.consts.specs.declared.refusal.Refusal.{Refusal}
use Rattle.consts.specs.Refusal.{number, accepted, bad_list, no_room, code}
use Rattle.entries.specs.Lists.{whole}
use Rattle.text.specs.Text.{pieces_text, refused_text, refused_at_text, refused_at_line_text}

-- What was written: the refusal number, and how many bytes stand at the start of the output; none under a refusal.
pub record Written : Type 0 where
  pub refusal : ℕ
  pub count : ℕ

abbrev pub refused_with : ℕ → Written
refused_with n = record { refusal = n; count = 0 }

-- what a result stands for
abbrev pub written_of : Result ℕ Refusal → Written
written_of (Ok n) = record { refusal = number accepted; count = n }
written_of (Err r) = refused_with (code r)

-- ---- any text
unfoldable pub wrote : List ℕ → ℕ → Written
wrote t room = cond (leb (length t) room) (record { refusal = number accepted; count = length t }) (refused_with (number no_room))

unfoldable pub left : List ℕ → List ℕ → List ℕ
left t out = cond (leb (length t) (length out)) (t ++ drop (length t) out) out

-- ---- pieces: four numbers each, at most 512 of them
unfoldable pub wrote_pieces : List Float → ℕ → Written
wrote_pieces l room = cond (whole 4 512 l) (wrote (pieces_text l) room) (refused_with (number bad_list))

unfoldable pub left_pieces : List Float → List ℕ → List ℕ
left_pieces l out = cond (whole 4 512 l) (left (pieces_text l) out) out

-- ---- a refusal
unfoldable pub wrote_refusal : ℕ → ℕ → Written
wrote_refusal n room = wrote (refused_text n) room

unfoldable pub left_refusal : ℕ → List ℕ → List ℕ
left_refusal n out = left (refused_text n) out

-- ---- a text that ends with the number of a place, under 1,000
abbrev pub wrote_at : List ℕ → ℕ → ℕ → Written
wrote_at t place room = cond (ltb place 1000) (wrote t room) (refused_with (number bad_list))

abbrev pub left_at : List ℕ → ℕ → List ℕ → List ℕ
left_at t place out = cond (ltb place 1000) (left t out) out

-- a refusal and its entry
unfoldable pub wrote_refusal_at : ℕ → ℕ → ℕ → Written
wrote_refusal_at n entry room = wrote_at (refused_at_text n entry) entry room

unfoldable pub left_refusal_at : ℕ → ℕ → List ℕ → List ℕ
left_refusal_at n entry out = left_at (refused_at_text n entry) entry out

-- a refusal and its line
unfoldable pub wrote_refusal_at_line : ℕ → ℕ → ℕ → Written
wrote_refusal_at_line n line room = wrote_at (refused_at_line_text n line) line room

unfoldable pub left_refusal_at_line : ℕ → ℕ → List ℕ → List ℕ
left_refusal_at_line n line out = left_at (refused_at_line_text n line) line out

-- ---- what the laws say of an accepted writing w, which found the output as out and left it as o: the bytes that it counts are the text t, and every byte
-- after them is as it was
pub record Stands (t : List ℕ) (w : Written) (out o : List ℕ) : Type 0 where
  pub counted : w.count ≡ length t
  pub text : take w.count o ≡ t
  pub rest : drop w.count o ≡ drop w.count out
