-- A stream as its maker writes it: for each rectangle the mark and its four numbers. Definitions only; that reading gives the rectangles back is proved
-- in proofs/Laws.antt, and that every string of bytes begins so, up to its first fault, in proofs/Every.antt.
use Rattle.std.specs.Prelude.{List, [], ◌∷◌, ◌++◌, ℕ, zero, suc, ◌/◌, ◌%◌, Float}
use Rattle.bits.specs.Pattern.{to_pattern}
use Rattle.s2.specs.declared.rect.Rect.{Rect}
use Rattle.entries.specs.Inputs.{in_turn}

-- the k bytes of a word, the lowest first
unfoldable pub little_endian : ℕ → ℕ → List ℕ
little_endian zero w = []
little_endian (suc k) w = w % 256 ∷ little_endian k (w / 256)

unfoldable pub double_bytes : Float → List ℕ
double_bytes x = little_endian 8 (to_pattern x)

unfoldable pub record_bytes : Rect → List ℕ
record_bytes r = 0x52 ∷ (0x31 ∷ (double_bytes r.lat.lo ++ (double_bytes r.lat.hi ++ (double_bytes r.lng.lo ++ double_bytes r.lng.hi))))

unfoldable pub stream_bytes : List Rect → List ℕ
stream_bytes rs = in_turn record_bytes rs
