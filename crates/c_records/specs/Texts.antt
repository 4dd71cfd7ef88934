-- The text of a box, by value. Definitions only.
use Rattle.std.specs.Prelude.{List, ℕ, replicate}
use Rattle.bounds.specs.declared.bounds.Bounds.{Bounds}
use Rattle.bbox_text.specs.Text.{wrote_box, left_box}
use Rattle.c_records.specs.declared.texts.CText.{CText}

-- so many zero bytes
abbrev pub zeros : ℕ → List ℕ
zeros n = replicate n 0

-- what writing a box into 52 zeros answers, and the bytes that it leaves
abbrev pub box_text : Bounds → CText
box_text b = record { refusal = (wrote_box b 52).refusal; length = (wrote_box b 52).count; text = left_box b (zeros 52) }
