-- The text that goes out for a stream. Definitions only.
use Rattle.std.specs.Prelude.{cond, List, ℕ, Float}
use Rattle.consts.specs.Refusal.{of_entry}
use Rattle.lists.specs.Rects.{numbers_of}
use Rattle.region.specs.Answers.{pieces_of}
use Rattle.text.specs.Text.{pieces_text, refused_text, refused_at_text}
use Rattle.stream.specs.Stream.{Stream, Numbers, Fault, stream_of}

-- the pieces of the common region of a list of rectangles
unfoldable pub region_text : List Float → List ℕ
region_text l = pieces_text (numbers_of (pieces_of l))

-- a fault: where the number is a rectangle's, with its entry
unfoldable pub fault_text : ℕ → ℕ → List ℕ
fault_text n k = cond (of_entry n) (refused_at_text n k) (refused_text n)

unfoldable pub text_of : Stream → List ℕ
text_of (Numbers l) = region_text l
text_of (Fault n k) = fault_text n k

unfoldable pub answer_text : List ℕ → List ℕ
answer_text s = text_of (stream_of s)
