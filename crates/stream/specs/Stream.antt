-- What a stream of records means: the numbers of its rectangles as one list, or the refusal of its first fault. Definitions only; the laws are in
-- proofs/Laws.antt.
use Rattle.std.specs.Prelude.{cond, List, ℕ, drop, Float}
use Rattle.consts.specs.Refusal.{number, bad_list, bad_record}
use Rattle.s2.specs.declared.rect.Rect.{Rect}
use Rattle.s2.specs.Reading.{as_read}
use Rattle.entries.specs.Inputs as inputs
use Rattle.entries.specs.Inputs.{Form, Input, input_of}
use Rattle.lists.specs.Rects.{numbers_of}
use Rattle.record.specs.Records.{whole_record, rect_of, number_of}

pub data Stream : Type 0 where
  -- every record is a rectangle: lat.lo, lat.hi, lng.lo, lng.hi of each, as it is read
  Numbers : List Float → Stream
  -- the first fault: its number, and the record that it stands at, counted from zero
  Fault : ℕ → ℕ → Stream

-- what goes on after the last record that is taken: one too many where it is whole and has a right mark, whatever its numbers; else no record
unfoldable pub over_number : List ℕ → ℕ
over_number s = cond (whole_record s) (number bad_list) (number bad_record)

-- an input of records of 34 bytes, up to 512: each is a rectangle, as it is read
abbrev pub RECORDS : Form ℕ Rect
RECORDS = record { number = number_of; item = λ s. as_read (rect_of s); rest = drop 34; limit = 512; over = over_number }

abbrev pub to_stream : Input Rect → Stream
to_stream (inputs.Items rs) = Numbers (numbers_of rs)
to_stream (inputs.Fault n k) = Fault n k

unfoldable pub stream_of : List ℕ → Stream
stream_of s = to_stream (input_of RECORDS s)
