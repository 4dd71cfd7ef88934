-- What the functions of src/ promise each other. Nothing here needs to be believed: no public contract and no promise cites it.
use Rattle.std.specs.Prelude.{◌≡◌, true, cond, List, ℕ, ◌*◌, ◌≤◌, length, take, drop, leb, Float, Result, Ok, Err}
use Rattle.consts.specs.Refusal.{number, accepted, code, given}
use Rattle.s2.specs.Places.{Valid}
use Rattle.entries.specs.Lists.{All, whole}
use Rattle.lists.specs.Rects.{rects_of}
use Rattle.entries.specs.declared.records.Fault.{Fault as RecordFault}
use Rattle.stream.specs.Stream.{Stream, Numbers, Fault, over_number, stream_of}

-- how many rectangles were gathered; under a refusal number, how many stand before the fault
pub record Gathered : Type 0 where
  pub refusal : ℕ
  pub count : ℕ

abbrev pub gathered_of : Result ℕ RecordFault → Gathered
gathered_of (Ok k) = record { refusal = number accepted; count = k }
gathered_of (Err f) = record { refusal = code f.refusal; count = f.entry }

-- k records were read, and no other is taken
unfoldable pub ended_with : ℕ → List ℕ → Gathered
ended_with k s = record { refusal = cond (leb (length s) (34 * k)) (number accepted) (over_number (drop (34 * k) s)); count = k }

-- what was gathered into the list l, as a stream
abbrev pub gathered : Gathered → List Float → Stream
gathered g l = given g.refusal (Numbers (take (4 * g.count) l)) (Fault g.refusal g.count)

pub record IsGathered (s : List ℕ) (g : Gathered) (l : List Float) : Type 0 where
  pub is : stream_of s ≡ gathered g l
  pub few : g.count ≤ 512

-- a list that `common_region` accepts
pub record Taken (l : List Float) : Type 0 where
  pub is_whole : whole 4 512 l ≡ true
  pub all_valid : All Valid (rects_of l)
