-- What the functions of this crate promise each other. Nothing here needs to be believed: it stands among the definitions only because a contract can cite
-- nothing else, and what it comes to is what `common_region` promises (specs/Answers.antt), which is proved from it. Definitions only.
use Rattle.std.specs.Prelude.{◌≡◌, List, ◌++◌, ℕ, ◌+◌, ◌*◌, ◌/◌, ◌%◌, ◌≤◌, ◌<◌, length, take, drop, Float, Result, Ok, Err}
use Rattle.consts.specs.declared.refusal.Refusal.{Refusal}
use Rattle.consts.specs.Refusal.{number, accepted, no_room, code}
use Rattle.s1.specs.declared.interval.Interval.{Interval}
use Rattle.s1.specs.Circle.{FULL}
use Rattle.s2.specs.declared.rect.Rect.{Rect}
use Rattle.lists.specs.Rects.{rects_of, numbers_of, as_read_all}
use Rattle.arcs.specs.Kinds.{risen, crossing}
use Rattle.region.specs.declared.reading.Arcs.{Arcs}
use Rattle.region.specs.declared.finding.Found.{Found}
use Rattle.region.specs.Region.{lngs, band, across}
use Rattle.region.specs.Answers.{pieces_of, entry_of, Promised}

-- whole rectangles, at most 512, with room for an arc of each, and for two pieces more
pub record Room (list : List Float) (arcs pieces : List Interval) : Type 0 where
  pub whole : length list % 4 ≡ 0
  pub most : length list ≤ 2048
  pub arcs-room : length list ≤ 4 * length arcs
  pub pieces-room : length list + 8 ≤ 4 * length pieces

-- the arcs of the list of numbers l: those that cross the seam are the first of d, in the list's order, and the others met
pub record IsArcs (l : List Float) (a : Arcs) (d : List Interval) : Type 0 where
  pub lat-is : a.lat ≡ band (as_read_all (rects_of l))
  pub lng-is : a.lng ≡ risen FULL (lngs (as_read_all (rects_of l)))
  pub is : take a.count d ≡ crossing (lngs (as_read_all (rects_of l)))
  pub few : 4 * a.count ≤ length l

-- all that was found in the list of numbers l, with the longitude pieces the first of d
pub record IsFound (l : List Float) (f : Found) (d : List Interval) : Type 0 where
  pub is : across f.lat (take f.count d) ≡ pieces_of l
  pub few : f.count ≤ length l / 4 + 1

-- how many pieces are listed, or the refusal number
pub record Listed : Type 0 where
  pub refusal : ℕ
  pub count : ℕ

abbrev pub listed_of : Result ℕ Refusal → Listed
listed_of (Ok n) = record { refusal = number accepted; count = n }
listed_of (Err w) = record { refusal = code w; count = 0 }

-- r of n pieces are written into room for so many numbers: all of them, or none where they do not fit
pub record Fitted (n room r : ℕ) : Type 0 where
  pub none : r < n → (r ≡ 0) × (room < 4 * n)
  pub few : r ≤ n
  pub fits : 4 * r ≤ room

-- the pieces ps are in the output, with what was there behind them, or do not fit
pub record IsWritten (ps : List Rect) (out : List Float) (r : Listed) (out' : List Float) : Type 0 where
  pub fit : 4 * length ps ≤ length out → (r ≡ record { refusal = number accepted; count = length ps }) × (out' ≡ numbers_of ps ++ drop (4 * length ps) out)
  pub none : length out < 4 * length ps → (r ≡ record { refusal = number no_room; count = 0 }) × (out' ≡ out)

-- with the entry of the list l beside it, r is what is promised
abbrev pub IsListed : List Float → List Float → Listed → List Float → Type 0
IsListed l out r out' = Promised l out (record { refusal = r.refusal; count = r.count; entry = entry_of l }) out'
