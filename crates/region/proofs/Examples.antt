-- Examples of the common region, computed: the answer, and the output left. The output comes in as nines. Document 01's three that are marked P are
-- among them; the crate table lists them. Assumes nothing.
use mathlib.Core.Path.{◌≡◌, refl}
use mathlib.Core.List.{List, [], ◌∷◌}
use Prim.Native.Nat.{ℕ}
use lib.Ieee
use lib.Ieee.{Float, binary64, of_bits}
use Rattle.order.specs.Choice.{min, max}
use Rattle.consts.specs.Refusal.{first_fault, first_refusal}
use Rattle.consts.specs.Reading.{in_reach, plain}
use Rattle.r1.specs.Line as line
use Rattle.s1.specs.Circle as circle
use Rattle.s2.specs.Zone.{latitude}
use Rattle.s2.specs.Reading.{as_read, rect_in_reach, fault_of, read_one}
use Rattle.lists.specs.Rects.{rects_of, numbers_of, as_read_all}
use Rattle.entries.specs.Lists.{whole_length}
use Rattle.entries.specs.First.{first_number, first_entry}
use Rattle.arcs.specs.CommonArcs.{some_holds}
use Rattle.arcs.specs.Clipping.{before, sooner, insert, cut, end_at, clip, whole, step, steps, common}
use Rattle.region.specs.Region.{band_from, lngs, across, region}
use Rattle.region.specs.Answers.{pieces_of, refusal_of, entry_of, answer, left}

abbrev pub double : ℕ → Float
double b = of_bits binary64 b

-- a rectangle of these latitudes and longitudes, by their bits
abbrev pub rect : ℕ → ℕ → ℕ → ℕ → List Float → List Float
rect a b c d l = double a ∷ (double b ∷ (double c ∷ (double d ∷ l)))

-- of the latitudes [0, 1]
abbrev pub zone : ℕ → ℕ → List Float → List Float
zone c d l = rect 0 0x3FF0000000000000 c d l

abbrev pub NINE : Float
NINE = double 0x4022000000000000

abbrev pub four_nines : List Float → List Float
four_nines l = NINE ∷ (NINE ∷ (NINE ∷ (NINE ∷ l)))

-- given the list l and nines for output, eight and one more, the answer is n pieces, and the output is then o
pub record Gives (l : List Float) (n : ℕ) (o : List Float) : Type 0 where
  pub answers : answer l 9 ≡ record { refusal = 0; count = n; entry = 0 }
  pub leaves : left l (four_nines (four_nines (NINE ∷ []))) ≡ o

-- ---- those of document 01's table
-- common of [-1, 1] and [1, -1]: [-1, -1], [1, 1]
abbrev pub BothEnds : Type 0
BothEnds =
    Gives (zone 0xBFF0000000000000 0x3FF0000000000000 (zone 0x3FF0000000000000 0xBFF0000000000000 [])) 2
    (zone 0xBFF0000000000000 0xBFF0000000000000 (zone 0x3FF0000000000000 0x3FF0000000000000 (NINE ∷ [])))

-- common of [2, 1] and [0.5, 0.25]: [0.5, 1], then [2, 0.25]
abbrev pub OverTheSeam : Type 0
OverTheSeam =
    Gives (zone 0x4000000000000000 0x3FF0000000000000 (zone 0x3FE0000000000000 0x3FD0000000000000 [])) 2
    (zone 0x3FE0000000000000 0x3FF0000000000000 (zone 0x4000000000000000 0x3FD0000000000000 (NINE ∷ [])))

-- common of FULL and [C00921FB54442D17, PI]: the second alone
abbrev pub NearlyFull : Type 0
NearlyFull =
    Gives (zone 0xC00921FB54442D18 0x400921FB54442D18 (zone 0xC00921FB54442D17 0x400921FB54442D18 [])) 1
    (zone 0xC00921FB54442D17 0x400921FB54442D18 (four_nines (NINE ∷ [])))

-- ---- these and others
pub record CommonRegions : Type 0 where
  pub both_ends : BothEnds
  pub over-the-seam : OverTheSeam
  pub nearly-full : NearlyFull
  -- an empty list: the full rectangle, once
  pub no-list : Gives [] 1 (rect 0xBFF921FB54442D18 0x3FF921FB54442D18 0xC00921FB54442D18 0x400921FB54442D18 (four_nines (NINE ∷ [])))
  -- a list of one empty rectangle: no pieces
  pub one-empty : Gives (rect 0x3FF0000000000000 0 0x400921FB54442D18 0xC00921FB54442D18 []) 0 (four_nines (four_nines (NINE ∷ [])))
  -- room for one piece where two are due: 6; room for two: 0
  pub room-for-one : answer (zone 0xBFF0000000000000 0x3FF0000000000000 (zone 0x3FF0000000000000 0xBFF0000000000000 [])) 4 ≡ record { refusal = 6; count = 0; entry = 0 }
  pub room-for-two : answer (zone 0xBFF0000000000000 0x3FF0000000000000 (zone 0x3FF0000000000000 0xBFF0000000000000 [])) 8 ≡ record { refusal = 0; count = 2; entry = 0 }
  -- of a good rectangle, one with the latitudes [0, 2] and one with the longitudes [-PI, 0], the second is the first that is refused
  pub second-refused : answer (zone 0 0 (rect 0 0x4000000000000000 0 0 (zone 0xC00921FB54442D18 0 []))) 9 ≡ record { refusal = 21; count = 0; entry = 1 }

pub common-regions : CommonRegions
unfolding
    answer left refusal_of entry_of whole_length first_number first_entry first_refusal first_fault pieces_of rects_of numbers_of as_read_all
    region band_from lngs across common steps step whole clip end_at cut insert sooner before some_holds
    read_one fault_of rect_in_reach as_read latitude line.is_empty line.intersection circle.is_valid circle.is_empty circle.is_full
    in_reach plain min max of_bits Ieee.lt Ieee.le Ieee.eq
common-regions =
    record {
      both_ends = record { answers = refl; leaves = refl };
      over-the-seam = record { answers = refl; leaves = refl };
      nearly-full = record { answers = refl; leaves = refl };
      no-list = record { answers = refl; leaves = refl };
      one-empty = record { answers = refl; leaves = refl };
      room-for-one = refl;
      room-for-two = refl;
      second-refused = refl;
    }
