-- Document 01's refusal numbers, and those that document 02 adds: why something is refused, and the number of each. Definitions only.
use Rattle.std.specs.Prelude.{◌≡◌, Bool, ◌||◌, cond, ◌↔◌, ℕ, eqb, Result, Ok, Err}
use Rattle.consts.specs.declared.refusal.Refusal.{Refusal}
use Rattle.consts.specs.declared.refusal.Refusal.TheVariants.{OutOfReach, BadLatitude, BadCircle, HalfEmpty, BadPoint, BadMargin, BadList, NoRoom}
use Rattle.consts.specs.declared.refusal.Refusal.TheVariants.{BadRecord, BadText, BadBox}

pub data Reason : Type 0 where
  -- the answer stands
  accepted : Reason
  -- a rectangle or an interval has a number out of reach
  out_of_reach : Reason
  -- its numbers are in reach, and it is not valid, by the first of three: its latitudes go over their range, lat.lo by its size or lat.hi by its value
  bad_latitude : Reason
  -- the circle interval is not valid
  bad_circle : Reason
  -- one of its parts is empty, and the other is not
  half_empty : Reason
  -- a point is no valid latlng, is of size over PI on the circle, or is out of reach on the line
  bad_point : Reason
  -- a margin, a size or an error is out of reach; a remainder's argument is NaN or of size over 4 PI
  bad_margin : Reason
  -- a list's length is no multiple of its record, or over its limit
  bad_list : Reason
  -- the output list has fewer than 4 numbers a piece
  no_room : Reason
  -- the stream has a wrong mark or a short record
  bad_record : Reason
  -- a text is no bbox array
  bad_text : Reason
  -- a box has a number out of range or its south above its north, or is none that reading gives
  bad_box : Reason

abbrev pub number : Reason → ℕ
number accepted = 0
number out_of_reach = 1
number bad_latitude = 21
number bad_circle = 22
number half_empty = 23
number bad_point = 3
number bad_margin = 4
number bad_list = 5
number no_room = 6
number bad_record = 7
number bad_text = 8
number bad_box = 9

-- what a refusal of the code is given for
abbrev pub reason : Refusal → Reason
reason OutOfReach = out_of_reach
reason BadLatitude = bad_latitude
reason BadCircle = bad_circle
reason HalfEmpty = half_empty
reason BadPoint = bad_point
reason BadMargin = bad_margin
reason BadList = bad_list
reason NoRoom = no_room
reason BadRecord = bad_record
reason BadText = bad_text
reason BadBox = bad_box

-- its number
abbrev pub code : Refusal → ℕ
code r = number (reason r)

-- the refusal number of a result, whatever it holds
abbrev pub refusal_of : {A : Type 0} → Result A Refusal → ℕ
refusal_of (Ok v) = number accepted
refusal_of (Err r) = code r

-- why a rectangle whose numbers are in reach is not valid, or 0: its latitudes are within their range, its circle interval is valid, its parts are both empty or
-- neither is; the first of these three that does not hold decides
unfoldable pub first_fault : Bool → Bool → Bool → ℕ
first_fault latitudes circle parts = cond latitudes (cond circle (cond parts (number accepted) (number half_empty)) (number bad_circle)) (number bad_latitude)

-- the numbers of a rectangle, which in a list are told with the entry that they stand at
unfoldable pub of_entry : ℕ → Bool
of_entry n = eqb n (number out_of_reach) || eqb n (number bad_latitude) || eqb n (number bad_circle) || eqb n (number half_empty)

-- of two refusals the one that is given: the second counts where the first is 0
unfoldable pub first_refusal : ℕ → ℕ → ℕ
first_refusal m n = cond (eqb m 0) n m

-- the answer where the refusal number is 0, and else the result that document 01 states beside the number
abbrev pub given : {A : Type 0} → ℕ → A → A → A
given n answer otherwise = cond (eqb n 0) answer otherwise

-- ---- "given exactly when", for the promises
-- Refused for one reason: the answer a has the number of `refused` exactly when P, and is then `refused`; else its number is 0.
pub record GivenExactly {A : Type 0} (number_of : A → ℕ) (a refused : A) (P : Type 0) : Type 0 where
  pub exactly : (number_of a ≡ number_of refused) ↔ P
  pub result : P → a ≡ refused
  pub accepts : (P → ⊥) → number_of a ≡ number accepted

-- For two reasons, P before Q: the second counts where the first does not hold.
pub record GivenInTurn {A : Type 0} (number_of : A → ℕ) (a first second : A) (P Q : Type 0) : Type 0 where
  pub exactly : (number_of a ≡ number_of first) ↔ P
  pub result : P → a ≡ first
  pub exactly-second : (number_of a ≡ number_of second) ↔ ((P → ⊥) × Q)
  pub result-second : (P → ⊥) → Q → a ≡ second
  pub accepts : (P → ⊥) → (Q → ⊥) → number_of a ≡ number accepted
