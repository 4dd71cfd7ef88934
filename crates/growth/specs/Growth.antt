-- Growth by a list of points and the running box by value: what each answers, with the refusals in document 01's order. The box is that of RunningBox.antt.
-- Definitions only; what they mean is in proofs/Promises.antt.
use Rattle.std.specs.Prelude.{cond, List, ℕ, length, Float, Result, Ok, Err}
use Rattle.consts.specs.declared.refusal.Refusal.{Refusal}
use Rattle.consts.specs.Refusal.{number, accepted, bad_list, given}
use Rattle.s2.specs.declared.latlng.LatLng.{LatLng}
use Rattle.s2.specs.declared.rect.Rect.{Rect}
use Rattle.s2.specs.declared.rect.Answer.{Answer}
use Rattle.s2.specs.Reading.{as_read, read_one}
use Rattle.s2.specs.Answers.{rect_answer, rectangle, grown_of}
use Rattle.entries.specs.Lists.{whole}
use Rattle.lists.specs.Points.{points_of}
use Rattle.lists.specs.Refused.{first_bad}
use Rattle.growth.specs.declared.track.Run.{Run}
use Rattle.growth.specs.declared.track.RunningAnswer.{RunningAnswer}
use Rattle.growth.specs.RunningBox.{running, accepted_of}

-- a refusal number, and the rectangle beside it
abbrev pub under : ℕ → Rect → Answer
under n r = record { refusal = n; value = r }

-- before the points: a list that is not of whole points, or has more than 4,096, hands the start back as it came; then the start is read, and its own refusal
-- answers the standard empty
unfoldable pub start_of : Rect → List Float → Answer
start_of r l = cond (whole 2 4096 l) (rectangle (read_one r).refusal (as_read r)) (under (number bad_list) r)

-- ---- growth by a list
-- the points of a start that was accepted: the running box after them, as it is read; one bad point refuses them all, and hands the start back as it came
unfoldable pub grown_by : Rect → List LatLng → Answer
grown_by r ps = given (first_bad ps) (rect_answer (as_read (running r ps))) (under (first_bad ps) r)

unfoldable pub grow : Rect → List Float → Answer
grow r l = given (start_of r l).refusal (grown_by r (points_of l)) (start_of r l)

-- ---- the running box by value: each point of the list is a call
-- how many were accepted, and the box after them
unfoldable pub ran_by : Rect → List LatLng → RunningAnswer
ran_by r ps = record { refusal = number accepted; accepted = length (accepted_of r ps); value = running r ps }

-- no call at all was made
abbrev pub no_calls : Answer → RunningAnswer
no_calls a = record { refusal = a.refusal; accepted = 0; value = a.value }

-- the answer that a run's result stands for
abbrev pub ran_of : Rect → Result Run Refusal → RunningAnswer
ran_of r (Ok run) = record { refusal = number accepted; accepted = run.accepted; value = run.value }
ran_of r (Err w) = no_calls (grown_of r (Err w))

unfoldable pub ran : Rect → List Float → RunningAnswer
ran r l = given (start_of r l).refusal (ran_by r (points_of l)) (no_calls (start_of r l))
