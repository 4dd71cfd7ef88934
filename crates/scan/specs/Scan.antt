-- What the scan worker answers and what it leaves in the lent box: growth's number and, where that is 0, growth's rectangle; a refusal leaves the box as
-- it is, every bit of it. So a call with a point is a call of the running box (the crate growth, specs/RunningBox.antt). Definitions only.
use Rattle.std.specs.Prelude.{List, Float}
use Rattle.s2.specs.declared.latlng.LatLng.{LatLng}
use Rattle.s2.specs.declared.rect.Rect.{Rect}
use Rattle.s2.specs.declared.rect.Answer.{Answer}
use Rattle.s2.specs.Answers.{add}
use Rattle.growth.specs.RunningBox.{kept, after}
use Rattle.growth.specs.Growth.{under, grow}

-- the worker's number and the box after a point
unfoldable pub enlarge : Rect → LatLng → Answer
enlarge b p = under (add b p).refusal (after b p)

-- and after a list
unfoldable pub enlarge_all : Rect → List Float → Answer
enlarge_all b l = under (grow b l).refusal (kept b (grow b l))
