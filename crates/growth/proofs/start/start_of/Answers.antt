-- `growth::start::start_of`: each return is a case of `start_of`, by the test that led to it (proofs/Turns.antt); what is accepted is valid, since all
-- numbers that are handed in are doubles. Assumes nothing.
use mathlib.Core.Path.{sym, ◌∙◌}
use Rattle.s2.specs.Places.{Doubles, DoublePoint}
use Rattle.entries.specs.Lists.{All}
use Rattle.lists.specs.Points.{points_of}
use Rattle.lists.proofs.Doubles.{all-double-points}
use Rattle.growth.proofs.Turns.{bad-length, start-is}
use Rattle.growth.proofs.Made.{started}
use Rattle.growth.proofs.start.start_of.Goals as goal

pub returns-then-not-whole : goal.returns-then-not-whole
returns-then-not-whole c =
    let a = c.args in
    let doubles : Doubles a.r = record { lat-lo = search; lat-hi = search; lng-lo = search; lng-hi = search } in
    let double-points : All DoublePoint (points_of a.points.now) = all-double-points a.points.now search in
    started doubles double-points (sym (bad-length a.r a.points.now (sym c.whole.ensures ∙ c.if-not-whole.true)))

pub returns : goal.returns
returns c =
    let a = c.args in
    let doubles : Doubles a.r = record { lat-lo = search; lat-hi = search; lng-lo = search; lng-hi = search } in
    let double-points : All DoublePoint (points_of a.points.now) = all-double-points a.points.now search in
    started doubles double-points (sym (start-is a.r a.points.now (sym c.whole.ensures ∙ c.if-not-whole.false) c.read_one.result c.read_one.ensures.refusal c.read_one.ensures.value))
