-- `capi::line::CDistance::from`: one over zero is infinity. Assumes nothing.
use lib.Ieee.{of_bits, div}
use Rattle.r1.specs.Line.{distance_of}
use Rattle.capi.specs.Records.{is_unbounded}
use Rattle.capi.proofs.line.CDistanceFromResultDistanceRefusal.from.Goals as goal

pub returns-in-Unbounded : goal.returns-in-Unbounded
unfolding distance_of is_unbounded div of_bits
returns-in-Unbounded c = simp (c.in-Ok.is, c.in-Unbounded.is)
