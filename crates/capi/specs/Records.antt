-- The record that C alone has for a distance that may be without bound, as the port's answer gives it. Definitions only.
use Rattle.std.specs.Prelude.{Bool, true, false}
use Rattle.r1.specs.Answers.{Hausdorff}
use Rattle.r1.specs.declared.interval.Distance.{Distance}
use Rattle.r1.specs.declared.interval.Distance.TheVariants.{Of, Unbounded}
use Rattle.r1.specs.Line.{distance_of}
use Rattle.capi.specs.declared.line.CDistance.{CDistance}

unfoldable pub is_unbounded : Distance → Bool
is_unbounded (Of d) = false
is_unbounded Unbounded = true

-- the case, and the crate's value for it, infinity for Unbounded
abbrev pub distance_back : Hausdorff → CDistance
distance_back a = record { refusal = a.refusal; unbounded = is_unbounded a.value; value = distance_of a.value }
