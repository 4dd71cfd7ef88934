-- `bits::from_pattern`: the test asks what `nan_bits` asks. Assumes nothing.
use borrow.Author.Tests.{lt-ltb, le-ltb}
use lib.Ieee.{of_bits}
use lib.Ieee.Bits.{nan_bits_above}
use Rattle.bits.specs.Pattern.{of_pattern}
use Rattle.bits.proofs.from_pattern.Goals as goal

pub returns-then-bits-gt-INFINITY : goal.returns-then-bits-gt-INFINITY
unfolding of_pattern of_bits
returns-then-bits-gt-INFINITY c = simp (nan_bits_above, lt-ltb _ _ c.if-bits-gt-INFINITY.true)

pub returns : goal.returns
unfolding of_pattern
returns c = simp (nan_bits_above, le-ltb _ _ c.if-bits-gt-INFINITY.false)
