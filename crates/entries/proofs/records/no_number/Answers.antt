-- `entries::records::no_number`: std's constant is the NaN, by computing. Assumes nothing.
use mathlib.Core.Path.{refl}
use lib.Ieee.{of_bits}
use Rattle.entries.proofs.records.no_number.Goals as goal

pub returns : goal.returns
unfolding of_bits
returns c = refl
