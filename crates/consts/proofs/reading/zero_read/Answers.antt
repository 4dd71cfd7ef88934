-- `consts::reading::zero_read`: a double and +0 add up to the double, negative zero as zero. Assumes nothing.
use Rattle.consts.proofs.Sums.{plus-zero}
use Rattle.consts.proofs.reading.zero_read.Goals as goal

pub returns : goal.returns
returns c = plus-zero _ search
