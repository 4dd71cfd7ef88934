-- `stream::gather::ended`: at each return the answer is the definition's, under the test that led there. Assumes nothing.
use native.Mathlib.Omega.{arith}
use Rattle.stream.proofs.Streams.{ended-none, ended_some}
use Rattle.stream.proofs.gather.ended.Goals as goal

pub returns-then-s-at : goal.returns-then-s-at
returns-then-s-at c = ended-none _ _ c.if-s-at.true

pub returns : goal.returns
returns c = ended_some _ _ _ (omega arith) c.over.ensures
