-- `s1::rests::rest_of`: twice t is above t, and t is not above x: the gap shrinks. Assumes nothing.
use Prim.Native.Nat.{suc, ◌-◌}
use Rattle.s1.specs.Rests.{count}
use Rattle.s1.proofs.rests.+rest_of.Given as goal

abbrev pub decreases-rest_of : goal.decreases-rest_of
decreases-rest_of l = suc (count l.x) - count l.t
