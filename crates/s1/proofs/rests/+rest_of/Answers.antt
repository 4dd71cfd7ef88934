-- `s1::rests::rest_of`: what is less than t is left; else twice t is taken off first, and then t goes once or not at all. Assumes nothing.
use native.Mathlib.Omega.{arith}
use Rattle.s1.proofs.RestLaws.{left-small, divides-twice, left-divides, left-less, left-both, large-less, shrinks}
use Rattle.s1.proofs.rests.+rest_of.Goals as goal

pub returns-then-x-t : goal.returns-then-x-t
returns-then-x-t t c = left-small c.requires c.if-x-t.true

pub rest_of-r-requires : goal.rest_of-r-requires
rest_of-r-requires t c = (omega (arith, shrinks c.requires c.if-t.true c.if-x-t.false), divides-twice c.requires c.if-t.true)

pub taken-requires : goal.taken-requires
taken-requires t c = record { divides = left-divides c.requires c.if-t.true c.rest_of-r.ensures; less = left-less c.requires c.if-t.true c.rest_of-r.ensures }

pub returns-then-t : goal.returns-then-t
returns-then-t t c = left-both c.requires c.if-t.true c.rest_of-r.ensures c.taken.ensures

pub taken-requires-2 : goal.taken-requires-2
taken-requires-2 t c = record { divides = c.requires; less = large-less c.requires c.if-t.false }
