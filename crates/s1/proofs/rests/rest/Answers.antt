-- `s1::rests::rest`: what is small is left, an infinity and a NaN leave NaN, and of all else the size is divided. Assumes nothing.
use Rattle.s1.proofs.RestLaws.{rest-small, rest-none, is-finite, divides-it, divides-minus, rest-left, rest-minus}
use Rattle.s1.proofs.rests.rest.Goals as goal

pub returns-then-x : goal.returns-then-x
returns-then-x c = rest-small c.args.x c.well_formed.0.1 c.if-x.true

pub returns-then-none : goal.returns-then-none
returns-then-none c = rest-none c.args.x c.well_formed.0.1 c.if-none.true

pub rest_of-requires : goal.rest_of-requires
rest_of-requires c = divides-minus c.args.x c.well_formed.0.1 (is-finite c.args.x c.if-none.false) c.if-x-2.true

pub returns-then-x-2 : goal.returns-then-x-2
returns-then-x-2 c = rest-minus c.args.x (divides-minus c.args.x c.well_formed.0.1 (is-finite c.args.x c.if-none.false) c.if-x-2.true) c.rest_of.ensures

pub rest_of-requires-2 : goal.rest_of-requires-2
rest_of-requires-2 c = divides-it c.args.x c.well_formed.0.1 (is-finite c.args.x c.if-none.false) c.if-x.false c.if-x-2.false

pub returns : goal.returns
returns c = rest-left (divides-it c.args.x c.well_formed.0.1 (is-finite c.args.x c.if-none.false) c.if-x.false c.if-x-2.false) c.rest_of-2.ensures
