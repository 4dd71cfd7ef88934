-- `consts::consts::reduced`: each subtraction leaves the remainder under the comparisons that led to it (proofs/Turns.antt). Assumes nothing.
use mathlib.Core.Path.{◌∙◌}
use Rattle.consts.proofs.Remainders.{leaves-remainder}
use Rattle.consts.proofs.Turns.{Bounded, is-bounded, two-turns, one-turn, minus-two-turns, minus-one-turn, no-turn}
use Rattle.consts.proofs.consts.reduced.Goals as goal

pub returns-then-x-2 : goal.returns-then-x-2
returns-then-x-2 c =
    let known : Bounded c.args.x = is-bounded c.args.x c.well_formed.0.1 c.requires in
    leaves-remainder c.well_formed.0.1 (two-turns known c.if-x-2.true)

pub returns-then-x : goal.returns-then-x
returns-then-x c =
    let known : Bounded c.args.x = is-bounded c.args.x c.well_formed.0.1 c.requires in
    leaves-remainder c.well_formed.0.1 (one-turn known c.if-x.true c.if-x-2.false)

pub returns-then-x-4 : goal.returns-then-x-4
returns-then-x-4 c =
    let known : Bounded c.args.x = is-bounded c.args.x c.well_formed.0.1 c.requires in
    leaves-remainder c.well_formed.0.1 (minus-two-turns known c.if-x-4.true)

pub returns-then-x-3 : goal.returns-then-x-3
returns-then-x-3 c =
    let known : Bounded c.args.x = is-bounded c.args.x c.well_formed.0.1 c.requires in
    leaves-remainder c.well_formed.0.1 (minus-one-turn known c.if-x-3.true c.if-x-4.false)

pub returns : goal.returns
returns c =
    let known : Bounded c.args.x = is-bounded c.args.x c.well_formed.0.1 c.requires in
    c.zero_read.ensures ∙ leaves-remainder c.well_formed.0.1 (no-turn known c.if-x.false c.if-x-3.false)
