-- `box_lines::answer::put_lines`: each piece is a turn of `Made`. Assumes nothing.
use mathlib.Core.Path.{◌∙◌}
use native.Mathlib.Omega.{arith}
use Rattle.box_lines.proofs.Lined.{one_more, all-made}
use Rattle.box_lines.proofs.answer.put_lines.Goals as goal

pub loop-piece-preserved : goal.loop-piece-preserved
loop-piece-preserved c =
    let z = c.in-Some.ensures.steps in
    let k = z.1.1 ∙ c.loop-piece.invariant.1 in (
      one_more _ _ _ _ c.loop-piece.invariant.0 c.in-Some.piece.now _ z.1.0 k c.box_of.result c.put_line.new.t.items c.box_of.ensures
          c.put_line.ensures.items c.put_line.ensures.few,
      z.0 ∙ c.loop-piece.invariant.1,
    )

pub returns : goal.returns
returns c =
    let z = c.in-None.ensures.steps in
    all-made _ _ _ _ c.loop-piece.invariant.0 (omega (arith, z.1.0, c.loop-piece.invariant.1))
