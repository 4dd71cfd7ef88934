-- `box_lines::wholes::put_radians`: each turn adds the radians of one more. Assumes nothing.
use Rattle.std.proofs.Common.{rules, ◌≡◌, ℕ, length, ◌++◌, ◌∷◌, [], get_or, arith, length-take-le, to_z, of_z}
use mathlib.Core.Path.{sym, ap, ◌∙◌}
use mathlib.Core.List.{List}
use lib.ListN.{take}
use lib.IntN.{ℤ, pos}
use lib.Ieee.{Float}
use mir.Syntax.{w64}
use Rattle.std.proofs.lemmas.List.{take_more}
use Rattle.degrees.specs.Degrees.{radians}
use Rattle.box_lines.specs.Answers.{in_radians}
use Rattle.box_lines.proofs.Radians.{length_radians, radians_more}
use Rattle.box_lines.proofs.wholes.put_radians.Goals as goal

pub loop-w-init : goal.loop-w-init
unfolding in_radians
loop-w-init c = c.requires.empty

pub push-requires : goal.push-requires
push-requires c =
    let l : List ℤ = c.args.list.now in
    let i : ℕ = c.loop-w.w-index in
    let n : length c.loop-w.x.items ≡ i = ap length c.loop-w.invariant ∙ length_radians (take i l) ∙ length-take-le i l c.loop-w.auto.w-index-end in
    (omega arith, omega (arith, n, c.loop-w-test.true, c.requires.few))

pub loop-w-preserved : goal.loop-w-preserved
loop-w-preserved c =
    let l : List ℤ = c.args.list.now in
    let w : ℤ = get_or l c.loop-w.w-index (pos 0) in
    let i : to_z w64 (of_z w64 w) ≡ w = search rules in
    c.push.ensures.items
    ∙ ap (λ (t : List Float). t ++ (c.radians_of.result ∷ [])) c.loop-w.invariant
    ∙ ap (λ (x : Float). in_radians (take c.loop-w.w-index l) ++ (x ∷ [])) (c.radians_of.ensures ∙ ap radians i)
    ∙ sym (radians_more (take c.loop-w.w-index l) w) ∙ ap in_radians (sym (take_more l c.loop-w.w-index (pos 0) c.loop-w-test.true))
