-- `box_lines::wholes::Edges::whole_of`: where the radians are found, the whole number stands (`looked`). Assumes nothing.
use Rattle.std.proofs.Common.{rules, ◌≡◌}
use mathlib.Core.Path.{sym, ap, ◌∙◌}
use mathlib.Core.List.{List}
use native.Mathlib.Omega.{arith}
use lib.ListN.{length, get_or}
use lib.IntN.{ℤ, pos}
use lib.Ieee.{Float, eq}
use mir.Syntax.{w64}
use mir.Val.{SFits}
use mir.ValLaws.{to_z-of_z}
use Rattle.std.specs.List.{position}
use Rattle.box_lines.specs.Answers.{whole_of}
use Rattle.box_lines.proofs.Radians.{length_radians, position-under, number_at, looked}
use Rattle.box_lines.proofs.wholes.Edges.whole_of.Goals as goal

pub bounds-self-i : goal.bounds-self-i
bounds-self-i c =
    let n = position-under (λ (x : Float). eq x c.args.v) c.args.self.now.radians.now c.in-Some.i (sym c.place_of.ensures ∙ c.in-Some.is) in
    omega (arith, n, ap length c.args.self.now.same, length_radians c.args.self.now.wholes.now)

pub returns-in-Some : goal.returns-in-Some
returns-in-Some c =
    let ws : List ℤ = c.args.self.now.wholes.now in
    let p = ap (position (λ (x : Float). eq x c.args.v)) c.args.self.now.same in
    let f : number_at ws c.place_of.result ≡ whole_of ws c.args.v = ap (number_at ws) (c.place_of.ensures ∙ p) ∙ looked ws c.args.v in
    let w : ℤ = get_or ws c.in-Some.i (pos 0) in
    let s : SFits w64 w = search rules in
    to_z-of_z w64 w s ∙ sym (ap (number_at ws) c.in-Some.is) ∙ f

pub returns-in-None : goal.returns-in-None
returns-in-None c =
    let ws : List ℤ = c.args.self.now.wholes.now in
    let p = ap (position (λ (x : Float). eq x c.args.v)) c.args.self.now.same in
    let f : number_at ws c.place_of.result ≡ whole_of ws c.args.v = ap (number_at ws) (c.place_of.ensures ∙ p) ∙ looked ws c.args.v in
    sym (ap (number_at ws) c.in-None.is) ∙ f
