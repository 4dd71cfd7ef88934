-- `region::region::region_in`: an entry is refused, or what was found is listed. Assumes nothing.
use mathlib.Core.Path.{refl, sym, ◌∙◌, subst}
use mathlib.Core.List.{List}
use native.Mathlib.Omega.{arith}
use lib.ListN.{length}
use Rattle.consts.specs.Refusal.{code}
use Rattle.consts.proofs.Codes.{refuses}
use Rattle.s2.specs.declared.rect.Rect.{Rect}
use Rattle.region.specs.Answers.{entry_of, Promised}
use Rattle.region.specs.Inside.{listed_of, IsWritten}
use Rattle.region.proofs.Cases.{none, good, bad-entry, refused, listed}
use Rattle.region.proofs.region.region_in.Goals as goal

pub returns-in_err-f : goal.returns-in_err-f
returns-in_err-f c =
    let l = c.args.list.now in
    let o = c.args.out.now in
    let n = code c.in_err-f.field-0.0 in
    let w = good l c.requires.whole c.requires.most in
    let due : Promised l o (none n (entry_of l)) o = refused l o n (entry_of l) (bad-entry l (length o) w n c.in_err-f.ensures.refusal (refuses c.in_err-f.field-0.0)) (refuses c.in_err-f.field-0.0) refl in
    grind (arith, due)

pub returns : goal.returns
returns c =
    let l = c.args.list.now in
    let o = c.args.out.now in
    let f = c.in_ok-f.ensures in
    let w = good l c.requires.whole c.requires.most in
    listed l o c.type_inv.list w (sym f.refusal) (listed_of c.list_pieces.result) c.list_pieces.new.out
    (subst (λ (ps : List Rect). IsWritten ps o (listed_of c.list_pieces.result) c.list_pieces.new.out) f.found.is c.list_pieces.ensures)
