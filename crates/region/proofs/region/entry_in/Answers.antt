-- `region::region::entry_in`: of a list that is refused the first bad entry is found, and one that is taken has none. Assumes nothing.
use mathlib.Core.Path.{sym, ap, ◌∙◌}
use Rattle.entries.specs.First.{told}
use Rattle.region.proofs.Cases.{good, entry-of}
use Rattle.region.proofs.region.entry_in.Goals as goal

pub returns-in-Some : goal.returns-in-Some
returns-in-Some c =
    let l = c.args.list.now in
    sym (entry-of l (good l c.requires.0 c.requires.1) (sym c.in-Some.ensures))

pub returns-in-None : goal.returns-in-None
returns-in-None c =
    let l = c.args.list.now in
    sym (entry-of l (good l c.requires.0 c.requires.1) (sym c.in-None.ensures))
