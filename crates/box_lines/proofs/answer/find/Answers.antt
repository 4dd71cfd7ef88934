-- `box_lines::answer::find`: the radians, without the globe, are what `common_region` accepts (`found`). Assumes nothing.
use mathlib.Core.Path.{◌∙◌}
use native.Mathlib.Omega.{arith}
use Rattle.box_lines.proofs.Listing.{globe-first, found}
use Rattle.box_lines.proofs.answer.find.Goals as goal

pub slice_bounds-common_region-count : goal.slice_bounds-common_region-count
slice_bounds-common_region-count c = globe-first _ c.requires.list _ c.args.edges.now.same

pub slice_bounds-common_region-start : goal.slice_bounds-common_region-start
slice_bounds-common_region-start c = omega (arith, globe-first _ c.requires.list _ c.args.edges.now.same)

pub returns : goal.returns
returns c =
    found _ c.requires.list _ c.args.edges.now.same _ c.common_region.result _ _ c.requires.room
    (c.common_region.auto.out ∙ c.requires.room) c.unwrap_or.ensures c.common_region.ensures
