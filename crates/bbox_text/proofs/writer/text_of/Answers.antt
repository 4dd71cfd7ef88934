-- `bbox_text::writer::text_of`: the bracket and four elements, one behind the other. Assumes nothing.
use mathlib.Core.List.{append_assoc}
use mir.Syntax.{w64}
use mir.Val.{SFits}
use mir.ValLaws.{to_z-of_z}
use Rattle.std.proofs.Common.{rules}
use Rattle.bbox_text.specs.Text.{text_of}
use Rattle.bbox_text.proofs.writer.text_of.Goals as goal

pub returns : goal.returns
unfolding text_of
returns c =
    let b = c.args.b in
    let w : SFits w64 b.west = search rules in
    let s : SFits w64 b.south = search rules in
    let e : SFits w64 b.east = search rules in
    let n : SFits w64 b.north = search rules in
    simp (
      c.put_element-4.ensures.text,
      c.put_element-3.ensures.text,
      c.put_element-2.ensures.text,
      c.put_element.ensures.text,
      c.push.ensures.items,
      c.new-t.ensures,
      to_z-of_z w64 b.west w,
      to_z-of_z w64 b.south s,
      to_z-of_z w64 b.east e,
      to_z-of_z w64 b.north n,
      append_assoc,
    )
