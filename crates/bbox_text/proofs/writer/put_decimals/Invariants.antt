-- `bbox_text::writer::put_decimals`: the decimals so far and those of what is left, of k places, are all of them. Assumes nothing.
use mathlib.Core.Path.{◌≡◌}
use mathlib.Core.List.{◌++◌}
use Prim.Native.Nat.{◌^◌, ◌<◌}
use Rattle.bbox_text.specs.Text.{decimals}
use Rattle.bbox_text.proofs.writer.put_decimals.Given as goal

abbrev pub invariant-loop-k : goal.invariant-loop-k
invariant-loop-k l = record { whole : l.initial.t.items ++ decimals 7 l.f ≡ l.t.items ++ decimals l.k l.rest; under : l.rest < 10 ^ l.k }
