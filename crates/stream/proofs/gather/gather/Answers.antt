-- `stream::gather::gather`: the list holds the numbers of the records read so far, and the rest of the stream is still to be read (`Held`). Assumes nothing.
use mathlib.Core.Path.{◌≡◌, refl, sym, ap, ◌∙◌}
use Prim.Native.Nat.{ℕ}
use native.Mathlib.Omega.{arith}
use lib.ListN.{length}
use Rattle.stream.specs.Inside.{Gathered, gathered, gathered_of, ended_with}
use Rattle.lists.proofs.RectLists.{length-put}
use Rattle.stream.proofs.Streams.{starts, good, bad, stops, full, ended-few}
use Rattle.stream.proofs.gather.gather.Goals as goal

pub loop-entry-init : goal.loop-entry-init
loop-entry-init c = (starts _ c.args.list.now, omega arith)

pub returns-then-s-at : goal.returns-then-s-at
returns-then-s-at c = record { is = stops _ c.loop-entry.list c.loop-entry.entry c.loop-entry.invariant.0 c.if-s-at.true; few = omega arith }

pub returns-in-Err : goal.returns-in-Err
returns-in-Err c =
    record { is = bad _ c.loop-entry.list c.loop-entry.entry c.loop-entry.invariant.0 c.read_record.result c.in-Err.refusal (omega arith) (omega arith) c.read_record.ensures c.in-Err.is; few = omega arith }

pub loop-entry-preserved : goal.loop-entry-preserved
loop-entry-preserved c = (
  good _ c.loop-entry.list c.loop-entry.entry c.loop-entry.invariant.0 _ c.read_record.result _ (omega arith) (omega arith) c.loop-entry.invariant.1 c.read_record.ensures c.in-Ok.is c.put_rect.ensures,
  ap length c.put_rect.ensures ∙ length-put _ _ c.loop-entry.list ∙ c.loop-entry.invariant.1,
)

pub returns : goal.returns
returns c =
    let k = c.loop-entry.entry in
    let all : k ≡ 512 = omega arith in
    let is = full _ c.loop-entry.list k c.loop-entry.invariant.0 all in
    let ended : gathered_of c.ended.result ≡ ended_with k c.args.s.now = c.ended.ensures ∙ ap (λ (n : ℕ). ended_with n c.args.s.now) (sym all) in
    record { is = is ∙ ap (λ (g : Gathered). gathered g c.loop-entry.list) (sym ended); few = ended-few _ _ _ c.ended.ensures (omega arith) }
