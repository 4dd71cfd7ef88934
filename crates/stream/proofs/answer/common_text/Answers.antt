-- `stream::answer::common_text`: what was gathered is the stream's meaning, and each arm writes its text. Assumes nothing.
use mathlib.Core.Path.{refl, sym, ap, ◌∙◌}
use mathlib.Core.List.{List}
use Prim.Native.Nat.{ℕ, ◌*◌}
use native.Mathlib.Omega.{arith}
use lib.ListN.{length}
use lib.Seq.{length-take-le}
use Rattle.consts.proofs.Codes.{refuses}
use Rattle.text.specs.Answers.{wrote, left}
use Rattle.stream.proofs.Answers.{taken, numbers-are, fault-is, text-listed, text-refused}
use Rattle.stream.proofs.answer.common_text.Goals as goal

pub listed-requires : goal.listed-requires
listed-requires c = taken _ _ (numbers-are _ _ c.gather.new.list c.in-Ok.ensures refl)

pub returns-in-Ok-clause-value : goal.returns-in-Ok-clause-value
returns-in-Ok-clause-value c =
    let e = text-listed _ _ (numbers-are _ _ c.gather.new.list c.in-Ok.ensures refl) in
    c.listed.ensures.value ∙ ap (λ (t : List ℕ). wrote t (length c.args.out.now)) e

pub returns-in-Ok-clause-out_after : goal.returns-in-Ok-clause-out_after
returns-in-Ok-clause-out_after c =
    let e = text-listed _ _ (numbers-are _ _ c.gather.new.list c.in-Ok.ensures refl) in
    c.listed.ensures.out_after ∙ ap (λ (t : List ℕ). left t c.args.out.now) e

pub returns-in-Err-clause-value : goal.returns-in-Err-clause-value
returns-in-Err-clause-value c =
    let e = text-refused _ _ _ (fault-is _ _ c.gather.new.list c.in-Err.ensures (refuses c.in-Err.fault.refusal)) in
    c.write_fault.ensures.value ∙ ap (λ (t : List ℕ). wrote t (length c.args.out.now)) e

pub returns-in-Err-clause-out_after : goal.returns-in-Err-clause-out_after
returns-in-Err-clause-out_after c =
    let e = text-refused _ _ _ (fault-is _ _ c.gather.new.list c.in-Err.ensures (refuses c.in-Err.fault.refusal)) in
    c.write_fault.ensures.out_after ∙ ap (λ (t : List ℕ). left t c.args.out.now) e
