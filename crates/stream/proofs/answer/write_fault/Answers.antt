-- `stream::answer::write_fault`: each way writes what the definition says of a number that has an entry, or has none. Assumes nothing.
use mathlib.Core.Path.{◌≡◌, sym, ap, ◌∙◌}
use mathlib.Core.Bool.{true, false}
use mathlib.Core.List.{List}
use Prim.Native.Nat.{ℕ}
use lib.ListN.{length}
use Rattle.consts.specs.Refusal.{code, of_entry}
use Rattle.text.specs.Answers as text
use Rattle.stream.proofs.Answers.{wrote-at, left_at, wrote-alone, left_alone}
use Rattle.stream.proofs.answer.write_fault.Goals as goal

pub returns-then-of_entry-clause-value : goal.returns-then-of_entry-clause-value
returns-then-of_entry-clause-value c =
    let a = c.args in
    let h : of_entry (code a.fault.refusal) ≡ true = ap of_entry (sym c.into-number.ensures) ∙ sym c.of_entry.ensures ∙ c.if-of_entry.true in
    c.write_refusal_at.ensures.value ∙ ap (λ (n : ℕ). text.wrote_refusal_at n a.fault.entry (length a.out.now)) c.into-number.ensures
    ∙ wrote-at (code a.fault.refusal) a.fault.entry c.requires h (length a.out.now)

pub returns-then-of_entry-clause-out_after : goal.returns-then-of_entry-clause-out_after
returns-then-of_entry-clause-out_after c =
    let a = c.args in
    let h : of_entry (code a.fault.refusal) ≡ true = ap of_entry (sym c.into-number.ensures) ∙ sym c.of_entry.ensures ∙ c.if-of_entry.true in
    c.write_refusal_at.ensures.out_after ∙ ap (λ (n : ℕ). text.left_refusal_at n a.fault.entry a.out.now) c.into-number.ensures
    ∙ left_at (code a.fault.refusal) a.fault.entry c.requires h a.out.now

pub returns-clause-value : goal.returns-clause-value
returns-clause-value c =
    let a = c.args in
    let h : of_entry (code a.fault.refusal) ≡ false = ap of_entry (sym c.into-number.ensures) ∙ sym c.of_entry.ensures ∙ c.if-of_entry.false in
    c.write_refusal.ensures.value ∙ ap (λ (n : ℕ). text.wrote_refusal n (length a.out.now)) c.into-number.ensures
    ∙ wrote-alone (code a.fault.refusal) a.fault.entry h (length a.out.now)

pub returns-clause-out_after : goal.returns-clause-out_after
returns-clause-out_after c =
    let a = c.args in
    let h : of_entry (code a.fault.refusal) ≡ false = ap of_entry (sym c.into-number.ensures) ∙ sym c.of_entry.ensures ∙ c.if-of_entry.false in
    c.write_refusal.ensures.out_after ∙ ap (λ (n : ℕ). text.left_refusal n a.out.now) c.into-number.ensures
    ∙ left_alone (code a.fault.refusal) a.fault.entry h a.out.now
