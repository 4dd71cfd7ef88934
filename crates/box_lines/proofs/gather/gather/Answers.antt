-- `box_lines::gather::gather`: what `split_inclusive` cuts off is a line, but for its newline (`part`), and each line is a turn of `Held`. Where all 512 are
-- taken and bytes are left, there is one line too many. Assumes nothing.
use Rattle.std.proofs.Common.{rules, ◌≡◌}
use mathlib.Core.Path.{refl, sym, ap, ◌∙◌}
use mathlib.Core.List.{List}
use Prim.Native.Nat.{ℕ, zero, suc, ◌+◌, ◌<◌}
use native.Mathlib.Omega.{arith}
use lib.ListN.{length, length-append}
use Rattle.std.specs.Slice.Iter.{split_inclusive_rest}
use Rattle.std.specs.Iterator.Adapters.{enumerate_source, take_source, take_count}
use Rattle.std.specs.List.{IsFirstMatchOrLen}
use Rattle.std.proofs.lemmas.List.Sorted.{answers_always}
use Rattle.consts.specs.Refusal.{code}
use Rattle.bbox.specs.Reading.{read_of}
use Rattle.box_lines.specs.Lines.{Fault}
use Rattle.box_lines.proofs.Cuts.{newline, cut-line}
use Rattle.box_lines.proofs.Held.{room, good, bad, over, ends}
use Rattle.box_lines.proofs.gather.gather.Goals as goal

-- where m is 0 unless n is 0, and m is not 0, n is
spent : (n m : ℕ) → (0 < n → m ≡ 0) → 0 < m → n ≡ 0
spent zero m h p = refl
spent (suc n) m h p = absurd (omega (arith, h (omega arith), p))

pub returns-then-left-gt0-clause-fault : goal.returns-then-left-gt0-clause-fault
returns-then-left-gt0-clause-fault c =
    let z = c.in-None.ensures.steps in
    let some : 0 < length (split_inclusive_rest (take_source (enumerate_source c.loop-k.k-iterator))) = omega (arith, c.loop-k.invariant.2, c.if-left-gt0.true) in
    let none : take_count (enumerate_source c.loop-k.k-iterator) ≡ 0 = spent _ _ (λ p. (z.0 p).0) some in
    let n : take_count (enumerate_source c.into_iter-k-iterator.result) ≡ take_count c.take.result = cc in
    over _ _ _ _ c.loop-k.invariant.0 some (omega (arith, c.loop-k.invariant.1, none, n, c.take.ensures.count))

pub add-requires : goal.add-requires
add-requires c =
    let z = c.in-Some.ensures.steps in
    let n : take_count (enumerate_source c.into_iter-k-iterator.result) ≡ take_count c.take.result = cc in
    room _ _ _ _ c.loop-k.invariant.0 (omega (arith, z.0.1, c.loop-k.invariant.1, n, c.take.ensures.count))

pub loop-k-preserved : goal.loop-k-preserved
loop-k-preserved c =
    let z = c.in-Some.ensures.steps in
    let w = z.0.0 in
    let u : List ℕ = split_inclusive_rest (take_source (enumerate_source c.loop-k.k-iterator)) in
    let t : List ℕ = split_inclusive_rest (take_source (enumerate_source c.next.new.self)) in
    let f : IsFirstMatchOrLen newline u w.1.0 = (w.1.2 newline (answers_always _ _ _ (λ f a r g h. search rules))).1 in
    let q = cut-line u _ t w.0 w.1.0 w.1.1 f w.2 c.strip_suffix.result c.in-Some.line refl c.strip_suffix.ensures.cases _ c.unwrap_or.ensures in
    let n : take_count (enumerate_source c.into_iter-k-iterator.result) ≡ take_count c.take.result = cc in
    let k : c.in-Some.k < 512 = omega (arith, z.1, z.0.1, c.loop-k.invariant.1, n, c.take.ensures.count) in (
      good _ _ _ _ c.loop-k.invariant.0 c.in-Ok.b _ _ _ w.2 (omega (arith, z.1, k)) (c.in-Ok.ensures ∙ ap read_of q.1) c.add.ensures q.0 z.2,
      omega (arith, z.2, z.0.1, c.loop-k.invariant.1),
      omega (arith, c.loop-k.invariant.2, ap length w.0, length-append c.in-Some.line.now t),
    )

pub returns-in-Err-clause-fault : goal.returns-in-Err-clause-fault
returns-in-Err-clause-fault c =
    let z = c.in-Some.ensures.steps in
    let w = z.0.0 in
    let u : List ℕ = split_inclusive_rest (take_source (enumerate_source c.loop-k.k-iterator)) in
    let t : List ℕ = split_inclusive_rest (take_source (enumerate_source c.next.new.self)) in
    let f : IsFirstMatchOrLen newline u w.1.0 = (w.1.2 newline (answers_always _ _ _ (λ f a r g h. search rules))).1 in
    let q = cut-line u _ t w.0 w.1.0 w.1.1 f w.2 c.strip_suffix.result c.in-Some.line refl c.strip_suffix.ensures.cases _ c.unwrap_or.ensures in
    let n : take_count (enumerate_source c.into_iter-k-iterator.result) ≡ take_count c.take.result = cc in
    let k : c.in-Some.k < 512 = omega (arith, z.1, z.0.1, c.loop-k.invariant.1, n, c.take.ensures.count) in
    let b = bad _ _ _ _ c.loop-k.invariant.0 c.in-Err.refusal w.2 (omega (arith, z.1, k)) (c.in-Err.ensures ∙ ap read_of q.1) in
    (b ∙ ap (λ (n : ℕ). Fault (code c.in-Err.refusal) (n + 1)) (sym z.1), omega (arith, k))

pub returns-clause-boxes : goal.returns-clause-boxes
returns-clause-boxes c =
    ends _ _ _ _ c.loop-k.invariant.0 (sym c.is_empty.ensures ∙ c.if-is_empty.false) (omega (arith, c.loop-k.invariant.2, c.if-left-gt0.false))
