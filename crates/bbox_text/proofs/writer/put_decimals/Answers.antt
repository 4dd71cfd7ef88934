-- `bbox_text::writer::put_decimals`: while anything is left, one more decimal (`next_decimal`). Assumes nothing.
use mathlib.Core.Path.{◌≡◌, ap, ◌∙◌}
use mathlib.Core.List.{append_assoc}
use Prim.Native.Nat.{ℕ, ◌-◌, ◌%◌, ◌^◌, ◌<◌, suc}
use native.Mathlib.Nat.{mod-lt}
use native.Mathlib.Omega.{arith}
use lib.ListN.{length, length-append}
use Rattle.bbox_text.specs.Text.{decimals}
use Rattle.bbox_text.proofs.Grown.{next_decimal, nothing_left, no_place_left, unit_above}
use Rattle.bbox_text.proofs.writer.put_decimals.Goals as goal

pub returns-then-rest-eq0 : goal.returns-then-rest-eq0
returns-then-rest-eq0 c = nothing_left c.loop-k.k c.loop-k.rest _ _ c.if-rest-eq0.true c.loop-k.invariant.whole

pub push-requires : goal.push-requires
push-requires c =
    let k : ℕ = c.loop-k.k in
    let r : ℕ = c.loop-k.rest in
    let e : length (decimals k r) ≡ suc (length (decimals (k - 1) (r % 10 ^ (k - 1)))) = ap length (next_decimal k r (omega arith) c.if-rest-eq0.false) in
    let n = simp length-append at (ap length c.loop-k.invariant.whole) in
    let h : length c.loop-k.t.items < 64 = omega (arith, c.requires.1) in
    (omega arith, h)

pub loop-k-preserved : goal.loop-k-preserved
loop-k-preserved c =
    let k : ℕ = c.loop-k.k in
    let r : ℕ = c.loop-k.rest in
    let e = next_decimal k r (omega arith) c.if-rest-eq0.false in
    record {
      whole = c.loop-k.invariant.whole ∙ simp (e, c.push.ensures.items, c.glyph.ensures, c.pow-unit.ensures, append_assoc);
      under = rw c.pow-unit.ensures (mod-lt r (unit_above (k - 1)));
    }

pub returns : goal.returns
returns c = no_place_left c.loop-k.k c.loop-k.rest _ _ (omega arith) c.loop-k.invariant.whole
