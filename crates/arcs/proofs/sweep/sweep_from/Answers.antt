-- `arcs::sweep::sweep_from`: where the sweep stops at an arc's gap that the piece ends before, the piece is closed there (proofs/Lasts.antt). Assumes nothing.
use mathlib.Core.Path.{◌≡◌, subst}
use mathlib.Core.Bool.{Bool, true, ◌&&◌}
use mathlib.Core.List.{List}
use Prim.Native.Nat.{◌+◌}
use native.Mathlib.Omega.{arith}
use lib.ListN.{get_or}
use lib.Ieee.{nan, binary64, fits, lt, le}
use lib.Ieee.Bits.{is_true}
use Rattle.order.proofs.Ranks.{and_l, and_r}
use Rattle.s1.specs.declared.interval.Interval.{Interval}
use Rattle.s1.specs.Circle.{ends}
use Rattle.arcs.specs.Inside.{Spared, IsEnded}
use Rattle.arcs.proofs.Turns.{left_is}
use Rattle.arcs.proofs.Lasts.{closed-turn}
use Rattle.arcs.proofs.sweep.sweep_from.Goals as goal

pub returns-then-spares-s : goal.returns-then-spares-s
returns-then-spares-s c =
    let w = c.args in
    let s = c.sweep_last-s in
    let x = s.result.x in
    let a = get_or w.arcs.now s.result.k (ends nan nan) in
    let p = c.if-spares-s.true in
    let q = and_l (c.spares.result && le x.lo x.hi) (lt x.hi a.lo) p in
    let o = subst (λ (z : Bool). Spared a s.result.b z) (and_l c.spares.result (le x.lo x.hi) q) c.spares.ensures in
    let xl : fits binary64 x.lo ≡ true = search is_true in
    let xh : fits binary64 x.hi ≡ true = search is_true in
    closed-turn w.arcs.now s.new.pieces w.x s.result.k s.result.f s.result.b x (ends nan nan) c.if-s-arcs.true (omega (arith, c.requires.room.holds, s.auto.pieces)) s.ensures
    o xl xh (and_r c.spares.result (le x.lo x.hi) q) (and_r (c.spares.result && le x.lo x.hi) (lt x.hi a.lo) p) c.close_at.result c.close_at.new.pieces
    (subst (λ (r : List Interval). IsEnded r a x s.result.f s.new.pieces c.close_at.result c.close_at.new.pieces) (left_is w.arcs.now (s.result.k + 1)) c.close_at.ensures)
