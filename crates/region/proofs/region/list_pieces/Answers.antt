-- `region::region::list_pieces`: all pieces are written, or none where they do not fit. Assumes nothing.
use mathlib.Core.Path.{◌≡◌, refl, sym, ap, ◌∙◌}
use mathlib.Core.List.{List, ◌++◌}
use Prim.Native.Nat.{ℕ, ◌*◌}
use native.Mathlib.Omega.{arith}
use lib.ListN.{length, take, drop}
use lib.Seq.{length-take-le, take-length}
use Rattle.s1.specs.declared.interval.Interval.{Interval}
use Rattle.lists.specs.Rects.{numbers_of}
use Rattle.region.specs.Region.{across}
use Rattle.region.proofs.Written.{out-nothing}
use Rattle.region.proofs.Cases.{pieces, length-across}
use Rattle.region.proofs.region.list_pieces.Goals as goal

pub returns-then-k-n : goal.returns-then-k-n
returns-then-k-n c =
    let a = c.args in
    let t = c.fitting-k.ensures in
    let e = length-across a.b a.pieces.now in
    let none = t.none c.if-k-n.true in
    let w = c.write_out.ensures ∙ ap (λ (n : ℕ). numbers_of (across a.b (take c.fitting-k.result a.pieces.now)) ++ drop (4 * n) a.out.now) (length-take-le c.fitting-k.result a.pieces.now t.few) in
    record { fit = λ h. absurd (omega (arith, h, e, none.1)); none = λ h. (refl, out-nothing a.b a.pieces.now c.fitting-k.result a.out.now _ none.0 w) }

pub returns : goal.returns
returns c =
    let a = c.args in
    let d = a.pieces.now in
    let e = length-across a.b d in
    let t = c.fitting-k.ensures in
    let m : c.fitting-k.result ≡ length d = omega (arith, t.few, c.if-k-n.false) in
    let all : take c.fitting-k.result d ≡ d = ap (λ (k : ℕ). take k d) m ∙ take-length d in
    record {
      fit = λ h. (
        ap pieces (sym e),
        c.write_out.ensures ∙ ap (λ (p : List Interval). numbers_of (across a.b p) ++ drop (4 * length p) a.out.now) all
            ∙ ap (λ (i : ℕ). numbers_of (across a.b d) ++ drop (4 * i) a.out.now) (sym e),
      );
      none = λ h. absurd (omega (arith, h, e, t.fits, m));
    }
