-- `region::reading::read_arcs`: what was read so far is accepted; the arcs so far with those of the rest are all, of either kind, and so is the band met with
-- the rest's. Assumes nothing.
use mathlib.Core.Path.{◌≡◌, refl, sym, ap, ◌∙◌}
use mathlib.Core.List.{◌++◌}
use Prim.Native.Nat.{ℕ, ◌+◌, ◌*◌, ◌<◌}
use native.Mathlib.Omega.{arith}
use lib.ListN.{length, drop, take}
use Rattle.consts.specs.Refusal.{code}
use Rattle.consts.proofs.Codes.{refuses}
use Rattle.r1.specs.Line as line
use Rattle.s2.specs.declared.rect.Rect.{Rect}
use Rattle.s2.specs.Reading.{read_one}
use Rattle.lists.specs.Rects.{rects_of, rect_at, as_read_all}
use Rattle.lists.specs.Refused.{first_refused}
use Rattle.arcs.specs.Kinds.{risen, crossing}
use Rattle.region.specs.Region.{band_from}
use Rattle.region.proofs.Turns.{band-turn, refused-here, accepted-here, band-end, accepted-end, arcs_from, risen-turn, risen-past, risen-end, taken-turn, taken-past, taken-end}
use Rattle.region.proofs.reading.read_arcs.Goals as goal
use Rattle.region.proofs.reading.read_arcs.Goals.{then-a, else-a}

pub loop-i-init : goal.loop-i-init
loop-i-init c = (refl, refl, refl, refl, omega arith)

pub returns-in_err-x-clause-refusal : goal.returns-in_err-x-clause-refusal
returns-in_err-x-clause-refusal c =
    let l = c.args.list.now in
    let i = 4 * c.loop-i.i in
    let h : i + 3 < length l = omega arith in
    let w = c.in_err-x.field-0.0 in
    let told : first_refused (rects_of l) ≡ code w = c.loop-i.invariant.3 ∙ refused-here l i (i + 4) h refl (code w) c.in_err-x.ensures.refusal (refuses w) in
    grind (arith, told)

pub loop-i-preserved : goal.loop-i-preserved
loop-i-preserved c =
    let l = c.args.list.now in
    let s = c.loop-i in
    let i = 4 * s.i in
    let j = 4 * (s.i + 1) in
    let h : i + 3 < length l = omega arith in
    let p : j ≡ i + 4 = omega arith in
    let x = c.in_ok-x.x in
    let a = x.lng in
    let e : a ≡ (read_one (rect_at l i)).value.lng = ap (λ (x : Rect). x.lng) c.in_ok-x.ensures.value in
    let met = c.intersection-lat.ensures ∙ ap (λ (x : Rect). line.intersection s.lat x.lat) c.in_ok-x.ensures.value in
    let band = band-turn l i j h p s.lat c.intersection-lat.result met ∙ s.invariant.2 in
    let so_far = s.invariant.3 ∙ accepted-here l i j h p 0 c.in_ok-x.ensures.refusal refl in
    elim c.if-a.branch [
      | then-a w ↦
          rw (w.arcs-is, w.lng-is, w.count-is) (
            risen-turn l i j h p a e w.if-a.true s.lng w.narrowed-lng.result w.narrowed-lng.ensures ∙ s.invariant.0,
            taken-past l i j h p a e w.if-a.true (take s.count s.arcs) ∙ s.invariant.1,
            band,
            so_far,
            omega arith,
          )
      | else-a w ↦
          rw (w.arcs-is, w.lng-is, w.count-is) (
            risen-past l i j h p a e w.if-a.false s.lng ∙ s.invariant.0,
            taken-turn l i j h p a e w.if-a.false s.arcs s.count (omega arith) ∙ s.invariant.1,
            band,
            so_far,
            omega arith,
          )
    ]

pub returns-clause-refusal : goal.returns-clause-refusal
returns-clause-refusal c =
    let l = c.args.list.now in
    let e : 4 * c.loop-i.i ≡ length l = omega arith in
    sym (c.loop-i.invariant.3 ∙ ap (λ (j : ℕ). first_refused (rects_of (drop j l))) e ∙ accepted-end l)

pub returns-clause-found : goal.returns-clause-found
returns-clause-found c =
    let l = c.args.list.now in
    let s = c.loop-i in
    let e : 4 * s.i ≡ length l = omega arith in
    let so_far = take s.count s.arcs in
    record {
      lat-is = band-end l s.lat ∙ ap (λ (j : ℕ). band_from s.lat (as_read_all (rects_of (drop j l)))) (sym e) ∙ s.invariant.2;
      lng-is = risen-end l s.lng ∙ ap (λ (j : ℕ). risen s.lng (arcs_from l j)) (sym e) ∙ s.invariant.0;
      is = taken-end l so_far ∙ ap (λ (j : ℕ). so_far ++ crossing (arcs_from l j)) (sym e) ∙ s.invariant.1;
      few = omega arith;
    }
