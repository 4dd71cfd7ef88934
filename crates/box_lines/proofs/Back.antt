-- The way back: a double that is the radians of one of the whole numbers is turned back into it, since no two have one double (degrees). So the boxes that
-- go out, turned into radians, are the common region, number by number. Assumes nothing.
use mathlib.Core.Path.{◌≡◌, refl, sym, ◌∙◌, subst}
use mathlib.Core.Bool.{Bool, true, false, cond, false≢true}
use mathlib.Core.List.{List, [], ◌∷◌}
use mathlib.Core.Logic.{◌⊎◌, inl, inr}
use Prim.Native.Nat.{◌≤◌}
use lib.IntN.{ℤ, nat_abs}
use lib.Ieee.{Float, eq}
use Rattle.order.specs.Key.{Num}
use Rattle.order.proofs.Facts.{eq_refl}
use Rattle.consts.specs.Reading.{plain}
use Rattle.consts.proofs.Readings.{plain-same}
use Rattle.s2.specs.declared.rect.Rect.{Rect}
use Rattle.entries.specs.Lists.{All, Mem, first, later}
use Rattle.entries.proofs.Entries.{all-at, no-mem}
use Rattle.region.specs.Answers.{pieces_of}
use Rattle.bounds.specs.declared.bounds.Bounds.{Bounds}
use Rattle.bounds.specs.Bounds.{HALF, givable, in_limits, settled, whole_circle, within, is_westmost, is_eastmost}
use Rattle.degrees.specs.Degrees.{radians, rect_of}
use Rattle.degrees.proofs.Rises.{radians-num}
use Rattle.degrees.proofs.Boxes.{parts, longitude-size, latitude-size, no-minus-zero}
use Rattle.box_lines.specs.Answers.{Given, rects, GLOBE, wholes, in_radians, whole_of, box_of, boxes_of, common_boxes}
use Rattle.box_lines.proofs.Edges.{Edges, pieces-edges}

-- of size at most 180 degrees
abbrev pub Small : ℤ → Type 0
Small w = nat_abs w ≤ HALF

-- ---- the whole numbers of boxes, and their radians
pub small-wholes : (l : List Bounds) → All Given l → All Small (wholes l)
unfolding wholes
small-wholes [] g = tt
small-wholes (b ∷ l) g =
    let p = parts b g.0 in
    let s = latitude-size b.south p.south in
    let n = latitude-size b.north p.north in
    let w = longitude-size b.west p.west in
    let e = longitude-size b.east p.east in
    (s, (n, (w, (e, small-wholes l g.1))))

pub globe-given : Given GLOBE
unfolding givable in_limits settled whole_circle within is_westmost is_eastmost
globe-given = refl

record Sound (x : Float) : Type 0 where
  is-num : Num x ≡ true
  is_plain : plain x ≡ x

sound : (w : ℤ) → Small w → Sound (radians w)
sound w h = record { is-num = radians-num w h; is_plain = no-minus-zero w h }

sounds : (ws : List ℤ) → All Small ws → All Sound (in_radians ws)
unfolding in_radians
sounds [] s = tt
sounds (w ∷ ws) s = (sound w s.0, sounds ws s.1)

-- ---- one number back
-- z is one of the list, and x are its radians
pub record Found (ws : List ℤ) (x : Float) (z : ℤ) : Type 0 where
  pub is-in : Mem z ws
  pub is-back : radians z ≡ x

pub cases : {A : Type 0} {x y : A} {l : List A} → Mem x (y ∷ l) → (x ≡ y) ⊎ Mem x l
cases first = inl refl
cases (later m) = inr m

pub back : (ws : List ℤ) → All Small ws → (x : Float) → Mem x (in_radians ws) → Found ws x (whole_of ws x)
unfolding in_radians whole_of
back [] s x m = no-mem _ m
back (w ∷ ws) s x m = go (eq (radians w) x) refl (cases m) (back ws s.1 x)
  where
    mine : Sound (radians w)
    mine = sound w s.0

    its : Sound x
    its = all-at Sound (sounds (w ∷ ws) s) m

    go : (t : Bool) → eq (radians w) x ≡ t → (x ≡ radians w) ⊎ Mem x (in_radians ws) → (Mem x (in_radians ws) → Found ws x (whole_of ws x))
        → Found (w ∷ ws) x (cond t w (whole_of ws x))
    go true e c r = record { is-in = first; is-back = plain-same (radians w) x mine.is-num its.is-num mine.is_plain its.is_plain e }
    go false e (inl q) r = absurd (false≢true (sym e ∙ subst (λ (y : Float). eq (radians w) y ≡ true) (sym q) (eq_refl (radians w) mine.is-num)))
    go false e (inr n) r = record { is-in = later (r n).is-in; is-back = (r n).is-back }

-- ---- the boxes back
module _ (ws : List ℤ) (s : All Small ws) where
  abbrev Here : Float → Type 0
  Here x = Mem x (in_radians ws)

  box-back : (r : Rect) → Edges Here r → rect_of (box_of ws r) ≡ r
  unfolding rect_of box_of
  box-back r e =
      let a = (back ws s r.lat.lo e.lat.0).is-back in
      let b = (back ws s r.lat.hi e.lat.1).is-back in
      let c = (back ws s r.lng.lo e.lng.0).is-back in
      let d = (back ws s r.lng.hi e.lng.1).is-back in
      λ i. record { lat = record { lo = a i; hi = b i }; lng = record { lo = c i; hi = d i } }

  boxes-back : (rs : List Rect) → All (Edges Here) rs → rects (boxes_of ws rs) ≡ rs
  unfolding rects boxes_of
  boxes-back [] e = refl
  boxes-back (r ∷ l) e = λ i. box-back r e.0 i ∷ boxes-back l e.1 i

  -- and each of their numbers is one of the list
  small : (x : Float) → Here x → Small (whole_of ws x)
  small x m = all-at Small s (back ws s x m).is-in

  pub boxes-small : (rs : List Rect) → All (Edges Here) rs → All Small (wholes (boxes_of ws rs))
  unfolding wholes boxes_of box_of
  boxes-small [] e = tt
  boxes-small (r ∷ l) e = (small _ e.0.lat.0, (small _ e.0.lat.1, (small _ e.0.lng.0, (small _ e.0.lng.1, boxes-small l e.1))))

-- ---- the common boxes
module _ (l : List Bounds) (g : All Given l) where
  sizes : All Small (wholes (GLOBE ∷ l))
  sizes = small-wholes (GLOBE ∷ l) (globe-given, g)

  -- what goes out, turned into radians, is the common region that was found
  pub rects-back : rects (common_boxes l) ≡ pieces_of (in_radians (wholes l))
  unfolding common_boxes
  rects-back = boxes-back (wholes (GLOBE ∷ l)) sizes (pieces_of (in_radians (wholes l))) (pieces-edges l g)

  pub small-back : All Small (wholes (common_boxes l))
  unfolding common_boxes
  small-back = boxes-small (wholes (GLOBE ∷ l)) sizes (pieces_of (in_radians (wholes l))) (pieces-edges l g)
