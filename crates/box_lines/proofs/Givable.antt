-- A box whose numbers are of size at most 180 degrees, and whose rectangle is valid and not empty, is one that reading can give: radians keep the order of
-- whole numbers both ways (degrees), so that what the rectangle's edges meet the box's numbers meet. Assumes nothing.
use mathlib.Core.Path.{◌≡◌, refl, sym, ◌∙◌, subst}
use mathlib.Core.Bool.{Bool, true, false, not, ◌&&◌, ◌||◌, false≢true}
use Prim.Native.Nat.{ℕ}
use lib.Dec.{lit≤}
use lib.IntN.{ℤ, pos, neg_ℤ}
use lib.Signed.{le_z}
use lib.Ieee.{Float, binary64, lt, le, eq}
use Rattle.order.specs.Key.{Num}
use Rattle.order.proofs.Facts.{tests, le_trans, not-lt, antisym}
use Rattle.order.proofs.Keys.{lt-key, le-key}
use Rattle.order.proofs.Ranks.{and_l, and_r, and-of}
use Rattle.consts.specs.Constants.{PI, NEG-PI}
use Rattle.r1.specs.Line as line
use Rattle.s1.specs.Circle as circle
use Rattle.s2.specs.Zone.{NORTH, SOUTH, latitude, is_valid, is_empty}
use Rattle.s2.specs.Places.{Valid}
use Rattle.s2.proofs.Valid.{empty-both}
use Rattle.bounds.specs.declared.bounds.Bounds.{Bounds}
use Rattle.bounds.specs.Bounds.{HALF, QUARTER, within, in_limits, is_westmost, is_eastmost, whole_circle, settled, givable}
use Rattle.degrees.specs.Degrees.{radians, rect_of}
use Rattle.degrees.proofs.Angles as angles
use Rattle.degrees.proofs.Rises.{radians-num, rises, keeps, one-to-one}
use Rattle.degrees.proofs.Boxes.{not-above}
use Rattle.box_lines.specs.Answers.{Given}
use Rattle.box_lines.proofs.Back.{Small}

-- ---- the order of whole numbers, from that of their radians
not-both : (x y : Float) → Num x ≡ true → Num y ≡ true → le x y ≡ true → lt y x ≡ true → ⊥
not-both x y nx ny h k = omega (tests, simp (le-key binary64) at h, simp (lt-key binary64) at k)

ordered : (v w : ℤ) → Small v → Small w → le (radians v) (radians w) ≡ true → le_z v w ≡ true
ordered v w p q h = go (le_z v w) refl
  where
    go : (t : Bool) → le_z v w ≡ t → le_z v w ≡ true
    go true e = e
    go false e = absurd (not-both (radians v) (radians w) (radians-num v p) (radians-num w q) h (rises w v q p (not-above v w e)))

limited : (k : ℕ) → Small (pos k) → Small (neg_ℤ (pos k)) → (z : ℤ) → Small z
    → le (radians (neg_ℤ (pos k))) (radians z) ≡ true → le (radians z) (radians (pos k)) ≡ true → within k z ≡ true
unfolding within
limited k p q z s a b = and-of (ordered (neg_ℤ (pos k)) z q s a) (ordered z (pos k) s p b)

module _ (z : ℤ) (s : Small z) where
  in-quarter : le SOUTH (radians z) ≡ true → le (radians z) NORTH ≡ true → within QUARTER z ≡ true
  in-quarter a b =
      limited QUARTER (lit≤ tt) (lit≤ tt) z s (subst (λ (x : Float). le x (radians z) ≡ true) (sym angles.south) a)
      (subst (λ (x : Float). le (radians z) x ≡ true) (sym angles.north) b)

  in-half : le NEG-PI (radians z) ≡ true → le (radians z) PI ≡ true → within HALF z ≡ true
  in-half a b =
      limited HALF (lit≤ tt) (lit≤ tt) z s (subst (λ (x : Float). le x (radians z) ≡ true) (sym angles.west) a)
      (subst (λ (x : Float). le (radians z) x ≡ true) (sym angles.east) b)

  -- -180 is -PI, and PI is 180
  at-west : le NEG-PI (radians z) ≡ true → is_westmost z ≡ true → eq (radians z) NEG-PI ≡ true
  unfolding is_westmost
  at-west a h =
      subst (λ (x : Float). eq (radians z) x ≡ true) angles.west
      (antisym (radians z) (radians (neg_ℤ (pos HALF))) (radians-num z s) (radians-num (neg_ℤ (pos HALF)) (lit≤ tt)) (keeps z (neg_ℤ (pos HALF)) s (lit≤ tt) h)
      (subst (λ (x : Float). le x (radians z) ≡ true) (sym angles.west) a))

  at-east : eq (radians z) PI ≡ true → is_eastmost z ≡ true
  unfolding is_eastmost
  at-east h =
      subst (λ (y : ℤ). le_z (pos HALF) y ≡ true) (sym (one-to-one z (pos HALF) s (lit≤ tt) (subst (λ (x : Float). eq (radians z) x ≡ true) (sym angles.east) h))) refl

-- -180 only in the whole circle: w, v where the west and the east are -180, e where the east is 180; a, c, b where their radians are -PI and PI
seam : (w e v a b c d : Bool) → (w ≡ true → a ≡ true) → (b ≡ true → e ≡ true) → (v ≡ true → c ≡ true)
    → not (a && not b) ≡ true → not (c && not d) ≡ true → d && c ≡ false
    → (w && e) || (not w && not v) ≡ true
seam true true v a b c d f g h i j k = refl
seam true false v true true c d f g h i j k = g refl
seam true false v true false c d f g h i j k = absurd (false≢true i)
seam true false v false b c d f g h i j k = absurd (false≢true (f refl))
seam false e false a b c d f g h i j k = refl
seam false e true a b true true f g h i j k = absurd (false≢true (sym k))
seam false e true a b true false f g h i j k = absurd (false≢true j)
seam false e true a b false d f g h i j k = absurd (false≢true (h refl))

-- ---- the box
pub record SmallBox (b : Bounds) : Type 0 where
  pub west : Small b.west
  pub south : Small b.south
  pub east : Small b.east
  pub north : Small b.north

module _ (b : Bounds) (s : SmallBox b) (v : Valid (rect_of b)) (n : is_empty (rect_of b) ≡ false) where
  rising : le (radians b.south) (radians b.north) ≡ true
  unfolding is_empty rect_of line.is_empty
  rising = not-lt (radians b.north) (radians b.south) (radians-num b.north s.north) (radians-num b.south s.south) n

  lats : (le SOUTH (radians b.south) ≡ true) × (le (radians b.south) NORTH ≡ true) × (le (radians b.north) NORTH ≡ true)
  unfolding rect_of is_valid latitude
  lats = let h = v.is-valid in (search (and_l, and_r), search (and_l, and_r), search (and_l, and_r))

  north-up : le SOUTH (radians b.north) ≡ true
  north-up =
      le_trans SOUTH (radians b.south) (radians b.north) (subst (λ (x : Float). Num x ≡ true) angles.south (radians-num (neg_ℤ (pos QUARTER)) (lit≤ tt)))
      (radians-num b.south s.south) (radians-num b.north s.north) lats.0 rising

  within-limits : in_limits b ≡ true
  unfolding in_limits rect_of circle.is_valid
  within-limits =
      let h = v.lng-valid.is-valid in
      let w = in-half b.west s.west (search (and_l, and_r)) (search (and_l, and_r)) in
      let e = in-half b.east s.east (search (and_l, and_r)) (search (and_l, and_r)) in
      and-of (and-of (and-of (and-of w (in-quarter b.south s.south lats.0 lats.1)) e) (in-quarter b.north s.north north-up lats.2))
      (ordered b.south b.north s.south s.north rising)

  at-seam : settled b ≡ true
  unfolding settled whole_circle rect_of circle.is_valid circle.is_empty is_empty
  at-seam =
      let h = v.lng-valid.is-valid in
      seam (is_westmost b.west) (is_eastmost b.east) (is_westmost b.east) (eq (radians b.west) NEG-PI) (eq (radians b.east) PI) (eq (radians b.east) NEG-PI)
      (eq (radians b.west) PI) (at-west b.west s.west (search (and_l, and_r))) (at-east b.east s.east) (at-west b.east s.east (search (and_l, and_r)))
      (search (and_l, and_r)) (search (and_l, and_r)) (sym (empty-both v) ∙ n)

  pub is-given : Given b
  unfolding givable
  is-given = and-of within-limits at-seam
