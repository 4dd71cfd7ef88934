-- What the limits and the seam mean for a box: a number within a limit is of no larger size; a box that reading can give stays as it is when -180 is read,
-- and reading -180 gives only such boxes. By the two tests of the seam. Assumes nothing.
use mathlib.Core.Path.{◌≡◌, refl, ap}
use mathlib.Core.Bool.{Bool, true, false, ◌&&◌, ◌||◌, not, cond, false≢true}
use Prim.Native.Nat.{ℕ, zero, suc, ◌≤◌, ◌<◌}
use native.Mathlib.Omega.{arith}
use borrow.Author.Tests.{leb-true}
use Rattle.std.proofs.lemmas.Bool.{and_parts, not-true}
use lib.IntN.{ℤ, pos, negsuc, neg_ℤ, nat_abs}
use lib.Signed.{le_z}
use Rattle.bounds.specs.declared.bounds.Bounds.{Bounds}
use Rattle.bounds.specs.Bounds.{HALF, QUARTER, within, in_limits, is_westmost, is_eastmost, whole_circle, seam_read, placed, settled, givable}

-- ---- the limits
pub within-size : (limit : ℕ) (z : ℤ) → within limit z ≡ true → nat_abs z ≤ limit
unfolding within
within-size limit (pos n) h = leb-true n limit (and_parts (le_z (neg_ℤ (pos limit)) (pos n)) (le_z (pos n) (pos limit)) h).1
within-size zero (negsuc n) h = absurd (false≢true h)
within-size (suc m) (negsuc n) h =
    let k : n ≤ m = leb-true n m (and_parts (le_z (negsuc m) (negsuc n)) true h).0 in
    omega arith

-- every number of a box within the limits, and the order of its latitudes
pub record InLimits (b : Bounds) : Type 0 where
  pub west : within HALF b.west ≡ true
  pub south : within QUARTER b.south ≡ true
  pub east : within HALF b.east ≡ true
  pub north : within QUARTER b.north ≡ true
  pub order : le_z b.south b.north ≡ true

pub limits : (b : Bounds) → in_limits b ≡ true → InLimits b
unfolding in_limits
limits b h =
    let w : Bool = within HALF b.west in
    let s : Bool = within QUARTER b.south in
    let e : Bool = within HALF b.east in
    let n : Bool = within QUARTER b.north in
    let o : Bool = le_z b.south b.north in
    let h4 = and_parts (w && s && e && n) o h in
    let h3 = and_parts (w && s && e) n h4.0 in
    let h2 = and_parts (w && s) e h3.0 in
    let h1 = and_parts w s h2.0 in
    record { west = h1.0; south = h1.1; east = h2.1; north = h3.1; order = h4.1 }

pub given-limits : (b : Bounds) → givable b ≡ true → in_limits b ≡ true
unfolding givable
given-limits b h = (and_parts (in_limits b) (settled b) h).0

pub given-settled : (b : Bounds) → givable b ≡ true → settled b ≡ true
unfolding givable
given-settled b h = (and_parts (in_limits b) (settled b) h).1

-- the sizes that the writer can write
pub sizes : (b : Bounds) → givable b ≡ true
    → (nat_abs b.west < 10000000000) × (nat_abs b.south < 10000000000) × (nat_abs b.east < 10000000000) × (nat_abs b.north < 10000000000)
sizes b h =
    let l : InLimits b = limits b (given-limits b h) in (
      omega (arith, within-size HALF b.west l.west),
      omega (arith, within-size QUARTER b.south l.south),
      omega (arith, within-size HALF b.east l.east),
      omega (arith, within-size QUARTER b.north l.north),
    )

-- ---- the seam
-- a box that is settled stays as it is
seam-stays : (z : ℤ) → is_westmost z ≡ false → seam_read z ≡ z
unfolding seam_read
seam-stays z h = simp h

pub settled-stays : (b : Bounds) → settled b ≡ true → placed b ≡ b
unfolding settled placed
settled-stays b h = go (whole_circle b) h
  where
    w : Bool
    w = is_westmost b.west

    e : Bool
    e = is_westmost b.east

    go : (t : Bool) → t || (not w && not e) ≡ true
        → cond t b (record { west = seam_read b.west; south = b.south; east = seam_read b.east; north = b.north }) ≡ b
    go true k = refl
    go false k =
        let apart = and_parts (not w) (not e) k in
        simp (seam-stays b.west (not-true w apart.0), seam-stays b.east (not-true e apart.1))

-- what is read for a number is not -180, and is within the limit with it
seam-free : (z : ℤ) → is_westmost (seam_read z) ≡ false
unfolding seam_read
seam-free z = go (is_westmost z) refl
  where
    go : (t : Bool) → is_westmost z ≡ t → is_westmost (cond t (pos HALF) z) ≡ false
    go true k = unfold is_westmost in refl
    go false k = k

seam-within : (z : ℤ) → within HALF z ≡ true → within HALF (seam_read z) ≡ true
unfolding seam_read
seam-within z h = go (is_westmost z)
  where
    go : (t : Bool) → within HALF (cond t (pos HALF) z) ≡ true
    go true = unfold within in refl
    go false = h

-- reading gives only boxes that it can give
pub placed-given : (b : Bounds) → in_limits b ≡ true → givable (placed b) ≡ true
unfolding placed
placed-given b h = go (whole_circle b) refl
  where
    l : InLimits b
    l = limits b h

    read : Bounds
    read = record { west = seam_read b.west; south = b.south; east = seam_read b.east; north = b.north }

    whole : whole_circle b ≡ true → settled b ≡ true
    whole k = unfold settled in simp k

    or-true : (t : Bool) → t || true ≡ true
    or-true true = refl
    or-true false = refl

    apart : settled read ≡ true
    apart = unfold settled in simp (seam-free b.west, seam-free b.east) (or-true (whole_circle read))

    inside : in_limits read ≡ true
    inside = unfold in_limits in simp (seam-within b.west l.west, l.south, seam-within b.east l.east, l.north, l.order)

    go : (t : Bool) → whole_circle b ≡ t → givable (cond t b read) ≡ true
    go true k = unfold givable in simp (h, whole k)
    go false k = unfold givable in simp (inside, apart)

-- ---- what the two tests of the seam say of a number within the limits: it is -180, it is 180
pub westmost : (z : ℤ) → within HALF z ≡ true → is_westmost z ≡ true → z ≡ neg_ℤ (pos HALF)
unfolding within is_westmost
westmost (pos n) h k = absurd (false≢true k)
westmost (negsuc n) h k =
    let below : n ≤ 1799999999 = leb-true n 1799999999 (and_parts (le_z (negsuc 1799999999) (negsuc n)) true h).0 in
    let above : 1799999999 ≤ n = leb-true 1799999999 n k in
    let e : n ≡ 1799999999 = omega arith in
    ap negsuc e

pub eastmost : (z : ℤ) → within HALF z ≡ true → is_eastmost z ≡ true → z ≡ pos HALF
unfolding within is_eastmost
eastmost (pos n) h k =
    let below : n ≤ HALF = leb-true n HALF (and_parts (le_z (neg_ℤ (pos HALF)) (pos n)) (le_z (pos n) (pos HALF)) h).1 in
    let above : HALF ≤ n = leb-true HALF n k in
    let e : n ≡ HALF = omega arith in
    ap pos e
eastmost (negsuc n) h k = absurd (false≢true k)
