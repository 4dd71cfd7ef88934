-- The numbers of a box are the machine's: a size under ten thousand million is itself, and so is its negative too. Assumes nothing.
use mathlib.Core.Path.{◌≡◌, sym, ap, ◌∙◌}
use mathlib.Core.Bool.{true, false, false≢true}
use Prim.Native.Nat.{ℕ, zero, suc, ◌<◌}
use native.Mathlib.Omega.{arith}
use borrow.Author.Tests.{ltb-true}
use lib.Dec.{T}
use lib.Signed.{lt_z, non_neg}
use lib.IntN.{ℤ, pos, negsuc, neg_ℤ, nat_abs, ◌+ℤ◌, ◌-ℤ◌, +ℤ_idl}
use mir.Syntax.{w64}
use mir.Val.{SFits, to_z, of_z}
use mir.ValLaws.{to_z_pos}

pub small_is : (n : ℕ) → n < 10000000000 → to_z w64 n ≡ pos n
small_is n h = to_z_pos w64 n (omega arith)

pub minus_is : (n : ℕ) → pos 0 -ℤ pos n ≡ neg_ℤ (pos n)
minus_is n = +ℤ_idl (neg_ℤ (pos n))

pub minus-fits : (n : ℕ) → n < 10000000000 → SFits w64 (neg_ℤ (pos n))
minus-fits zero h = record { sfits = omega arith }
minus-fits (suc m) h = record { sfits = omega (arith, h) }

-- ---- the size of a number
pub other_fits : (z : ℤ) → nat_abs z < 10000000000 → SFits w64 (pos 0 +ℤ neg_ℤ z)
other_fits (pos n) h = rw (+ℤ_idl (neg_ℤ (pos n))) (minus-fits n h)
other_fits (negsuc n) h = rw (+ℤ_idl (pos (suc n))) (record { sfits = omega (arith, h) })

-- a number below zero, and one that is not
pub below-zero : (z : ℤ) → lt_z z (pos 0) ≡ true → nat_abs z < 10000000000 → to_z w64 (of_z w64 (pos 0 +ℤ neg_ℤ z)) ≡ pos (nat_abs z)
below-zero (pos n) t h =
    let k : n < 0 = ltb-true n 0 t in
    absurd (omega arith)
below-zero (negsuc n) t h = ap (λ (z : ℤ). to_z w64 (of_z w64 z)) (+ℤ_idl (pos (suc n))) ∙ to_z_pos w64 (suc n) (omega arith)

pub not-below : (z : ℤ) → lt_z z (pos 0) ≡ false → T (non_neg z)
not-below (pos n) t = tt
not-below (negsuc n) t = absurd (false≢true (sym t))
