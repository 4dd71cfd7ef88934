-- Refusal numbers: that of no refusal is 0, which is what "accepted" has. No two refusals have the same.
-- For `grind` and `simp` in the layers above. Assumes nothing.
use mathlib.Core.Path.{◌≡◌, refl, sym, ap, ◌∙◌}
use mathlib.Core.Bool.{false, cond}
use Prim.Native.Nat.{ℕ}
use lib.Dec.{eqb}
use borrow.Author.Tests.{eqb-false}
use Rattle.consts.specs.declared.refusal.Refusal.{Refusal}
use Rattle.consts.specs.declared.refusal.Refusal.TheVariants.{OutOfReach, BadLatitude, BadCircle, HalfEmpty, BadPoint, BadMargin, BadList, NoRoom}
use Rattle.consts.specs.declared.refusal.Refusal.TheVariants.{BadRecord, BadText, BadBox}
use Rattle.consts.specs.Refusal.{code}

pub code_refuses : (r : Refusal) → eqb (code r) 0 ≡ false
code_refuses OutOfReach = refl
code_refuses BadLatitude = refl
code_refuses BadCircle = refl
code_refuses HalfEmpty = refl
code_refuses BadPoint = refl
code_refuses BadMargin = refl
code_refuses BadList = refl
code_refuses NoRoom = refl
code_refuses BadRecord = refl
code_refuses BadText = refl
code_refuses BadBox = refl

-- so it is not 0
pub refuses : (r : Refusal) → code r ≡ 0 → ⊥
refuses r e = eqb-false (code r) 0 (code_refuses r) e

-- the refusal of a number, where it is one's
unfoldable named : ℕ → Refusal
named n =
    cond (eqb n 1) OutOfReach (cond (eqb n 3) BadPoint (cond (eqb n 4) BadMargin (cond (eqb n 5) BadList (cond (eqb n 6) NoRoom (cond (eqb n 7) BadRecord
    (cond (eqb n 8) BadText (cond (eqb n 9) BadBox (cond (eqb n 21) BadLatitude (cond (eqb n 22) BadCircle HalfEmpty)))))))))

named-code : (r : Refusal) → named (code r) ≡ r
unfolding named
named-code OutOfReach = refl
named-code BadLatitude = refl
named-code BadCircle = refl
named-code HalfEmpty = refl
named-code BadPoint = refl
named-code BadMargin = refl
named-code BadList = refl
named-code NoRoom = refl
named-code BadRecord = refl
named-code BadText = refl
named-code BadBox = refl

pub same_code : (r s : Refusal) → code r ≡ code s → r ≡ s
same_code r s e = sym (named-code r) ∙ ap named e ∙ named-code s
