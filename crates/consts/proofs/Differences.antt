-- Differences of natural numbers, and of whole numbers of one sign. Assumes nothing.
use mathlib.Core.Path.{◌≡◌, refl, sym, ap, ◌∙◌}
use mathlib.Core.Bool.{Bool, true, false, not}
use Prim.Native.Nat.{ℕ, zero, suc, ◌+◌, ◌-◌, ◌*◌, ◌≤◌, ◌<◌}
use native.Mathlib.Nat.{add-mul}
use native.Mathlib.Omega.{arith}
use lib.Dec.{T, ltb, ltb→lt, nltb→le}
use lib.IntN.{ℤ, pos, neg_ℤ, nat_abs, ◌+ℤ◌, ◌-ℤ◌, neg_ℤ-+ℤ, neg_ℤ-neg_ℤ, +ℤ-neg_ℤ_cancel, +ℤ_comm}
use Rattle.order.proofs.Units.{sub-mul}
use Rattle.consts.specs.Remainder.{signed}

-- ---- natural numbers
-- of two numbers either the first is less or it is not
pub by_order : (a b : ℕ) {A : Type 0} → (a < b → A) → (b ≤ a → A) → A
by_order a b {A} f g = go (ltb a b) (ltb→lt a b) (nltb→le a b)
  where
    go : (t : Bool) → (T t → a < b) → (T (not t) → b ≤ a) → A
    go true h k = f (h tt)
    go false h k = g (k tt)

-- how far apart two numbers are
abbrev pub apart : ℕ → ℕ → ℕ
apart a b = a - b + (b - a)

pub apart-mul : (a b k : ℕ) → apart (a * k) (b * k) ≡ apart a b * k
apart-mul a b k = sym (add-mul (a - b) (b - a) k ∙ (λ i. sub-mul a b k i + sub-mul b a k i))

-- ---- whole numbers of one sign
pub abs-signed : (s : Bool) (n : ℕ) → nat_abs (signed s n) ≡ n
abs-signed false n = refl
abs-signed true zero = refl
abs-signed true (suc n) = refl

up_to : (a b : ℕ) → a ≤ b → a + (b - a) ≡ b
up_to a b h = omega arith

off : (x y z : ℤ) → x ≡ y +ℤ z → x -ℤ y ≡ z
off x y z e = ap (λ (w : ℤ). w -ℤ y) (e ∙ +ℤ_comm y z) ∙ +ℤ-neg_ℤ_cancel z y

pub minus-more : (s : Bool) (a b : ℕ) → b ≤ a → signed s a -ℤ signed s b ≡ signed s (a - b)
minus-more false a b h = off (pos a) (pos b) (pos (a - b)) (ap pos (sym (up_to b a h)))
minus-more true a b h =
    off (neg_ℤ (pos a)) (neg_ℤ (pos b)) (neg_ℤ (pos (a - b))) (ap (λ (k : ℕ). neg_ℤ (pos k)) (sym (up_to b a h)) ∙ neg_ℤ-+ℤ (pos b) (pos (a - b)))

neg-signed : (s : Bool) (n : ℕ) → neg_ℤ (signed s n) ≡ signed (not s) n
neg-signed false n = refl
neg-signed true n = neg_ℤ-neg_ℤ (pos n)

neg-minus : (x y : ℤ) → neg_ℤ (y -ℤ x) ≡ x -ℤ y
neg-minus x y = neg_ℤ-+ℤ y (neg_ℤ x) ∙ ap (λ (z : ℤ). neg_ℤ y +ℤ z) (neg_ℤ-neg_ℤ x) ∙ +ℤ_comm (neg_ℤ y) x

pub minus-less : (s : Bool) (a b : ℕ) → a ≤ b → signed s a -ℤ signed s b ≡ signed (not s) (b - a)
minus-less s a b h = sym (neg-minus (signed s a) (signed s b)) ∙ ap neg_ℤ (minus-more s b a h) ∙ neg-signed s (b - a)

pub abs-minus : (s : Bool) (a b : ℕ) → nat_abs (signed s a -ℤ signed s b) ≡ apart a b
abs-minus s a b =
    by_order a b
    (λ l. let h : a ≤ b = omega arith in let z : b - a ≡ apart a b = omega arith in ap nat_abs (minus-less s a b h) ∙ abs-signed (not s) (b - a) ∙ z)
    (λ l. let z : a - b ≡ apart a b = omega arith in ap nat_abs (minus-more s a b l) ∙ abs-signed s (a - b) ∙ z)

pub no_signed : (s : Bool) (n : ℕ) → n ≡ 0 → signed s n ≡ pos 0
no_signed true n h = ap (λ (k : ℕ). neg_ℤ (pos k)) h
no_signed false n h = ap pos h
