-- x = n * t + v for a whole number n, with v at most half of t in size, and n even where it is half of t: there is one such v.
-- A whole number is written as what is above zero less what is below, so that omega sees natural numbers; one multiple of t more or less is too far,
-- unless both rests are half of t, and then one of the two n is odd. Assumes nothing.
use mathlib.Core.Path.{◌≡◌, refl, sym, ap, ◌∙◌, subst}
use mathlib.Core.Bool.{Bool, true, false, cond, not}
use Prim.Native.Nat.{ℕ, zero, suc, ◌+◌, ◌-◌, ◌*◌, ◌%◌, ◌≤◌, ◌<◌}
use native.Mathlib.Nat.{add-mul, zero-mul, mul-le-mul_right, one-mul}
use native.Mathlib.Omega.{arith}
use lib.Dec.{T, ltb, ltb→lt, nltb→le}
use lib.IntN.{ℤ, pos, negsuc, neg_ℤ, nat_abs, ◌+ℤ◌, ◌*ℤ◌, sub_ℕ}
use Rattle.consts.proofs.Differences.{by_order}

abbrev above : ℤ → ℕ
above (pos n) = n
above (negsuc n) = 0

abbrev below : ℤ → ℕ
below (pos n) = 0
below (negsuc n) = suc n

difference : (a b : ℕ) → above (sub_ℕ a b) + b ≡ below (sub_ℕ a b) + a
difference a b = go (ltb a b) (ltb→lt a b) (nltb→le a b)
  where
    go : (t : Bool) → (T t → a < b) → (T (not t) → b ≤ a) → above (cond t (negsuc (b - suc a)) (pos (a - b))) + b ≡ below (cond t (negsuc (b - suc a)) (pos (a - b))) + a
    go true f g = let h : a < b = f tt in omega arith
    go false f g = let h : b ≤ a = g tt in omega arith

plus : (a b : ℤ) → above (a +ℤ b) + below a + below b ≡ below (a +ℤ b) + above a + above b
plus (pos a) (pos b) = omega arith
plus (pos a) (negsuc b) = let d = difference a (suc b) in omega arith
plus (negsuc a) (pos b) = let d = difference b (suc a) in omega arith
plus (negsuc a) (negsuc b) = omega arith

minus-above : (n : ℕ) → above (neg_ℤ (pos n)) ≡ 0
minus-above zero = refl
minus-above (suc n) = refl

minus-below : (n : ℕ) → below (neg_ℤ (pos n)) ≡ n
minus-below zero = refl
minus-below (suc n) = refl

times : (n : ℤ) (t : ℕ) → above (n *ℤ pos t) + below n * t ≡ below (n *ℤ pos t) + above n * t
times (pos n) t = let z = zero-mul t in omega arith
times (negsuc n) t = let z = zero-mul t in let a = minus-above (suc n * t) in let b = minus-below (suc n * t) in omega arith

size : (z : ℤ) → nat_abs z ≡ above z + below z
size (pos n) = omega arith
size (negsuc n) = omega arith

same : (z w : ℤ) → above z + below w ≡ below z + above w → z ≡ w
same (pos a) (pos b) h = ap pos (omega arith)
same (pos a) (negsuc b) h = absurd (omega arith)
same (negsuc a) (pos b) h = absurd (omega arith)
same (negsuc a) (negsuc b) h = ap negsuc (omega arith)

-- ---- one more multiple, and two more
step : (p m t : ℕ) → m < p → m * t + t ≤ p * t
step p m t h = subst (λ (z : ℕ). z ≤ p * t) (add-mul m 1 t ∙ ap (λ (z : ℕ). m * t + z) (one-mul t)) (mul-le-mul_right {m = m + 1} {n = p} t (omega arith))

step2 : (p m t : ℕ) → m + 1 < p → m * t + t + t ≤ p * t
step2 p m t h = let a = step p (m + 1) t h in let b = add-mul m 1 t in let d = one-mul t in omega arith

balance : (x n v : ℤ) (t : ℕ) → x ≡ n *ℤ pos t +ℤ v → above x + below n * t + below v ≡ below x + above n * t + above v
balance x n v t e =
    subst (λ (z : ℤ). above z + below n * t + below v ≡ below z + above n * t + above v) (sym e) (let a = plus (n *ℤ pos t) v in let b = times n t in omega arith)

crossed : (x n v n' v' : ℤ) (t : ℕ) → x ≡ n *ℤ pos t +ℤ v → x ≡ n' *ℤ pos t +ℤ v'
    → (above n + below n') * t + above v + below v' ≡ (below n + above n') * t + below v + above v'
crossed x n v n' v' t e e' = rw (add-mul (above n) (below n') t, add-mul (below n) (above n') t) (let a = balance x n v t e in let b = balance x n' v' t e' in omega arith)

odd-sum : (a b i j : ℕ) → b ≡ a + 1 → a + b ≡ i + j → i % 2 ≡ 0 → j % 2 ≡ 0 → ⊥
odd-sum a b i j p q r s = omega arith

-- n is not below n'
no_less : (x n v n' v' : ℤ) (t : ℕ) → 0 < t → x ≡ n *ℤ pos t +ℤ v → x ≡ n' *ℤ pos t +ℤ v' → nat_abs v * 2 ≤ t → nat_abs v' * 2 ≤ t
    → (nat_abs v * 2 ≡ t → nat_abs n % 2 ≡ 0) → (nat_abs v' * 2 ≡ t → nat_abs n' % 2 ≡ 0) → above n + below n' < below n + above n' → ⊥
no_less x n v n' v' t h e e' near near' even even' l =
    let s = step (below n + above n') (above n + below n') t l in
    let c = crossed x n v n' v' t e e' in
    let a = size v in
    let b = size v' in
    by_order (above n + below n' + 1) (below n + above n')
    (λ g. let s2 = step2 (below n + above n') (above n + below n') t g in omega arith)
    (λ g.
    let q = even (omega arith) in
    let q' = even' (omega arith) in
    let d = size n in
    let d' = size n' in
    odd-sum (above n + below n') (below n + above n') (nat_abs n) (nat_abs n') (omega arith) (omega arith) q q')

pub one-rest : (x n v n' v' : ℤ) (t : ℕ) → 0 < t → x ≡ n *ℤ pos t +ℤ v → x ≡ n' *ℤ pos t +ℤ v' → nat_abs v * 2 ≤ t → nat_abs v' * 2 ≤ t
    → (nat_abs v * 2 ≡ t → nat_abs n % 2 ≡ 0) → (nat_abs v' * 2 ≡ t → nat_abs n' % 2 ≡ 0) → v ≡ v'
one-rest x n v n' v' t h e e' near near' even even' =
    by_order (above n + below n') (below n + above n') (λ l. absurd (no_less x n v n' v' t h e e' near near' even even' l)) (λ l.
    by_order (above n' + below n) (below n' + above n) (λ k. absurd (no_less x n' v' n v t h e' e near' near even' even k)) (λ k.
    let i : above n + below n' ≡ below n + above n' = omega arith in
    let c = crossed x n v n' v' t e e' in
    let j = ap (λ (z : ℕ). z * t) i in
    same v v' (omega arith)))
