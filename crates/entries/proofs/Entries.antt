-- Entries of a list, and what holds of each of them or of each two. By induction on the list. Assumes nothing.
use mathlib.Core.Path.{◌≡◌, refl}
use mathlib.Core.List.{List, [], ◌∷◌, ◌++◌}
use mathlib.Core.Logic.{◌⊎◌, inl, inr}
use Prim.Native.Nat.{ℕ, zero, suc, ◌<◌}
use native.Mathlib.Nat.{not-suc-le-zero}
use native.Mathlib.Omega.{arith}
use lib.ListN.{length, get_or}
use Rattle.entries.specs.Lists.{Mem, first, later, All, Pairs}

pub all-at : {A : Type 0} (P : A → Type 0) {x : A} {l : List A} → All P l → Mem x l → P x
all-at P a first = a.0
all-at P a (later m) = all-at P a.1 m

pub all_of : {A : Type 0} (P : A → Type 0) (l : List A) → ((x : A) → Mem x l → P x) → All P l
all_of P [] f = tt
all_of P (x ∷ l) f = (f x first, all_of P l (λ y m. f y (later m)))

pub no-mem : {A : Type 0} {x : A} (P : Type 0) → Mem x [] → P
no-mem P = elim [ ]

pub each-cons : {A : Type 0} (P : A → Type 0) {i : A} {l : List A} → P i → ((j : A) → Mem j l → P j) → (j : A) → Mem j (i ∷ l) → P j
each-cons P a f j first = a
each-cons P a f j (later m) = f j m

pub pair-cases : {A : Type 0} (R : A → A → Type 0) {x y : A} {l : List A} → Pairs R l → Mem x l → Mem y l → (x ≡ y) ⊎ (R x y ⊎ R y x)
pair-cases R p first first = inl refl
pair-cases R p first (later {l} n) = inr (inl (all-at (R _) p.0 n))
pair-cases R p (later m) first = inr (inr (all-at (R _) p.0 m))
pair-cases R p (later m) (later n) = pair-cases R p.1 m n

pub all_map : {A : Type 0} (P Q : A → Type 0) → ((x : A) → P x → Q x) → (l : List A) → All P l → All Q l
all_map P Q f l a = all_of Q l (λ x m. f x (all-at P a m))

pub pairs-map : {A : Type 0} (R S : A → A → Type 0) → ((x y : A) → R x y → S x y) → (l : List A) → Pairs R l → Pairs S l
pairs-map R S f [] p = tt
pairs-map R S f (x ∷ l) p = (all_of (S x) l (λ y m. f x y (all-at (R x) p.0 m)), pairs-map R S f l p.1)

-- ---- one entry more
pub all_append : {A : Type 0} (P : A → Type 0) (l m : List A) → All P l → All P m → All P (l ++ m)
all_append P [] m a b = b
all_append P (x ∷ l) m a b = (a.0, all_append P l m a.1 b)

-- ---- by their places
pub all-get : {A : Type 0} (P : A → Type 0) (l : List A) → All P l → (i : ℕ) (d : A) → i < length l → P (get_or l i d)
all-get P [] a i d h = absurd (not-suc-le-zero h)
all-get P (x ∷ l) a zero d h = a.0
all-get P (x ∷ l) a (suc i) d h = all-get P l a.1 i d (omega arith)
