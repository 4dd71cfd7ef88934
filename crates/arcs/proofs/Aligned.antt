-- Two rising lists with the same entries agree entry by entry. Assumes nothing.
use mathlib.Core.Path.{◌≡◌}
use mathlib.Core.Bool.{true}
use mathlib.Core.List.{List, [], ◌∷◌}
use lib.Ieee.{Float, lt, eq}
use Rattle.entries.specs.Lists.{All, Pairs, Mem, first, later}
use Rattle.entries.proofs.Entries.{all-at, no-mem}
use Rattle.arcs.proofs.Orders.{IsNum, cross_at, ahead-at}

-- `k` rises, and `S` says that two entries are one
abbrev pub Two : {A : Type 0} → (A → A → Type 0) → List A → List A → Type 0
Two R [] [] = Unit
Two R [] (y ∷ m) = ⊥
Two R (x ∷ l) [] = ⊥
Two R (x ∷ l) (y ∷ m) = R x y × Two R l m

module _ {A : Type 0} (k : A → Float) (S : A → A → Type 0) (key : (x y : A) → S x y → eq (k x) (k y) ≡ true) where
  abbrev Rises : A → A → Type 0
  Rises x y = lt (k x) (k y) ≡ true

  abbrev Number : A → Type 0
  Number x = IsNum (k x)

  abbrev Matched : List A → List A → Type 0
  Matched l m = (x : A) → Mem x l → (y : A) × Mem y m × S x y × S y x

  heads : {x y x' y' : A} {l m : List A} → All Number (x ∷ l) → All Number (y ∷ m) → All (Rises x) l → All (Rises y) m
      → Mem y' (y ∷ m) → S x y' × S y' x → Mem x' (x ∷ l) → S y x' × S x' y → S x y × S y x
  heads v w a b first s n t = s
  heads v w a b (later n) s first t = (t.1, t.0)
  heads {x} {y} v w a b (later {l = m} n) s (later o) t =
      absurd (cross_at v.0 w.0 (all-at Number v.1 o) (all-at Number w.1 n) (all-at (Rises y) b n) (key _ _ s.0) (all-at (Rises x) a o) (key _ _ t.0))

  tails : {x y : A} {l m : List A} → All Number (x ∷ l) → All Number (y ∷ m) → All (Rises x) l → S x y → Matched (x ∷ l) (y ∷ m) → Matched l m
  tails {x} {y} {l} {m} v w a s f z n = let t = f z (later n) in go t.1 (t.2, t.3)
    where
      go : {u : A} → Mem u (y ∷ m) → S z u × S u z → (u : A) × Mem u m × S z u × S u z
      go first h = absurd (ahead-at v.0 w.0 (all-at Number v.1 n) v.0 (key _ _ s) (all-at (Rises x) a n) (key _ _ h.0))
      go {u} (later o) h = (u, o, h.0, h.1)

  pub aligned : (l m : List A) → All Number l → All Number m → Pairs Rises l → Pairs Rises m → Matched l m → Matched m l → Two S l m
  aligned [] [] v w a b f g = tt
  aligned [] (y ∷ m) v w a b f g = no-mem _ (g y first).1
  aligned (x ∷ l) [] v w a b f g = no-mem _ (f x first).1
  aligned (x ∷ l) (y ∷ m) v w a b f g =
      let p = f x first in
      let q = g y first in
      let s : S x y × S y x = heads v w a.0 b.0 p.1 (p.2, p.3) q.1 (q.2, q.3) in
      (s.0, aligned l m v.1 w.1 a.1 b.1 (tails v w a.0 s.0 f) (tails w v b.0 s.1 g))
