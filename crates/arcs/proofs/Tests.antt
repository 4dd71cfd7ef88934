-- What tests tell, one way and the other. Assumes nothing.
use mathlib.Core.Path.{◌≡◌, refl, sym, ap, ◌∙◌}
use mathlib.Core.Bool.{Bool, true, false, not, ◌||◌, false≢true}
use mathlib.Core.Logic.{◌⊎◌, inl, inr}

pub or_right : (a b : Bool) → a || b ≡ true → a ≡ false → b ≡ true
or_right true b h k = absurd (false≢true (sym k))
or_right false b h k = h

pub decide : (a : Bool) → (a ≡ true) ⊎ (a ≡ false)
decide true = inl refl
decide false = inr refl

pub refute : (a : Bool) → (a ≡ true → ⊥) → not a ≡ true
refute true h = absurd (h refl)
refute false h = refl

pub neither : (a b : Bool) → a ≡ false → b ≡ false → not (a || b) ≡ true
neither a b h k = ap (λ (t : Bool). not (t || b)) h ∙ ap not k

pub both_ways : (a b : Bool) → (a ≡ true → b ≡ true) → (b ≡ true → a ≡ true) → a ≡ b
both_ways true b f g = sym (f refl)
both_ways false true f g = g refl
both_ways false false f g = refl
