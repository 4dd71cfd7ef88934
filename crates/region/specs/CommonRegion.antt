-- What the common region of a list of rectangles is, over places: demand 3, clause by clause. Nothing here says how it is found; that at most one list
-- meets it is proved in proofs/Unique.antt, and that the list found meets it in proofs/Listed.antt. Definitions only.
use Rattle.std.specs.Prelude.{◌≡◌, Bool, true, false, ◌&&◌, ◌||◌, List, [], ◌∷◌, Float}
use Rattle.std.specs.Float.Ieee.{lt}
use Rattle.s1.specs.declared.interval.Interval.{Interval as Circle}
use Rattle.s1.specs.Places.{Valid as LngValid, holds as lng_holds}
use Rattle.s2.specs.declared.place.Place.{Place}
use Rattle.s2.specs.declared.rect.Rect.{Rect}
use Rattle.s2.specs.Zone.{is_empty}
use Rattle.s2.specs.Reading.{as_read}
use Rattle.s2.specs.Places.{IsPlace, Valid, holds}
use Rattle.entries.specs.Lists.{All, Pairs}

-- the place lies in every rectangle of the list; in one of them
unfoldable pub in_every : List Rect → Place → Bool
in_every [] p = true
in_every (r ∷ l) p = holds r p && in_every l p

unfoldable pub in_some : List Rect → Place → Bool
in_some [] p = false
in_some (r ∷ l) p = holds r p || in_some l p

-- no place lies in both
abbrev pub Apart : Rect → Rect → Type 0
Apart r o = (p : Place) → IsPlace p → holds r p ≡ true → holds o p ≡ true → ⊥

-- the circle interval j, at the latitude x, holds places that every rectangle given holds, and no others
abbrev pub AllCommon : List Rect → Circle → Float → Type 0
AllCommon given j x = (p : Place) → IsPlace p → p.lat ≡ x → lng_holds j p.lng p.gap ≡ true → in_every given p ≡ true

-- it holds a place of r there
abbrev pub Touches : Circle → Float → Rect → Type 0
Touches j x r = (p : Place) × IsPlace p × (p.lat ≡ x) × (lng_holds j p.lng p.gap ≡ true) × (holds r p ≡ true)

-- no circle interval of common places holds places of both
abbrev pub Unjoined : List Rect → Rect → Rect → Type 0
Unjoined given r o = (j : Circle) (x : Float) → LngValid j → AllCommon given j x → Touches j x r → Touches j x o → ⊥

-- the western edge of r lies below that of o
abbrev pub Lower : Rect → Rect → Type 0
Lower r o = lt r.lng.lo o.lng.lo ≡ true

pub record CommonRegion (given listed : List Rect) : Type 0 where
  -- it lists valid, non-empty rectangles
  pub valid : All Valid listed
  pub non-empty : All (λ r. is_empty r ≡ false) listed
  -- a place lies in one of them exactly when it lies in every rectangle given
  pub exact : (p : Place) → IsPlace p → in_some listed p ≡ in_every given p
  -- no place lies in two
  pub apart : Pairs Apart listed
  -- no two can be joined
  pub unjoined : Pairs (Unjoined given) listed
  -- western edges rise
  pub rising : Pairs Lower listed
  -- no negative zero is written
  pub plain : All (λ r. as_read r ≡ r) listed
