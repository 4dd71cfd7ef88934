-- Demand 3 for boxes: those that go out are boxes that reading can give, and they are the common region of the boxes that came in and the only list that
-- is. All from what is found of the rectangles (region), since no two boxes become one rectangle (degrees). Assumes nothing.
use mathlib.Core.Path.{◌≡◌, refl, sym, ap, ◌∙◌, subst}
use mathlib.Core.Bool.{false}
use mathlib.Core.List.{List, [], ◌∷◌}
use mathlib.Core.Logic.{◌⊎◌, inl, inr}
use Prim.Native.Nat.{suc, ◌≤◌, ◌<◌}
use native.Mathlib.Omega.{arith}
use lib.ListN.{length}
use Rattle.s2.specs.declared.rect.Rect.{Rect}
use Rattle.s2.specs.Zone.{is_empty}
use Rattle.s2.specs.Places.{Valid}
use Rattle.entries.specs.Lists.{All, Mem, first, later}
use Rattle.lists.specs.Rects.{as_read_all}
use Rattle.entries.proofs.Entries.{no-mem}
use Rattle.region.specs.CommonRegion.{CommonRegion}
use Rattle.region.specs.Region.{region}
use Rattle.region.specs.Answers.{pieces_of}
use Rattle.region.proofs.Listed.{listed-is}
use Rattle.region.proofs.Unique.{unique}
use Rattle.region.proofs.Laws as laws
use Rattle.bounds.specs.declared.bounds.Bounds.{Bounds}
use Rattle.degrees.specs.Degrees.{rect_of}
use Rattle.degrees.proofs.Boxes.{accepted-is, same-box}
use Rattle.box_lines.specs.Answers.{Given, rects, wholes, common_boxes}
use Rattle.box_lines.proofs.Taken.{rects-of, valid-rects}
use Rattle.box_lines.proofs.Back.{Small, cases, rects-back, small-back}
use Rattle.box_lines.proofs.Givable.{is-given}

-- ---- boxes and their rectangles
pub length-rects : (l : List Bounds) → length (rects l) ≡ length l
unfolding rects
length-rects [] = refl
length-rects (b ∷ l) = ap suc (length-rects l)

front : Rect → List Rect → Rect
front r [] = r
front r (o ∷ l) = o

rest : List Rect → List Rect
rest [] = []
rest (r ∷ l) = l

one-box : (b d : Bounds) → Given b → Given d → rect_of b ≡ rect_of d → b ≡ d
one-box b d h k e = same-box b d h k (ap (λ a. a.value) (accepted-is b h) ∙ e ∙ sym (ap (λ a. a.value) (accepted-is d k)))

-- no two lists become one
pub same-boxes : (l m : List Bounds) → All Given l → All Given m → rects l ≡ rects m → l ≡ m
unfolding rects front rest
same-boxes [] [] g h e = refl
same-boxes [] (d ∷ m) g h e = absurd (omega (arith, ap length e))
same-boxes (b ∷ l) [] g h e = absurd (omega (arith, ap length e))
same-boxes (b ∷ l) (d ∷ m) g h e =
    let p = one-box b d g.0 h.0 (ap (front (rect_of b)) e) in
    let q = same-boxes l m g.1 h.1 (ap rest e) in
    λ i. p i ∷ q i

given-all : (l : List Bounds) → All Small (wholes l) → All Valid (rects l) → All (λ r. is_empty r ≡ false) (rects l) → All Given l
unfolding wholes rects
given-all [] s v n = tt
given-all (b ∷ l) s v n =
    (is-given b (record { west = s.1.1.0; south = s.0; east = s.1.1.1.0; north = s.1.0 }) v.0 n.0, given-all l s.1.1.1.1 v.1 n.1)

-- ---- the common boxes
module _ (l : List Bounds) (g : All Given l) where
  -- their rectangles are what is found of the rectangles
  pub rects-are : rects (common_boxes l) ≡ region (as_read_all (rects l))
  unfolding pieces_of
  rects-are = rects-back l g ∙ ap (λ (rs : List Rect). region (as_read_all rs)) (rects-of l)

  -- they are the common region
  pub common-boxes : CommonRegion (rects l) (rects (common_boxes l))
  common-boxes = subst (CommonRegion (rects l)) (sym rects-are) (listed-is (rects l) (valid-rects l g))

  -- each is a box that reading can give
  pub all-given : All Given (common_boxes l)
  all-given = given-all (common_boxes l) (small-back l g) common-boxes.valid common-boxes.non-empty

  -- and no other list of such boxes is the common region
  pub only-these : (m : List Bounds) → All Given m → CommonRegion (rects l) (rects m) → m ≡ common_boxes l
  only-these m h c = same-boxes m (common_boxes l) h all-given (unique (rects l) (rects m) (rects (common_boxes l)) c common-boxes)

  -- n boxes, n at least 1, have at most n
  pub at_most : 0 < length l → length (common_boxes l) ≤ length l
  at_most h =
      let n = length-rects l in
      omega (arith, n, length-rects (common_boxes l), ap length rects-are, laws.at_most (rects l) (valid-rects l g) (omega (arith, n, h)))

-- ---- order and repetition
abbrev pub Within : List Bounds → List Bounds → Type 0
Within l m = (b : Bounds) → Mem b l → Mem b m

mem-rects : {b : Bounds} (l : List Bounds) → Mem b l → Mem (rect_of b) (rects l)
unfolding rects
mem-rects {b = b} [] x = elim x [ ]
mem-rects (b ∷ l) first = first
mem-rects (b ∷ l) (later m) = later (mem-rects l m)

rects-mem : {r : Rect} (l : List Bounds) → Mem r (rects l) → (b : Bounds) × Mem b l × (rect_of b ≡ r)
unfolding rects
rects-mem [] m = no-mem _ m
rects-mem {r} (b ∷ l) m = go (cases m) (rects-mem l)
  where
    go : (r ≡ rect_of b) ⊎ Mem r (rects l) → (Mem r (rects l) → (d : Bounds) × Mem d l × (rect_of d ≡ r)) → (d : Bounds) × Mem d (b ∷ l) × (rect_of d ≡ r)
    go (inl e) k = (b, first, sym e)
    go (inr n) k = let (d, o, e) = k n in (d, later o, e)

within-rects : (l m : List Bounds) → Within l m → laws.Within (rects l) (rects m)
within-rects l m f r n = let (b, k, e) = rects-mem l n in subst (λ (o : Rect). Mem o (rects m)) e (mem-rects m (f b k))

-- lists that have the same boxes, in any order and however often, have the same common boxes
pub any_order : (l m : List Bounds) → All Given l → All Given m → Within l m → Within m l → common_boxes l ≡ common_boxes m
any_order l m g h a b =
    same-boxes (common_boxes l) (common_boxes m) (all-given l g) (all-given m h)
    (rects-are l g ∙ laws.same_entries (rects l) (rects m) (valid-rects l g) (valid-rects m h) (within-rects l m a) (within-rects m l b) ∙ sym (rects-are m h))
