-- The boxes that reading gives, in radians: what `common_region` reads of them are their rectangles, which it accepts, up to 512. Each is valid, and
-- s2 reads it as it stands (degrees). Assumes nothing.
use mathlib.Core.Path.{◌≡◌, refl, ap, ◌∙◌, subst}
use mathlib.Core.Bool.{true}
use mathlib.Core.List.{List, [], ◌∷◌}
use Prim.Native.Nat.{◌*◌, ◌%◌, ◌≤◌}
use native.Mathlib.Omega.{arith}
use borrow.Author.Tests.{le-leb, eq-eqb}
use lib.ListN.{length}
use lib.Ieee.{Float}
use Rattle.order.proofs.Ranks.{and-of}
use Rattle.consts.specs.Refusal.{number, accepted}
use Rattle.s2.specs.declared.rect.Rect.{Rect}
use Rattle.s2.specs.Reading.{One}
use Rattle.s2.specs.Places.{Valid}
use Rattle.s2.specs.Reading.{as_read, read_one}
use Rattle.entries.specs.Lists.{All, whole, whole_length}
use Rattle.lists.specs.Rects.{rects_of, as_read_all}
use Rattle.entries.specs.First.{first_number}
use Rattle.lists.specs.Refused.{of_rect, first_refused}
use Rattle.entries.proofs.FirstLaws.{passed}
use Rattle.bounds.specs.declared.bounds.Bounds.{Bounds}
use Rattle.degrees.specs.Degrees.{rect_of, to_rect}
use Rattle.degrees.proofs.Boxes.{accepted-is, is-valid, read_back}
use Rattle.box_lines.proofs.Radians.{length_radians}
use Rattle.box_lines.specs.Answers.{Given, rects, wholes, in_radians}

-- ---- one box
module _ (b : Bounds) (h : Given b) where
  own : (to_rect b).value ≡ rect_of b
  own = ap (λ a. a.value) (accepted-is b h)

  pub valid-rect : Valid (rect_of b)
  valid-rect = subst Valid own (is-valid b h)

  reads : read_one (rect_of b) ≡ record { refusal = number accepted; value = rect_of b }
  reads = subst (λ (r : Rect). read_one r ≡ record { refusal = number accepted; value = r }) own (read_back b h)

  pub as-read : as_read (rect_of b) ≡ rect_of b
  unfolding read_one
  as-read = ap (λ (o : One). o.value) reads

-- ---- a list of them
pub rects-of : (l : List Bounds) → rects_of (in_radians (wholes l)) ≡ rects l
unfolding wholes in_radians rects_of rects rect_of
rects-of [] = refl
rects-of (b ∷ l) = ap (λ (m : List Rect). rect_of b ∷ m) (rects-of l)

pub valid-rects : (l : List Bounds) → All Given l → All Valid (rects l)
unfolding rects
valid-rects [] g = tt
valid-rects (b ∷ l) g = (valid-rect b g.0, valid-rects l g.1)

-- each is read as it stands
pub as-read-all : (l : List Bounds) → All Given l → as_read_all (rects l) ≡ rects l
unfolding rects as_read_all
as-read-all [] g = refl
as-read-all (b ∷ l) g = λ i. as-read b g.0 i ∷ as-read-all l g.1 i

none-refused : (l : List Bounds) → All Given l → first_refused (rects l) ≡ number accepted
unfolding rects first_number
none-refused [] g = refl
none-refused (b ∷ l) g = passed of_rect (rect_of b) (rects l) (ap (λ (x : One). x.refusal) (reads b g.0)) ∙ none-refused l g.1

-- ---- four numbers a box
pub length-wholes : (l : List Bounds) → length (wholes l) ≡ 4 * length l
unfolding wholes
length-wholes [] = refl
length-wholes (b ∷ l) = omega (arith, length-wholes l)

pub length-numbers : (l : List Bounds) → length (in_radians (wholes l)) ≡ 4 * length l
length-numbers l = length_radians (wholes l) ∙ length-wholes l

-- ---- what `common_region` asks for
pub record Taken (l : List Bounds) : Type 0 where
  pub is_whole : whole 4 512 (in_radians (wholes l)) ≡ true
  pub none-refused : first_refused (rects_of (in_radians (wholes l))) ≡ number accepted
  pub four-each : length (in_radians (wholes l)) ≡ 4 * length l

pub taken : (l : List Bounds) → All Given l → length l ≤ 512 → Taken l
unfolding whole_length
taken l g h =
    let n = length-numbers l in
    let m : List Float = in_radians (wholes l) in
    record {
      is_whole = and-of (eq-eqb (length m % 4) 0 (omega (arith, n))) (le-leb (length m) 2048 (omega (arith, n, h)));
      none-refused = ap first_refused (rects-of l) ∙ none-refused l g;
      four-each = n;
    }
