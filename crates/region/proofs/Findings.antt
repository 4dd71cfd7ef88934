-- What is found of a list of numbers whose rectangles are accepted: they are valid, so their arcs have been read, and what the two kinds of them have in
-- common is what all have (the crate arcs). Assumes nothing.
use mathlib.Core.Path.{◌≡◌, sym, ap, ◌∙◌, subst}
use mathlib.Core.Bool.{Bool, true, false, cond}
use mathlib.Core.List.{List, [], ◌∷◌}
use Prim.Native.Nat.{ℕ}
use lib.ListN.{take, get_or}
use lib.Dec.{T}
use lib.Ieee.{Float, nan, binary64, fits}
use Rattle.r1.specs.declared.interval.Interval.{Interval as Line}
use Rattle.r1.specs.Line as line
use Rattle.s1.specs.declared.interval.Interval.{Interval}
use Rattle.s1.specs.Circle.{FULL}
use Rattle.lists.specs.Rects.{rects_of, as_read_all}
use Rattle.lists.specs.Refused.{first_refused}
use Rattle.lists.proofs.Doubles.{all_valid}
use Rattle.arcs.specs.CommonArcs.{AreRead}
use Rattle.arcs.specs.Clipping.{common}
use Rattle.arcs.specs.Kinds.{risen, met}
use Rattle.arcs.proofs.Rising.{kinds-read}
use Rattle.arcs.proofs.Laws.{two-kinds}
use Rattle.region.specs.declared.reading.Arcs.{Arcs}
use Rattle.region.specs.Region.{lngs, across, region}
use Rattle.region.specs.Answers.{pieces_of}
use Rattle.region.specs.Inside.{IsArcs}
use Rattle.region.proofs.Listed.{arcs-read}

module _ (l : List Float) (a : Arcs) (d : List Interval) (i : IsArcs l a d) (r : first_refused (rects_of l) ≡ 0) where
  abbrev arcs : List Interval
  arcs = lngs (as_read_all (rects_of l))

  -- the pieces, by whether the band is empty
  by-band : (t : Bool) → line.is_empty a.lat ≡ t → pieces_of l ≡ cond t [] (across a.lat (common arcs))
  unfolding pieces_of region
  by-band t e =
      ap (λ (b : Line). cond (line.is_empty b) [] (across b (common arcs))) (sym i.lat-is) ∙ ap (λ (t : Bool). cond t [] (across a.lat (common arcs))) e

  pub none_found : line.is_empty a.lat ≡ true → across a.lat [] ≡ pieces_of l
  unfolding across
  none_found e = sym (by-band true e)

  pub some-found : ((k : ℕ) → T (fits binary64 (get_or l k nan))) → line.is_empty a.lat ≡ false → (found : List Interval) → found ≡ met a.lng (take a.count d) → across a.lat found ≡ pieces_of l
  some-found doubles e found h =
      ap (across a.lat) (h ∙ ap (λ (x : Interval). met x (take a.count d)) i.lng-is ∙ ap (met (risen FULL arcs)) i.is ∙ two-kinds arcs (read doubles))
      ∙ sym (by-band false e)
    where
      read : ((k : ℕ) → T (fits binary64 (get_or l k nan))) → AreRead arcs
      read doubles = arcs-read (rects_of l) (all_valid l doubles r)

  -- the two kinds have been read too
  pub both_read : ((k : ℕ) → T (fits binary64 (get_or l k nan))) → AreRead (a.lng ∷ take a.count d)
  both_read doubles =
      subst (λ (x : Interval). AreRead (x ∷ take a.count d)) (sym i.lng-is)
      (subst (λ (m : List Interval). AreRead (risen FULL arcs ∷ m)) (sym i.is) (kinds-read arcs (arcs-read (rects_of l) (all_valid l doubles r))))
