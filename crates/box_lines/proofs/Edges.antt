-- No edge is new: whatever is so of the edges of rectangles, of the poles and of -PI and PI, is so of the edges of their common region, since finding it
-- only chooses among numbers. So each edge of the common region of boxes is the radians of an edge of a box or of the globe. Assumes nothing.
use mathlib.Core.Path.{◌≡◌, sym, ap, ◌∙◌, subst}
use mathlib.Core.Bool.{false, not, ◌&&◌, cond}
use mathlib.Core.List.{List, [], ◌∷◌}
use lib.Ieee.{Float}
use Rattle.consts.specs.Constants.{PI, NEG-PI}
use Rattle.r1.specs.declared.interval.Interval.{Interval as Line}
use Rattle.r1.specs.Line as line
use Rattle.r1.proofs.Ends.{intersection-ends}
use Rattle.s1.specs.declared.interval.Interval.{Interval as Circle}
use Rattle.s1.specs.Circle.{is_full, is_empty}
use Rattle.s1.specs.Places.{holds}
use Rattle.s1.proofs.Ends.{cond-is}
use Rattle.s2.specs.declared.rect.Rect.{Rect}
use Rattle.s2.specs.Zone.{NORTH, SOUTH, LATITUDES}
use Rattle.entries.specs.Lists.{All, Mem, first, later}
use Rattle.lists.specs.Rects.{as_read_all}
use Rattle.arcs.proofs.Pieces.{all_insert}
use Rattle.arcs.specs.Clipping.{before, sooner, cut, end_at, clip, whole, step, steps, common}
use Rattle.arcs.specs.CommonArcs.{some_holds}
use Rattle.region.specs.Region.{band_from, band, lngs, across, region}
use Rattle.region.specs.Answers.{pieces_of}
use Rattle.bounds.specs.declared.bounds.Bounds.{Bounds}
use Rattle.degrees.specs.Degrees.{rect_of}
use Rattle.degrees.proofs.Angles as angles
use Rattle.box_lines.specs.Answers.{Given, rects, GLOBE, wholes, in_radians}
use Rattle.box_lines.proofs.Taken.{rects-of, as-read-all}

-- ---- over any statement P of a number
module _ (P : Float → Type 0) where
  abbrev pub LatEnds : Line → Type 0
  LatEnds b = P b.lo × P b.hi

  abbrev pub LngEnds : Circle → Type 0
  LngEnds i = P i.lo × P i.hi

  pub record Edges (r : Rect) : Type 0 where
    pub lat : LatEnds r.lat
    pub lng : LngEnds r.lng

  -- ---- the arcs
  sooner-is : (s x y : Float) → P x → P y → P (sooner s x y)
  unfolding sooner
  sooner-is s x y p q = cond-is P (before s x y) p q

  cut-ends : (i : Circle) → LngEnds i → (l : List Circle) → All LngEnds l → All LngEnds (cut i l)
  unfolding cut
  cut-ends i e [] a = tt
  cut-ends i e (x ∷ l) a =
      let r = cut-ends i e l a.1 in
      cond-is (All LngEnds) (holds i x.lo false) ((a.0.0, sooner-is x.lo x.hi i.hi a.0.1 e.1), r) r

  end_is : (s e : Float) → P e → (l : List Circle) → All LngEnds l → P (end_at s e l)
  unfolding end_at
  end_is s e p [] a = p
  end_is s e p (x ∷ l) a = end_is s (cond (holds x s false) x.hi e) (cond-is P (holds x s false) a.0.1 p) l a.1

  clip-ends : (found : List Circle) (i : Circle) → All LngEnds found → LngEnds i → All LngEnds (clip found i)
  unfolding clip
  clip-ends found i a e =
      let c = cut-ends i e found a in
      cond-is (All LngEnds) (not (is_empty i) && some_holds found i.lo false)
      (all_insert LngEnds _ (cut i found) (e.0, sooner-is i.lo _ i.hi (end_is i.lo i.hi e.1 found a) e.1) c) c

  step-ends : (found : List Circle) (i : Circle) → All LngEnds found → LngEnds i → All LngEnds (step found i)
  unfolding step
  step-ends found i a e =
      cond-is (All LngEnds) (is_full i) a (cond-is (All LngEnds) (whole found) (cond-is (All LngEnds) (is_empty i) tt (e, tt)) (clip-ends found i a e))

  steps-ends : (found l : List Circle) → All LngEnds found → All LngEnds l → All LngEnds (steps found l)
  unfolding steps
  steps-ends found [] a b = a
  steps-ends found (i ∷ l) a b = steps-ends (step found i) l (step-ends found i a b.0) b.1

  pub common-ends : P NEG-PI → P PI → (arcs : List Circle) → All LngEnds arcs → All LngEnds (common arcs)
  unfolding common
  common-ends w e arcs a = steps-ends _ arcs ((w, e), tt) a

  -- ---- the band, and the rectangles
  band-ends : (b : Line) (rs : List Rect) → LatEnds b → All Edges rs → LatEnds (band_from b rs)
  unfolding band_from
  band-ends b [] e a = e
  band-ends b (r ∷ l) e a = band-ends (line.intersection b r.lat) l (intersection-ends P P b r.lat e a.0.lat) a.1

  lngs-ends : (rs : List Rect) → All Edges rs → All LngEnds (lngs rs)
  unfolding lngs
  lngs-ends [] a = tt
  lngs-ends (r ∷ l) a = (a.0.lng, lngs-ends l a.1)

  across-edges : (b : Line) → LatEnds b → (l : List Circle) → All LngEnds l → All Edges (across b l)
  unfolding across
  across-edges b e [] a = tt
  across-edges b e (i ∷ l) a = (record { lat = e; lng = a.0 }, across-edges b e l a.1)

  pub region-edges : P SOUTH → P NORTH → P NEG-PI → P PI → (rs : List Rect) → All Edges rs → All Edges (region rs)
  unfolding region
  region-edges s n w e rs a =
      cond-is (All Edges) (line.is_empty (band rs)) tt
      (across-edges (band rs) (band-ends LATITUDES rs (s, n) a) (common (lngs rs)) (common-ends w e (lngs rs) (lngs-ends rs a)))

  own-edges : (l : List Bounds) → ((x : Float) → Mem x (in_radians (wholes l)) → P x) → All Edges (rects l)
  unfolding wholes in_radians rects rect_of
  own-edges [] f = tt
  own-edges (b ∷ l) f = (
    record { lat = (f _ first, f _ (later first)); lng = (f _ (later (later first)), f _ (later (later (later first)))) },
    own-edges l (λ x m. f x (later (later (later (later m))))),
  )

-- ---- of boxes: what `common_region` finds, and that each edge is one of theirs
pub pieces-of : (l : List Bounds) → All Given l → pieces_of (in_radians (wholes l)) ≡ region (rects l)
unfolding pieces_of
pieces-of l g = ap (λ (rs : List Rect). region (as_read_all rs)) (rects-of l) ∙ ap region (as-read-all l g)

-- a number that stands in the radians of the boxes or of the globe
abbrev pub Listed : List Bounds → Float → Type 0
Listed l x = Mem x (in_radians (wholes (GLOBE ∷ l)))

globe : (l : List Bounds) → Listed l SOUTH × Listed l NORTH × Listed l NEG-PI × Listed l PI
unfolding wholes in_radians
globe l = (
  subst (Listed l) angles.south first,
  subst (Listed l) angles.north (later first),
  subst (Listed l) angles.west (later (later first)),
  subst (Listed l) angles.east (later (later (later first))),
)

pub pieces-edges : (l : List Bounds) → All Given l → All (Edges (Listed l)) (pieces_of (in_radians (wholes l)))
unfolding wholes in_radians
pieces-edges l g =
    let (s, n, w, e) = globe l in
    subst (All (Edges (Listed l))) (sym (pieces-of l g))
    (region-edges (Listed l) s n w e (rects l) (own-edges (Listed l) l (λ x m. later (later (later (later m))))))
