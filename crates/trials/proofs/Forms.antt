-- The tests and choices of circle intervals (the crate s1, specs/Circle.antt and specs/Places.antt) over any comparisons, with the two ends of the range. At the comparisons of doubles
-- each is its definition, by computation; at those of whole numbers Trials tries it. Devices of the proofs: nothing here needs to be believed.
use mathlib.Core.Bool.{Bool, false, not, ◌&&◌, ◌||◌, cond}

-- ---- the tests
module _ {A : Type 0} (lt le eq : A → A → Bool) (NEG PI : A) where
  abbrev pub full_g : A → A → Bool
  full_g lo hi = eq lo NEG && eq hi PI

  abbrev pub empty_g : A → A → Bool
  empty_g lo hi = eq lo PI && eq hi NEG

  -- both ends of size at most PI; lo is -PI only in FULL; hi is -PI only in EMPTY
  abbrev pub valid_g : A → A → Bool
  valid_g lo hi =
      le NEG lo && le lo PI && le NEG hi && le hi PI && not (eq lo NEG && not (eq hi PI)) && not (eq hi NEG && not (eq lo PI))

  abbrev pub fast_g : A → A → A → Bool
  fast_g lo hi p = cond (lt hi lo) ((le lo p || le p hi) && not (empty_g lo hi)) (le lo p && le p hi)

  abbrev pub covers_g : A → A → A → A → Bool
  covers_g a b c d =
      cond (lt b a)
      (cond (lt d c) (le a c && le d b) ((le a c || le d b) && not (empty_g a b)))
      (cond (lt d c) (full_g a b || empty_g c d) (le a c && le d b))

  abbrev pub strictly_has_g : A → A → A → Bool
  strictly_has_g a b p = cond (lt b a) (lt a p || lt p b) ((lt a p && lt p b) || full_g a b)

  abbrev pub strictly_covers_g : A → A → A → A → Bool
  strictly_covers_g a b c d =
      cond (lt b a)
      (cond (lt d c) ((lt a c && lt d b) || empty_g c d) (lt a c || lt d b))
      (cond (lt d c) (full_g a b || empty_g c d) ((lt a c && lt d b) || full_g a b))

  abbrev pub meets_g : A → A → A → A → Bool
  meets_g a b c d =
      cond (empty_g a b || empty_g c d) false
      (cond (lt b a)
      (lt d c || le c b || le a d)
      (cond (lt d c) (le c b || le a d) (le c b && le a d)))

  abbrev pub strictly_meets_g : A → A → A → A → Bool
  strictly_meets_g a b c d =
      cond (empty_g a b || empty_g c d || eq a b) false
      (cond (lt b a)
      (lt d c || lt c b || lt a d)
      (cond (lt d c) (lt c b || lt a d) ((lt c b && lt a d) || full_g a b)))

  -- ---- places
  -- a double above -PI up to PI; the gap just above a double from -PI on and below PI
  abbrev pub place_g : A → Bool → Bool
  place_g at gap = cond gap (le NEG at && lt at PI) (lt NEG at && le at PI)

  -- the place is met going east from lo to hi, ends included; the gap above hi is not. Where lo > hi the way leads over the seam; EMPTY holds none
  abbrev pub holds_g : A → A → A → Bool → Bool
  holds_g lo hi at gap =
      let below = cond gap (lt at hi) (le at hi) in
      cond (lt hi lo) ((le lo at || below) && not (empty_g lo hi)) (le lo at && below)

  -- it is held and is neither end; FULL has no ends
  abbrev pub strict_g : A → A → A → Bool → Bool
  strict_g lo hi at gap = holds_g lo hi at gap && (gap || not (eq at lo || eq at hi) || full_g lo hi)

-- the ends that are chosen, handed to k. `near` is the test that float arithmetic decides: which gap, or which operand, is the shorter
module _ {A X : Type 0} (lt le eq : A → A → Bool) (NEG PI : A) (near : Bool) (a b : A) (k : A → A → X) where
  module _ (c d : A) where
    abbrev pub hull_g : X
    hull_g =
        cond (empty_g lt le eq NEG PI c d) (k a b)
        (cond (fast_g lt le eq NEG PI a b c)
        (cond (fast_g lt le eq NEG PI a b d) (cond (covers_g lt le eq NEG PI a b c d) (k a b) (k NEG PI)) (k a d))
        (cond (fast_g lt le eq NEG PI a b d) (k c b)
        (cond (empty_g lt le eq NEG PI a b || fast_g lt le eq NEG PI c d a) (k c d)
        (cond near (k c b) (k a d)))))

    abbrev pub overlap_g : X
    overlap_g =
        cond (empty_g lt le eq NEG PI c d) (k PI NEG)
        (cond (fast_g lt le eq NEG PI a b c)
        (cond (fast_g lt le eq NEG PI a b d) (cond near (k c d) (k a b)) (k c b))
        (cond (fast_g lt le eq NEG PI a b d) (k a d)
        (cond (fast_g lt le eq NEG PI c d a) (k a b) (k PI NEG))))

  -- growth by p, which is no -PI
  abbrev pub grown_g : A → X
  grown_g p = cond (fast_g lt le eq NEG PI a b p) (k a b) (cond (empty_g lt le eq NEG PI a b) (k p p) (cond near (k p b) (k a p)))
