-- The numbers that a circle interval is measured by, of the answers themselves: a length lies from -1 to 2 PI, a centre from -PI to PI, a distance going
-- east from 0 to 2 PI; and the two ends of the directed Hausdorff distance. (A length of -1 is no sign of EMPTY alone: docs/DIFFERENCES.md, F1.) Assumes nothing.
use mathlib.Core.Path.{◌≡◌, refl}
use mathlib.Core.Bool.{Bool, true, false}
use lib.Ieee.{Float, le}
use Rattle.order.proofs.Ranks.{and_l, and_r}
use Rattle.order.proofs.Bounds.{Between}
use Rattle.consts.specs.Constants.{PI, NEG-PI, TURN, NEG-ONE}
use Rattle.consts.specs.Answer.{ZERO, number_answer}
use Rattle.consts.specs.Refusal.{first_refusal}
use Rattle.consts.specs.Reading.{plain}
use Rattle.s1.specs.declared.interval.Interval.{Interval}
use Rattle.s1.specs.Reading.{plain_ends, on_circle}
use Rattle.s1.specs.Circle as circle
use Rattle.s1.specs.Circle.{contains_interval}
use Rattle.s1.specs.Answers as answers
use Rattle.s1.specs.Answers.{center, len, positive_distance}
use Rattle.s1.specs.Places.{Valid, Inside, Nothing}
use Rattle.s1.proofs.Readings.{valid-on}
use Rattle.s1.proofs.Limits.{OnCircle, circle-plain, valid-plain, one_in, two_in, read-point}
use Rattle.s1.proofs.Laws as laws
use Rattle.s1.proofs.Places.{inside-plain, plain-inside, nothing-plain}
use Rattle.s1.proofs.Margins.{on-circle, length-between, middle-between, plain-between}
use Rattle.s1.proofs.Distances.{distance-between}

-- a point of the circle lies from -PI to PI
point-between : (p : Float) → OnCircle p → Between NEG-PI PI p
unfolding on_circle
point-between p q = on-circle p q.is-double (and_l _ (le p PI) q.on-circle) (and_r (le NEG-PI p) _ q.on-circle)

module _ (i : Interval) (v : Valid i) where
  abbrev z : Valid (plain_ends i)
  z = valid-plain i v

  lo-between : Between NEG-PI PI (plain i.lo)
  lo-between = point-between (plain i.lo) (record { is-double = z.lo-double; on-circle = (valid-on (plain_ends i) z.is-valid).0 })

  hi-between : Between NEG-PI PI (plain i.hi)
  hi-between = point-between (plain i.hi) (record { is-double = z.hi-double; on-circle = (valid-on (plain_ends i) z.is-valid).1 })

  pub len-bounds : Between NEG-ONE TURN (len i).value
  unfolding len
  len-bounds = simp (one_in i v) (plain-between (length-between lo-between hi-between))

  pub center-bounds : Between NEG-PI PI (center i).value
  unfolding center
  center-bounds = simp (one_in i v) (middle-between lo-between hi-between)

pub distance-bounds : (a b : Float) → OnCircle a → OnCircle b → Between ZERO TURN (positive_distance a b).value
unfolding positive_distance first_refusal
distance-bounds a b q r =
    simp (read-point a q, read-point b r)
    (plain-between (distance-between (point-between (plain a) (circle-plain q)) (point-between (plain b) (circle-plain r))))

-- the directed Hausdorff distance of an interval within the other is 0; otherwise, where the other has no place, it is PI
module _ (i o : Interval) (v : Valid i) (w : Valid o) where
  abbrev x : Valid (plain_ends i)
  x = valid-plain i v

  abbrev y : Valid (plain_ends o)
  y = valid-plain o w

  pub hausdorff-inside : Inside o i → answers.directed_hausdorff_distance i o ≡ number_answer ZERO
  unfolding answers.directed_hausdorff_distance circle.directed_hausdorff_distance
  hausdorff-inside H = simp (two_in i o v w, (laws.contains-inside y x).1 (inside-plain w v H))

  pub hausdorff-empty : (Inside o i → ⊥) → Nothing o → answers.directed_hausdorff_distance i o ≡ number_answer PI
  unfolding answers.directed_hausdorff_distance circle.directed_hausdorff_distance
  hausdorff-empty H J =
      simp (two_in i o v w, not_covered (contains_interval (plain_ends o) (plain_ends i)) refl, (laws.empty-nothing y).1 (nothing-plain w J))
    where
      not_covered : (t : Bool) → contains_interval (plain_ends o) (plain_ends i) ≡ t → t ≡ false
      not_covered true h = absurd (H (plain-inside w v ((laws.contains-inside y x).0 h)))
      not_covered false h = refl
