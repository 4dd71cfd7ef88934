-- The answers within the limits: accepted, and Line's definition of the operands as they are read. Assumes nothing.
use mathlib.Core.Path.{◌≡◌, refl, ◌∙◌}
use mathlib.Core.Bool.{Bool, true, false, cond}
use lib.Ieee.{Float}
use Rattle.consts.specs.Refusal.{number, out_of_reach, bad_point, first_refusal, given}
use Rattle.consts.specs.Answer.{number_answer}
use Rattle.consts.specs.Reading.{in_reach, plain, read_number}
use Rattle.consts.proofs.Readings.{read-in}
use Rattle.r1.specs.declared.interval.Interval.{Interval}
use Rattle.r1.specs.Line as line
use Rattle.r1.specs.Reading.{plain_ends, read_one}
use Rattle.r1.specs.Answers.{line_answer, empty_under, clamp_point, intersection, union, from_point_pair, add}
use Rattle.r1.specs.Places.{Place, InReach}
use Rattle.r1.proofs.Readings.{two_in, with_in, both_in}

module _ (i o : Interval) (v : InReach i) (w : InReach o) where
  pub union-is : union i o ≡ line_answer (line.union (plain_ends i) (plain_ends o))
  unfolding union
  union-is = simp (two_in i v o w)

  pub intersection-is : intersection i o ≡ line_answer (line.intersection (plain_ends i) (plain_ends o))
  unfolding intersection
  intersection-is = simp (two_in i v o w)

pub clamp-is : (i : Interval) (x : Float) → InReach i → Place x → clamp_point i x ≡ number_answer (line.clamp_point (plain_ends i) (plain x))
unfolding clamp_point
clamp-is i x v q = simp (with_in i v x (number bad_point) q.in-reach)

-- growth, by its two tests
pub add-chosen : (i : Interval) (x : Float)
    → add i x ≡ cond (both_in i) (cond (in_reach x) (line_answer (line.add (plain_ends i) (plain x))) (record { refusal = number bad_point; value = i })) (empty_under (number out_of_reach))
unfolding add read_one read_number
add-chosen i x = go (both_in i) (in_reach x)
  where
    go : (t u : Bool)
        → given (cond t 0 1) (given (cond u 0 3) (line_answer (line.add (plain_ends i) (plain x))) (record { refusal = cond u 0 3; value = i })) (empty_under (cond t 0 1))
        ≡ cond t (cond u (line_answer (line.add (plain_ends i) (plain x))) (record { refusal = 3; value = i })) (empty_under 1)
    go true true = refl
    go true false = refl
    go false u = refl

pub add_is : (i : Interval) (x : Float) → InReach i → Place x → add i x ≡ line_answer (line.add (plain_ends i) (plain x))
add_is i x v q = add-chosen i x ∙ simp (v.lo-place.in-reach, v.hi-place.in-reach, q.in-reach)

pub pair_is : (x y : Float) → Place x → Place y → from_point_pair x y ≡ line_answer (line.from_point_pair (plain x) (plain y))
unfolding from_point_pair first_refusal
pair_is x y q r = simp (read-in x (number bad_point) q.in-reach, read-in y (number bad_point) r.in-reach)
