-- The line's Hausdorff answer: document 01's number and value of the case that is answered are the crate's, infinity standing for Unbounded.
-- Both definitions choose by the same two tests. Assumes nothing.
use mathlib.Core.Path.{◌≡◌, refl, sym, ap, ◌∙◌}
use mathlib.Core.Bool.{Bool, true, false, cond}
use Prim.Native.Nat.{ℕ}
use lib.Dec.{eqb}
use lib.Ieee.{Float, inf}
use Rattle.consts.specs.Answer.{ZERO, told}
use Rattle.r1.specs.declared.interval.Interval.{Interval}
use Rattle.r1.specs.Answers.{Hausdorff}
use Rattle.r1.specs.declared.interval.Distance.{Distance}
use Rattle.r1.specs.declared.interval.Distance.TheVariants.{Of, Unbounded}
use Rattle.r1.specs.Reading.{read_two}
use Rattle.r1.specs.Line as line
use Rattle.r1.specs.Line.{is_empty, farthest, distance_of}
use Rattle.r1.specs.Answers as answers
use Rattle.r1.specs.Answers.{hausdorff_number, IsHausdorff}

by_cases : (s t : Bool) (d : Float) → distance_of (cond s (Of ZERO) (cond t Unbounded (Of d))) ≡ cond s ZERO (cond t (inf false) d)
unfolding distance_of
by_cases true t d = refl
by_cases false true d = refl
by_cases false false d = refl

pub distance_is : (i o : Interval) → distance_of (line.directed_hausdorff_distance i o) ≡ farthest i o
unfolding line.directed_hausdorff_distance farthest
distance_is i o = by_cases (is_empty i) (is_empty o) _

number_is : (n : ℕ) (d : Distance) (x : Float) → distance_of d ≡ x
    → hausdorff_number (cond (eqb n 0) (record { refusal = 0; value = d }) (record { refusal = n; value = Of ZERO })) ≡ told n x
number_is n d x h = go (eqb n 0)
  where
    go : (t : Bool) → hausdorff_number (cond t (record { refusal = 0; value = d }) (record { refusal = n; value = Of ZERO })) ≡ cond t (record { refusal = 0; value = x }) (record { refusal = n; value = ZERO })
    go true = ap (λ (y : Float). record { refusal = 0; value = y }) h
    go false = unfold distance_of in refl

-- the answer that is this definition's means what the crate's number does
pub hausdorff-is : (i o : Interval) (a : Hausdorff) → a ≡ answers.directed_hausdorff_distance i o → IsHausdorff i o a
unfolding answers.directed_hausdorff_distance
hausdorff-is i o a h =
    record {
      answer = h;
      meaning = ap hausdorff_number h ∙ number_is (read_two i o).refusal _ _ (distance_is (read_two i o).left (read_two i o).right);
    }

-- two answers that the contract allows coincide
pub one-hausdorff : (i o : Interval) (a b : Hausdorff) → IsHausdorff i o a → IsHausdorff i o b → a ≡ b
one-hausdorff i o a b p q = p.answer ∙ sym q.answer
