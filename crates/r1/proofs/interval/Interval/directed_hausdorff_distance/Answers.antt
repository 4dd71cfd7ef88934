-- `r1::interval::Interval::directed_hausdorff_distance`: the answer is the definition's; what it means is the law of Distances. Assumes nothing.
use mathlib.Core.Path.{◌≡◌}
use Rattle.std.proofs.Common.{rules, arith}
use Rattle.consts.proofs.Codes.{code_refuses}
use Rattle.consts.specs.Refusal.{first_refusal}
use Rattle.r1.specs.Answers.{directed_hausdorff_distance, distance_answer_of, distance_answer}
use Rattle.r1.specs.Reading.{read_two}
use Rattle.r1.proofs.Distances.{hausdorff-is}
use Rattle.r1.proofs.interval.Interval.directed_hausdorff_distance.Goals as goal

pub returns-in_err-read_one : goal.returns-in_err-read_one
unfolding directed_hausdorff_distance read_two first_refusal
returns-in_err-read_one c = hausdorff-is _ _ _ (grind (arith, code_refuses))

pub returns-in_err-read_one-2 : goal.returns-in_err-read_one-2
unfolding directed_hausdorff_distance read_two first_refusal
returns-in_err-read_one-2 c = hausdorff-is _ _ _ (grind (arith, code_refuses))

pub returns : goal.returns
unfolding directed_hausdorff_distance read_two first_refusal
returns c = hausdorff-is _ _ _ (grind (arith, code_refuses))
