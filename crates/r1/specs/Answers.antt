-- What each operation on line intervals answers, for any numbers whatever: its refusal number (Reading.antt), and beside it what Line.antt says of
-- the operands as they were read, or the result that document 01 states for a refusal. Definitions only.
use Rattle.std.specs.Prelude.{◌≡◌, cond, ℕ, eqb, Float, Result, Ok, Err}
use Rattle.consts.specs.declared.refusal.Refusal.{Refusal}
use Rattle.consts.specs.declared.answer.YesNo.{YesNo}
use Rattle.consts.specs.declared.answer.Number.{Number}
use Rattle.consts.specs.Constants.{EPSILON}
use Rattle.consts.specs.Refusal.{Reason, number, accepted, bad_point, bad_margin, code, first_refusal, given, GivenExactly, GivenInTurn}
use Rattle.consts.specs.Answer.{ZERO, test, told}
use Rattle.consts.specs.Reading.{read_number}
use Rattle.r1.specs.declared.interval.Interval.{Interval}
use Rattle.r1.specs.declared.interval.Answer.{Answer}
use Rattle.r1.specs.declared.interval.Distance.{Distance}
use Rattle.r1.specs.declared.interval.Distance.TheVariants.{Of}
use Rattle.r1.specs.Reading.{read_one, read_two, read_with}
use Rattle.r1.specs.Line as line
use Rattle.r1.specs.Line.{ends, EMPTY}

abbrev pub line_answer : Interval → Answer
line_answer i = record { refusal = number accepted; value = i }

-- a refused interval is the standard empty
abbrev pub empty_under : ℕ → Answer
empty_under n = record { refusal = n; value = EMPTY }

-- the answer that a result stands for
abbrev pub interval_of : Result Interval Refusal → Answer
interval_of (Ok i) = line_answer i
interval_of (Err r) = empty_under (code r)

-- the answer that growth's result stands for: refused for the point, it is the interval as it was handed in
abbrev pub grown_of : Interval → Result Interval Refusal → Answer
grown_of i (Ok o) = line_answer o
grown_of i (Err r) = cond (eqb (code r) (number bad_point)) (record { refusal = code r; value = i }) (empty_under (code r))

-- the answer i, where the refusal number is 0
abbrev pub interval : ℕ → Interval → Answer
interval n i = given n (line_answer i) (empty_under n)

-- the interval is refused for the reason r, and is then the standard empty, exactly when P
abbrev pub EmptyExactly : Answer → Reason → Type 0 → Type 0
EmptyExactly a r P = GivenExactly (λ (y : Answer). y.refusal) a (empty_under (number r)) P

-- or for r when P, and then for s when Q
abbrev pub EmptyInTurn : Answer → Reason → Type 0 → Reason → Type 0 → Type 0
EmptyInTurn a r P s Q = GivenInTurn (λ (y : Answer). y.refusal) a (empty_under (number r)) (empty_under (number s)) P Q

-- ---- constructors
unfoldable pub «new» : Float → Float → Answer
«new» lo hi = let x = read_one (ends lo hi) in interval x.refusal x.value

unfoldable pub from_point : Float → Answer
from_point p = let x = read_number p (number bad_point) in interval x.refusal (ends x.value x.value)

unfoldable pub from_point_pair : Float → Float → Answer
from_point_pair p q =
    let x = read_number p (number bad_point) in
    let y = read_number q (number bad_point) in
    interval (first_refusal x.refusal y.refusal) (line.from_point_pair x.value y.value)

-- ---- an interval alone
unfoldable pub is_empty : Interval → YesNo
is_empty i = let x = read_one i in test x.refusal (line.is_empty x.value)

unfoldable pub center : Interval → Number
center i = let x = read_one i in told x.refusal (line.center x.value)

unfoldable pub len : Interval → Number
len i = let x = read_one i in told x.refusal (line.len x.value)

-- ---- an interval and a point, or a margin
unfoldable pub contains : Interval → Float → YesNo
contains i p = let x = read_with i p (number bad_point) in test x.refusal (line.contains x.value x.number)

unfoldable pub interior_contains : Interval → Float → YesNo
interior_contains i p = let x = read_with i p (number bad_point) in test x.refusal (line.interior_contains x.value x.number)

unfoldable pub clamp_point : Interval → Float → Number
clamp_point i p = let x = read_with i p (number bad_point) in told x.refusal (line.clamp_point x.value x.number)

unfoldable pub expanded : Interval → Float → Answer
expanded i m = let x = read_with i m (number bad_margin) in interval x.refusal (line.expanded x.value x.number)

-- growth by a point; refused with 3 it hands the interval back as it came
unfoldable pub add : Interval → Float → Answer
add i p =
    let x = read_one i in
    let y = read_number p (number bad_point) in
    given x.refusal (given y.refusal (line_answer (line.add x.value y.value)) (record { refusal = y.refusal; value = i })) (empty_under x.refusal)

-- ---- two intervals
unfoldable pub contains_interval : Interval → Interval → YesNo
contains_interval i o = let x = read_two i o in test x.refusal (line.contains_interval x.left x.right)

unfoldable pub interior_contains_interval : Interval → Interval → YesNo
interior_contains_interval i o = let x = read_two i o in test x.refusal (line.interior_contains_interval x.left x.right)

unfoldable pub intersects : Interval → Interval → YesNo
intersects i o = let x = read_two i o in test x.refusal (line.intersects x.left x.right)

unfoldable pub interior_intersects : Interval → Interval → YesNo
interior_intersects i o = let x = read_two i o in test x.refusal (line.interior_intersects x.left x.right)

unfoldable pub eq : Interval → Interval → YesNo
eq i o = let x = read_two i o in test x.refusal (line.eq x.left x.right)

unfoldable pub intersection : Interval → Interval → Answer
intersection i o = let x = read_two i o in interval x.refusal (line.intersection x.left x.right)

unfoldable pub union : Interval → Interval → Answer
union i o = let x = read_two i o in interval x.refusal (line.union x.left x.right)

unfoldable pub approx_eq : Interval → Interval → YesNo
approx_eq i o = let x = read_two i o in test x.refusal (line.approx_eq_by x.left x.right EPSILON)

unfoldable pub approx_eq_by : Interval → Interval → Float → YesNo
approx_eq_by i o e =
    let x = read_two i o in
    let y = read_number e (number bad_margin) in
    test (first_refusal x.refusal y.refusal) (line.approx_eq_by x.left x.right y.value)

-- a distance as an answer
pub record Hausdorff : Type 0 where
  pub refusal : ℕ
  pub value : Distance

abbrev pub distance_answer : Distance → Hausdorff
distance_answer d = record { refusal = number accepted; value = d }

-- a refused distance is zero
abbrev pub zero_distance : ℕ → Hausdorff
zero_distance n = record { refusal = n; value = Of ZERO }

-- the answer that a result stands for
abbrev pub distance_answer_of : Result Distance Refusal → Hausdorff
distance_answer_of (Ok d) = distance_answer d
distance_answer_of (Err r) = zero_distance (code r)

-- the case that is answered, with its refusal number
unfoldable pub directed_hausdorff_distance : Interval → Interval → Hausdorff
directed_hausdorff_distance i o = let x = read_two i o in given x.refusal (distance_answer (line.directed_hausdorff_distance x.left x.right)) (zero_distance x.refusal)

-- document 01's number and value for an answer, each case of it
abbrev pub hausdorff_number : Hausdorff → Number
hausdorff_number a = record { refusal = a.refusal; value = line.distance_of a.value }

-- the answer, and that its number and value are the crate's, infinity for Unbounded
pub record IsHausdorff (i o : Interval) (a : Hausdorff) : Type 0 where
  pub answer : a ≡ directed_hausdorff_distance i o
  pub meaning : hausdorff_number a ≡ told (read_two i o).refusal (line.farthest (read_two i o).left (read_two i o).right)
