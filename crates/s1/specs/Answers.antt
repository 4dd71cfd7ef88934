-- What each operation on circle intervals answers, for any numbers whatever: its refusal number (Reading.antt), and beside it what Circle.antt says of
-- the operands as they were read, or the result that document 01 states for a refusal. Definitions only.
use Rattle.std.specs.Prelude.{true, cond, ℕ, eqb, Float, Result, Ok, Err}
use Rattle.consts.specs.declared.refusal.Refusal.{Refusal}
use Rattle.consts.specs.declared.answer.YesNo.{YesNo}
use Rattle.consts.specs.declared.answer.Number.{Number}
use Rattle.consts.specs.Constants.{EPSILON}
use Rattle.consts.specs.Refusal.{number, accepted, bad_point, bad_margin, code, first_refusal, given}
use Rattle.consts.specs.Answer.{test, told}
use Rattle.consts.specs.Reading.{plain, read_number}
use Rattle.r1.specs.declared.interval.Interval.{Interval as Line}
use Rattle.r1.specs.declared.interval.Answer.{Answer as LineAnswer}
use Rattle.r1.specs.Answers.{interval as line_interval, interval_of as line_interval_of}
use Rattle.s1.specs.declared.interval.Interval.{Interval}
use Rattle.s1.specs.declared.interval.Answer.{Answer}
use Rattle.s1.specs.Reading.{read_one, read_ends, read_two, read_point, read_with_point, read_with_margin}
use Rattle.s1.specs.Circle as circle
use Rattle.s1.specs.Circle.{ends, EMPTY}

abbrev pub circle_answer : Interval → Answer
circle_answer i = record { refusal = number accepted; value = i }

-- a refused interval is EMPTY
abbrev pub empty_under : ℕ → Answer
empty_under n = record { refusal = n; value = EMPTY }

-- the answer that a result stands for
abbrev pub interval_of : Result Interval Refusal → Answer
interval_of (Ok i) = circle_answer i
interval_of (Err r) = empty_under (code r)

-- the same of a line interval
abbrev pub line_of : Result Line Refusal → LineAnswer
line_of r = line_interval_of r

-- the answer that growth's result stands for: refused for the point, it is the interval as it was handed in
abbrev pub grown_of : Interval → Result Interval Refusal → Answer
grown_of i (Ok o) = circle_answer o
grown_of i (Err r) = cond (eqb (code r) (number bad_point)) (record { refusal = code r; value = i }) (empty_under (code r))

-- the answer i, where the refusal number is 0
abbrev pub interval : ℕ → Interval → Answer
interval n i = given n (circle_answer i) (empty_under n)

-- ---- constructors and conversions
unfoldable pub «new» : Float → Float → Answer
«new» lo hi = let x = read_ends lo hi in interval x.refusal (circle.«new» x.value.lo x.value.hi)

unfoldable pub from_line : Line → Answer
from_line l = let x = read_one (ends l.lo l.hi) in interval x.refusal x.value

unfoldable pub to_line : Interval → LineAnswer
to_line i = let x = read_one i in line_interval x.refusal (record { lo = x.value.lo; hi = x.value.hi })

unfoldable pub positive_distance : Float → Float → Number
positive_distance a b =
    let x = read_point a in
    let y = read_point b in
    told (first_refusal x.refusal y.refusal) (plain (circle.positive_distance x.value y.value))

unfoldable pub from_point_pair : Float → Float → Answer
from_point_pair a b =
    let x = read_point a in
    let y = read_point b in
    interval (first_refusal x.refusal y.refusal) (circle.from_point_pair x.value y.value)

-- ---- an interval alone
-- an accepted validity test says yes
unfoldable pub is_valid : Interval → YesNo
is_valid i = test (read_one i).refusal true

unfoldable pub is_full : Interval → YesNo
is_full i = let x = read_one i in test x.refusal (circle.is_full x.value)

unfoldable pub is_empty : Interval → YesNo
is_empty i = let x = read_one i in test x.refusal (circle.is_empty x.value)

unfoldable pub is_inverted : Interval → YesNo
is_inverted i = let x = read_one i in test x.refusal (circle.is_inverted x.value)

unfoldable pub invert : Interval → Answer
invert i = let x = read_one i in interval x.refusal (circle.invert x.value)

unfoldable pub center : Interval → Number
center i = let x = read_one i in told x.refusal (circle.center x.value)

unfoldable pub len : Interval → Number
len i = let x = read_one i in told x.refusal (plain (circle.len x.value))

unfoldable pub complement : Interval → Answer
complement i = let x = read_one i in interval x.refusal (circle.complement x.value)

unfoldable pub complement_center : Interval → Number
complement_center i = let x = read_one i in told x.refusal (circle.complement_center x.value)

-- ---- an interval and a point, or a margin
unfoldable pub fast_contains : Interval → Float → YesNo
fast_contains i p = let x = read_with_point i p in test x.refusal (circle.fast_contains x.value x.number)

unfoldable pub contains : Interval → Float → YesNo
contains i p = let x = read_with_point i p in test x.refusal (circle.contains x.value x.number)

unfoldable pub interior_contains : Interval → Float → YesNo
interior_contains i p = let x = read_with_point i p in test x.refusal (circle.interior_contains x.value x.number)

unfoldable pub expanded : Interval → Float → Answer
expanded i m = let x = read_with_margin i m in interval x.refusal (circle.expanded x.value x.number)

-- growth by a point; refused with 3 it hands the interval back as it came
unfoldable pub add : Interval → Float → Answer
add i p =
    let x = read_one i in
    let y = read_point p in
    given x.refusal (given y.refusal (circle_answer (circle.add x.value y.value)) (record { refusal = y.refusal; value = i })) (empty_under x.refusal)

-- ---- two intervals
unfoldable pub contains_interval : Interval → Interval → YesNo
contains_interval i o = let x = read_two i o in test x.refusal (circle.contains_interval x.left x.right)

unfoldable pub interior_contains_interval : Interval → Interval → YesNo
interior_contains_interval i o = let x = read_two i o in test x.refusal (circle.interior_contains_interval x.left x.right)

unfoldable pub intersects : Interval → Interval → YesNo
intersects i o = let x = read_two i o in test x.refusal (circle.intersects x.left x.right)

unfoldable pub interior_intersects : Interval → Interval → YesNo
interior_intersects i o = let x = read_two i o in test x.refusal (circle.interior_intersects x.left x.right)

unfoldable pub eq : Interval → Interval → YesNo
eq i o = let x = read_two i o in test x.refusal (circle.eq x.left x.right)

unfoldable pub union : Interval → Interval → Answer
union i o = let x = read_two i o in interval x.refusal (circle.union x.left x.right)

unfoldable pub intersection : Interval → Interval → Answer
intersection i o = let x = read_two i o in interval x.refusal (circle.intersection x.left x.right)

unfoldable pub directed_hausdorff_distance : Interval → Interval → Number
directed_hausdorff_distance i o = let x = read_two i o in told x.refusal (circle.directed_hausdorff_distance x.left x.right)

unfoldable pub approx_eq : Interval → Interval → YesNo
approx_eq i o = let x = read_two i o in test x.refusal (circle.approx_eq_by x.left x.right EPSILON)

unfoldable pub approx_eq_by : Interval → Interval → Float → YesNo
approx_eq_by i o e =
    let x = read_two i o in
    let y = read_number e (number bad_margin) in
    test (first_refusal x.refusal y.refusal) (circle.approx_eq_by x.left x.right y.value)
