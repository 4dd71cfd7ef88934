-- What each operation on points and rectangles answers, for any numbers whatever: its refusal number (Reading.antt), and beside it what Zone.antt says
-- of the operands as they were read, or the result that document 01 states for a refusal. Definitions only.
use Rattle.std.specs.Prelude.{true, ◌||◌, cond, ℕ, eqb, Result, Ok, Err}
use Rattle.consts.specs.declared.refusal.Refusal.{Refusal}
use Rattle.consts.specs.declared.answer.YesNo.{YesNo}
use Rattle.consts.specs.Constants.{EPSILON}
use Rattle.consts.specs.Refusal.{number, accepted, bad_point, bad_list, code, first_refusal, given}
use Rattle.consts.specs.Answer.{ZERO, test}
use Rattle.s2.specs.declared.latlng.LatLng.{LatLng}
use Rattle.s2.specs.declared.rect.Rect.{Rect}
use Rattle.s2.specs.declared.rect.Answer.{Answer}
use Rattle.s2.specs.declared.rect.PointAnswer.{PointAnswer}
use Rattle.s2.specs.Reading.{read_one, read_two, read_point, read_margins, read_with_point, read_with_margins}
use Rattle.s2.specs.Zone as zone
use Rattle.s2.specs.Zone.{at, EMPTY}

abbrev pub rect_answer : Rect → Answer
rect_answer r = record { refusal = number accepted; value = r }

-- a refused rectangle is the standard empty
abbrev pub empty_under : ℕ → Answer
empty_under n = record { refusal = n; value = EMPTY }

-- the answer that a result stands for
abbrev pub rectangle_of : Result Rect Refusal → Answer
rectangle_of (Ok r) = rect_answer r
rectangle_of (Err w) = empty_under (code w)

-- the answer that growth's result stands for: refused for a point or for the list of them, it is the rectangle as it was handed in
abbrev pub grown_of : Rect → Result Rect Refusal → Answer
grown_of r (Ok o) = rect_answer o
grown_of r (Err w) = cond (eqb (code w) (number bad_point) || eqb (code w) (number bad_list)) (record { refusal = code w; value = r }) (empty_under (code w))

-- the answer r, where the refusal number is 0
abbrev pub rectangle : ℕ → Rect → Answer
rectangle n r = given n (rect_answer r) (empty_under n)

abbrev pub lat_lng_answer : LatLng → PointAnswer
lat_lng_answer p = record { refusal = number accepted; value = p }

-- a refused point is two zeros
abbrev pub zeros_under : ℕ → PointAnswer
zeros_under n = record { refusal = n; value = at ZERO ZERO }

-- the answer that a result stands for
abbrev pub point_of : Result LatLng Refusal → PointAnswer
point_of (Ok p) = lat_lng_answer p
point_of (Err w) = zeros_under (code w)

-- the answer p, where the refusal number is 0
abbrev pub point : ℕ → LatLng → PointAnswer
point n p = given n (lat_lng_answer p) (zeros_under n)

-- ---- a point
-- an accepted validity test says yes
unfoldable pub is_lat_lng : LatLng → YesNo
is_lat_lng p = test (read_point p).refusal true

-- ---- constructors
unfoldable pub from_lat_lng : LatLng → Answer
from_lat_lng p = let x = read_point p in rectangle x.refusal (zone.from_lat_lng x.value)

unfoldable pub from_center_size : LatLng → LatLng → Answer
from_center_size p s =
    let x = read_point p in
    let y = read_margins s in
    rectangle (first_refusal x.refusal y.refusal) (zone.from_center_size x.value y.value)

unfoldable pub from_point_pair : LatLng → LatLng → Answer
from_point_pair p q =
    let x = read_point p in
    let y = read_point q in
    rectangle (first_refusal x.refusal y.refusal) (zone.from_point_pair x.value y.value)

-- ---- a rectangle alone
-- an accepted validity test says yes
unfoldable pub is_valid : Rect → YesNo
is_valid r = test (read_one r).refusal true

unfoldable pub is_empty : Rect → YesNo
is_empty r = let x = read_one r in test x.refusal (zone.is_empty x.value)

unfoldable pub is_full : Rect → YesNo
is_full r = let x = read_one r in test x.refusal (zone.is_full x.value)

unfoldable pub is_point : Rect → YesNo
is_point r = let x = read_one r in test x.refusal (zone.is_point x.value)

unfoldable pub is_inverted : Rect → YesNo
is_inverted r = let x = read_one r in test x.refusal (zone.is_inverted x.value)

unfoldable pub vertex : Rect → ℕ → PointAnswer
vertex r n = let x = read_one r in point x.refusal (zone.vertex x.value n)

unfoldable pub center : Rect → PointAnswer
center r = let x = read_one r in point x.refusal (zone.center x.value)

unfoldable pub size : Rect → PointAnswer
size r = let x = read_one r in point x.refusal (zone.size x.value)

unfoldable pub polar_closure : Rect → Answer
polar_closure r = let x = read_one r in rectangle x.refusal (zone.polar_closure x.value)

-- ---- a rectangle and a point, or margins
unfoldable pub contains_lat_lng : Rect → LatLng → YesNo
contains_lat_lng r p = let x = read_with_point r p in test x.refusal (zone.contains_lat_lng x.value x.beside)

unfoldable pub interior_contains_lat_lng : Rect → LatLng → YesNo
interior_contains_lat_lng r p = let x = read_with_point r p in test x.refusal (zone.interior_contains_lat_lng x.value x.beside)

unfoldable pub expanded : Rect → LatLng → Answer
expanded r m = let x = read_with_margins r m in rectangle x.refusal (zone.expanded x.value x.beside)

-- growth by a point; refused with 3 it hands the rectangle back as it came
unfoldable pub add : Rect → LatLng → Answer
add r p =
    let x = read_one r in
    let y = read_point p in
    given x.refusal (given y.refusal (rect_answer (zone.add x.value y.value)) (record { refusal = y.refusal; value = r })) (empty_under x.refusal)

-- ---- two rectangles
unfoldable pub union : Rect → Rect → Answer
union r o = let x = read_two r o in rectangle x.refusal (zone.union x.left x.right)

unfoldable pub intersection : Rect → Rect → Answer
intersection r o = let x = read_two r o in rectangle x.refusal (zone.intersection x.left x.right)

unfoldable pub intersects : Rect → Rect → YesNo
intersects r o = let x = read_two r o in test x.refusal (zone.intersects x.left x.right)

unfoldable pub interior_intersects : Rect → Rect → YesNo
interior_intersects r o = let x = read_two r o in test x.refusal (zone.interior_intersects x.left x.right)

unfoldable pub contains : Rect → Rect → YesNo
contains r o = let x = read_two r o in test x.refusal (zone.contains x.left x.right)

unfoldable pub interior_contains : Rect → Rect → YesNo
interior_contains r o = let x = read_two r o in test x.refusal (zone.interior_contains x.left x.right)

unfoldable pub eq : Rect → Rect → YesNo
eq r o = let x = read_two r o in test x.refusal (zone.eq x.left x.right)

unfoldable pub approx_eq : Rect → Rect → YesNo
approx_eq r o = let x = read_two r o in test x.refusal (zone.approx_eq_by x.left x.right (at EPSILON EPSILON))

unfoldable pub approx_eq_by : Rect → Rect → LatLng → YesNo
approx_eq_by r o e =
    let x = read_two r o in
    let y = read_margins e in
    test (first_refusal x.refusal y.refusal) (zone.approx_eq_by x.left x.right y.value)
