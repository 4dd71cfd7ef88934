-- The words of document 01's "Refusal numbers", and of document 02's T-02, for points and rectangles: what an operand is found to be, and what it is that a number is "given exactly
-- when" it is so, of each operation of a kind. Definitions only; the laws are in proofs/Refusals.antt.
use Rattle.std.specs.Prelude.{◌≡◌, Bool, true, not, ◌&&◌, ◌↔◌, ℕ}
use Rattle.consts.specs.declared.answer.YesNo.{YesNo}
use Rattle.consts.specs.Refusal.{number, out_of_reach, bad_latitude, bad_circle, half_empty}
use Rattle.consts.specs.Answer.{no_under}
use Rattle.consts.specs.Reading.{in_reach}
use Rattle.s1.specs.Circle as circle
use Rattle.s2.specs.declared.latlng.LatLng.{LatLng}
use Rattle.s2.specs.declared.rect.Rect.{Rect}
use Rattle.s2.specs.declared.rect.Answer.{Answer}
use Rattle.s2.specs.declared.rect.PointAnswer.{PointAnswer}
use Rattle.s2.specs.Zone as zone
use Rattle.s2.specs.Reading.{rect_in_reach}
use Rattle.s2.specs.Answers.{empty_under, zeros_under, is_valid, is_empty, is_full, is_point, is_inverted, vertex, center, size, polar_closure, union, intersection, intersects, interior_intersects, contains, interior_contains, eq, approx_eq, contains_lat_lng, interior_contains_lat_lng}

-- ---- an operand
-- "a rectangle has a number out of reach"
abbrev pub beyond : Rect → Bool
beyond r = not (rect_in_reach r)

-- "numbers in reach, but not valid"
abbrev pub faulty : Rect → Bool
faulty r = rect_in_reach r && not (zone.is_valid r)

-- why it is not valid, each where none before it is so: "latitude over its range"; "circle interval not valid"; "one part empty, the other not"
abbrev pub over_latitude : Rect → Bool
over_latitude r = rect_in_reach r && not (zone.valid_latitudes r.lat)

abbrev pub wrong_circle : Rect → Bool
wrong_circle r = rect_in_reach r && (zone.valid_latitudes r.lat && not (circle.is_valid r.lng))

abbrev pub unlike_parts : Rect → Bool
unlike_parts r = rect_in_reach r && (zone.valid_latitudes r.lat && (circle.is_valid r.lng && not (zone.like_parts r)))

-- neither
abbrev pub sound : Rect → Bool
sound r = rect_in_reach r && zone.is_valid r

-- the numbers that a rectangle is refused with, each with its reason
pub data RectReason : ℕ → (Rect → Bool) → Type 0 where
  of-reach : RectReason (number out_of_reach) beyond
  of-latitudes : RectReason (number bad_latitude) over_latitude
  of-circle : RectReason (number bad_circle) wrong_circle
  of_parts : RectReason (number half_empty) unlike_parts

-- margins, sizes or errors are in reach
abbrev pub margins_in_reach : LatLng → Bool
margins_in_reach m = in_reach m.lat && in_reach m.lng

-- ---- "given exactly when"
-- the answer's number is n exactly when the test says so; and then, where n is a refusal, the answer is the one stated beside n
pub record Exactly {A : Type 0} (number_of : A → ℕ) (answer stated : A) (n : ℕ) (test : Bool) : Type 0 where
  pub exactly : (number_of answer ≡ n) ↔ (test ≡ true)
  pub result : (n ≡ 0 → ⊥) → test ≡ true → answer ≡ stated

-- the stated answer: no, the standard empty, zeros, or the rectangle handed in
abbrev pub SaysNo : YesNo → ℕ → Bool → Type 0
SaysNo a n t = Exactly (λ (x : YesNo). x.refusal) a (no_under n) n t

abbrev pub GivesEmpty : Answer → ℕ → Bool → Type 0
GivesEmpty a n t = Exactly (λ (x : Answer). x.refusal) a (empty_under n) n t

abbrev pub GivesZeros : PointAnswer → ℕ → Bool → Type 0
GivesZeros a n t = Exactly (λ (x : PointAnswer). x.refusal) a (zeros_under n) n t

abbrev pub GivesBack : Rect → Answer → ℕ → Bool → Type 0
GivesBack r a n t = Exactly (λ (x : Answer). x.refusal) a (record { refusal = n; value = r }) n t

-- ---- the operations by what they take
-- a rectangle alone; k is the vertex's number
abbrev pub Alone : Rect → ℕ → ℕ → Bool → Type 0
Alone r k n t =
    SaysNo (is_valid r) n t × SaysNo (is_empty r) n t × SaysNo (is_full r) n t × SaysNo (is_point r) n t × SaysNo (is_inverted r) n t
    × GivesZeros (vertex r k) n t × GivesZeros (center r) n t × GivesZeros (size r) n t × GivesEmpty (polar_closure r) n t

-- two rectangles
abbrev pub Both : Rect → Rect → ℕ → Bool → Type 0
Both r o n t =
    GivesEmpty (union r o) n t × GivesEmpty (intersection r o) n t × SaysNo (intersects r o) n t × SaysNo (interior_intersects r o) n t
    × SaysNo (contains r o) n t × SaysNo (interior_contains r o) n t × SaysNo (eq r o) n t × SaysNo (approx_eq r o) n t

-- a rectangle and a point
abbrev pub WithPoint : Rect → LatLng → ℕ → Bool → Type 0
WithPoint r p n t = SaysNo (contains_lat_lng r p) n t × SaysNo (interior_contains_lat_lng r p) n t
