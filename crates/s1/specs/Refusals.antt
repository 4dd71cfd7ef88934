-- What the promises say of refusals (proofs/Promises.antt): the reasons of document 01's numbers, that a number is given exactly when its reason stands, and
-- what stands beside it. Definitions only.
use Rattle.std.specs.Prelude.{◌≡◌, true, false, ◌&&◌, ◌⊎◌, ◌↔◌, ℕ, Float}
use Rattle.consts.specs.declared.answer.YesNo.{YesNo}
use Rattle.consts.specs.declared.answer.Number.{Number}
use Rattle.consts.specs.Refusal.{number, accepted, out_of_reach, bad_circle, bad_point, bad_margin}
use Rattle.consts.specs.Answer.{no_under, zero_under}
use Rattle.consts.specs.Reading.{in_reach}
use Rattle.r1.specs.declared.interval.Answer.{Answer as LineAnswer}
use Rattle.r1.specs.Answers.{empty_under as line_empty_under}
use Rattle.s1.specs.declared.interval.Interval.{Interval}
use Rattle.s1.specs.declared.interval.Answer.{Answer}
use Rattle.s1.specs.Circle.{ends, is_valid}
use Rattle.s1.specs.Reading.{on_circle}
use Rattle.s1.specs.Answers.{empty_under}

-- ---- the reasons
-- both numbers are in reach, or one is not
abbrev pub Reach : Interval → Type 0
Reach i = in_reach i.lo && in_reach i.hi ≡ true

abbrev pub Out : Interval → Type 0
Out i = in_reach i.lo && in_reach i.hi ≡ false

-- in reach and valid, or in reach but not valid
abbrev pub Fine : Interval → Type 0
Fine i = Reach i × (is_valid i ≡ true)

abbrev pub Bad : Interval → Type 0
Bad i = Reach i × (is_valid i ≡ false)

-- the first of two intervals that is out of reach, or not valid, decides
abbrev pub OneOut : Interval → Interval → Type 0
OneOut i o = Out i ⊎ (Fine i × Out o)

abbrev pub OneBad : Interval → Interval → Type 0
OneBad i o = Bad i ⊎ (Fine i × Bad o)

-- both ends of an interval that is to be made are points of the circle, or they are in reach but not both points of it
abbrev pub EndsFine : Float → Float → Type 0
EndsFine lo hi = Reach (ends lo hi) × (on_circle lo && on_circle hi ≡ true)

abbrev pub EndsBad : Float → Float → Type 0
EndsBad lo hi = Reach (ends lo hi) × (on_circle lo && on_circle hi ≡ false)

-- ---- the numbers
-- the number n is 0 exactly when a stands, 1 exactly when b does, 22 when c, 3 when d, 4 when e
pub record Refusals (n : ℕ) (a b c d e : Type 0) : Type 0 where
  pub given-0 : (n ≡ number accepted) ↔ a
  pub given-1 : (n ≡ number out_of_reach) ↔ b
  pub given-22 : (n ≡ number bad_circle) ↔ c
  pub given-3 : (n ≡ number bad_point) ↔ d
  pub given-4 : (n ≡ number bad_margin) ↔ e

-- ---- what stands beside a number: the answer has the number n, and under any but 0 the result that document 01 states
pub record Says (n : ℕ) (a : YesNo) : Type 0 where
  pub number_is : a.refusal ≡ n
  pub no-beside : (n ≡ 0 → ⊥) → a ≡ no_under n

pub record Tells (n : ℕ) (a : Number) : Type 0 where
  pub number_is : a.refusal ≡ n
  pub zero-beside : (n ≡ 0 → ⊥) → a ≡ zero_under n

pub record Answers (n : ℕ) (a : Answer) : Type 0 where
  pub number_is : a.refusal ≡ n
  pub empty-beside : (n ≡ 0 → ⊥) → a ≡ empty_under n

pub record LineAnswers (n : ℕ) (a : LineAnswer) : Type 0 where
  pub number_is : a.refusal ≡ n
  pub empty-beside : (n ≡ 0 → ⊥) → a ≡ line_empty_under n
