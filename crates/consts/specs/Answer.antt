-- The answers that every layer gives, accepted and refused: a yes or no, and a number. Definitions only.
use Rattle.std.specs.Prelude.{◌≡◌, Bool, true, false, ◌↔◌, ℕ, Float, Result, Ok, Err}
use Rattle.std.specs.Float.{binary64}
use Rattle.std.specs.Float.Ieee.{of_bits}
use Rattle.consts.specs.declared.answer.YesNo.{YesNo}
use Rattle.consts.specs.declared.answer.Number.{Number}
use Rattle.consts.specs.declared.refusal.Refusal.{Refusal}
use Rattle.consts.specs.Refusal.{Reason, number, accepted, code, given, GivenExactly, GivenInTurn}

abbrev pub ZERO : Float
ZERO = of_bits binary64 0

abbrev pub yes_no : Bool → YesNo
yes_no b = record { refusal = number accepted; value = b }

-- a refused test says no
abbrev pub no_under : ℕ → YesNo
no_under n = record { refusal = n; value = false }

abbrev pub number_answer : Float → Number
number_answer x = record { refusal = number accepted; value = x }

-- a refused number is zero
abbrev pub zero_under : ℕ → Number
zero_under n = record { refusal = n; value = ZERO }

-- the answer that a result stands for
abbrev pub yes_no_of : Result Bool Refusal → YesNo
yes_no_of (Ok b) = yes_no b
yes_no_of (Err r) = no_under (code r)

abbrev pub number_of : Result Float Refusal → Number
number_of (Ok x) = number_answer x
number_of (Err r) = zero_under (code r)

-- the answer b, where the refusal number is 0
abbrev pub test : ℕ → Bool → YesNo
test n b = given n (yes_no b) (no_under n)

-- the answer x, where the refusal number is 0
abbrev pub told : ℕ → Float → Number
told n x = given n (number_answer x) (zero_under n)

-- the test is accepted, and says yes exactly when P holds
pub record Decides (a : YesNo) (P : Type 0) : Type 0 where
  pub accept : a.refusal ≡ number accepted
  pub exactly : (a.value ≡ true) ↔ P

-- the test is refused for the reason r, and says no, exactly when P; or for r when P, and then for s when Q
abbrev pub NoExactly : YesNo → Reason → Type 0 → Type 0
NoExactly a r P = GivenExactly (λ (y : YesNo). y.refusal) a (no_under (number r)) P

abbrev pub NoInTurn : YesNo → Reason → Type 0 → Reason → Type 0 → Type 0
NoInTurn a r P s Q = GivenInTurn (λ (y : YesNo). y.refusal) a (no_under (number r)) (no_under (number s)) P Q

-- the same of a number, which is then zero
abbrev pub ZeroExactly : Number → Reason → Type 0 → Type 0
ZeroExactly a r P = GivenExactly (λ (y : Number). y.refusal) a (zero_under (number r)) P

abbrev pub ZeroInTurn : Number → Reason → Type 0 → Reason → Type 0 → Type 0
ZeroInTurn a r P s Q = GivenInTurn (λ (y : Number). y.refusal) a (zero_under (number r)) (zero_under (number s)) P Q
