-- Why a contract of the form "the answer is this function of the arguments" determines the answer: two answers that it allows are both equal to the same
-- thing, so they are equal. And why one that says so of the answer that a result stands for determines the result: no two results stand for one answer.
-- Assumes nothing.
use mathlib.Core.Path.{◌≡◌, refl, sym, ap, ◌∙◌}
use mathlib.Core.Bool.{Bool}
use Prim.Native.Nat.{ℕ}
use lib.Ieee.{Float}
use Rattle.std.specs.Prelude.{Result, Ok, Err, IfOk}
use Rattle.consts.specs.declared.refusal.Refusal.{Refusal}
use Rattle.consts.specs.declared.answer.YesNo.{YesNo}
use Rattle.consts.specs.declared.answer.Number.{Number}
use Rattle.consts.specs.Refusal.{refusal_of}
use Rattle.consts.specs.Answer.{yes_no_of, number_of}
use Rattle.consts.proofs.Codes.{refuses, same_code}

pub determined : {A : Type 0} (spec a b : A) → a ≡ spec → b ≡ spec → a ≡ b
determined spec a b p q = p ∙ sym q

-- ---- results: `answer` is what a result stands for, with the result's refusal number and, where it is accepted, its value
pub same_result : {A B : Type 0} (answer : Result A Refusal → B) (number : B → ℕ) (value : B → A)
    → ((x : Result A Refusal) → number (answer x) ≡ refusal_of x) → ((v : A) → value (answer (Ok v)) ≡ v)
    → (x y : Result A Refusal) → answer x ≡ answer y → x ≡ y
same_result answer number value n v (Ok a) (Ok b) e = ap Ok (sym (v a) ∙ ap value e ∙ v b)
same_result answer number value n v (Ok a) (Err s) e = absurd (refuses s (sym (n (Err s)) ∙ sym (ap number e) ∙ n (Ok a)))
same_result answer number value n v (Err r) (Ok b) e = absurd (refuses r (sym (n (Err r)) ∙ ap number e ∙ n (Ok b)))
same_result answer number value n v (Err r) (Err s) e = ap Err (same_code r s (sym (n (Err r)) ∙ ap number e ∙ n (Err s)))

-- an operand that is read under the number n, as w where it is accepted
pub same_reading : {A : Type 0} (n : ℕ) (w : A) (x y : Result A Refusal)
    → refusal_of x ≡ n → IfOk x (λ v. v ≡ w) → refusal_of y ≡ n → IfOk y (λ v. v ≡ w) → x ≡ y
same_reading n w (Ok a) (Ok b) e p f q = ap Ok (p ∙ sym q)
same_reading n w (Ok a) (Err s) e p f q = absurd (refuses s (f ∙ sym e))
same_reading n w (Err r) (Ok b) e p f q = absurd (refuses r (e ∙ sym f))
same_reading n w (Err r) (Err s) e p f q = ap Err (same_code r s (e ∙ sym f))

-- ---- a yes or no, and a number
pub yes_no_once : (x y : Result Bool Refusal) → yes_no_of x ≡ yes_no_of y → x ≡ y
yes_no_once = same_result yes_no_of (λ (a : YesNo). a.refusal) (λ (a : YesNo). a.value) number (λ v. refl)
  where
    number : (x : Result Bool Refusal) → (yes_no_of x).refusal ≡ refusal_of x
    number (Ok v) = refl
    number (Err r) = refl

pub number_once : (x y : Result Float Refusal) → number_of x ≡ number_of y → x ≡ y
number_once = same_result number_of (λ (a : Number). a.refusal) (λ (a : Number). a.value) number (λ v. refl)
  where
    number : (x : Result Float Refusal) → (number_of x).refusal ≡ refusal_of x
    number (Ok v) = refl
    number (Err r) = refl
