-- The refusal numbers (specs/Refusals.antt): each kind of operands is refused with a number exactly when the reason stands, the first operand that is refused deciding; and what
-- stands beside the number. Each is a case of its reading. Assumes nothing.
use mathlib.Core.Path.{◌≡◌, refl, sym, ◌∙◌, subst}
use mathlib.Core.Bool.{Bool, true, false, ◌&&◌, cond}
use mathlib.Core.Logic.{◌⊎◌, inl, inr, ◌↔◌}
use Prim.Native.Nat.{ℕ}
use native.Mathlib.Omega.{arith}
use lib.Dec.{eqb}
use lib.Ieee.{Float}
use borrow.Author.Tests.{eqb-true, eqb-false, ne_eqb}
use Rattle.consts.specs.declared.answer.YesNo.{YesNo}
use Rattle.consts.specs.declared.answer.Number.{Number}
use Rattle.consts.specs.Refusal.{number, out_of_reach, bad_circle, bad_point, bad_margin, first_refusal}
use Rattle.consts.specs.Answer.{yes_no, number_answer, no_under, zero_under, test, told}
use Rattle.consts.specs.Reading.{in_reach, read_number}
use Rattle.consts.proofs.Refusals.{either}
use Rattle.r1.specs.declared.interval.Interval.{Interval as Line}
use Rattle.r1.specs.declared.interval.Answer.{Answer as LineAnswer}
use Rattle.r1.specs.Answers.{line_answer, empty_under as line_empty_under, interval as line_interval}
use Rattle.s1.specs.declared.interval.Interval.{Interval}
use Rattle.s1.specs.declared.interval.Answer.{Answer}
use Rattle.s1.specs.Circle as circle
use Rattle.s1.specs.Circle.{ends, is_valid}
use Rattle.s1.specs.Reading.{on_circle, read_one, read_ends, read_two, read_point, read_with_point, read_with_margin}
use Rattle.s1.specs.Refusals.{Out, Fine, Bad, OneOut, OneBad, EndsFine, EndsBad, Refusals, Says, Tells, Answers, LineAnswers}
use Rattle.s1.specs.Answers.{circle_answer, empty_under, interval, «new», from_line, positive_distance, from_point_pair, expanded, approx_eq_by, add}

-- the reason for each number
abbrev reason : Type 0 → Type 0 → Type 0 → Type 0 → Type 0 → ℕ → Type 0
reason a b c d e n = either (eqb n 0) a (either (eqb n 1) b (either (eqb n 22) c (either (eqb n 3) d (either (eqb n 4) e ⊥))))

-- it is so where each reason gives its number, and the reason for n stands
refusals : {n : ℕ} (a b c d e : Type 0)
    → (a → n ≡ 0) → (b → n ≡ 1) → (c → n ≡ 22) → (d → n ≡ 3) → (e → n ≡ 4) → reason a b c d e n → Refusals n a b c d e
refusals a b c d e p q r s t w =
    record {
      given-0 = (λ h. subst (reason a b c d e) h w, p);
      given-1 = (λ h. subst (reason a b c d e) h w, q);
      given-22 = (λ h. subst (reason a b c d e) h w, r);
      given-3 = (λ h. subst (reason a b c d e) h w, s);
      given-4 = (λ h. subst (reason a b c d e) h w, t);
    }

-- ---- of two numbers the first that is not 0
first-zero : (m n : ℕ) → (first_refusal m n ≡ 0) ↔ ((m ≡ 0) × (n ≡ 0))
unfolding first_refusal
first-zero m n = go (eqb m 0) refl
  where
    go : (t : Bool) → eqb m 0 ≡ t → (cond t n m ≡ 0) ↔ ((m ≡ 0) × (n ≡ 0))
    go true h = (λ e. (eqb-true m 0 h, e), λ e. e.1)
    go false h = (λ e. absurd (eqb-false m 0 h e), λ e. e.0)

first-other : (m n k : ℕ) → (k ≡ 0 → ⊥) → (first_refusal m n ≡ k) ↔ ((m ≡ k) ⊎ ((m ≡ 0) × (n ≡ k)))
unfolding first_refusal
first-other m n k z = go (eqb m 0) refl
  where
    second : m ≡ 0 → (m ≡ k) ⊎ ((m ≡ 0) × (n ≡ k)) → n ≡ k
    second h (inl e) = absurd (z (sym e ∙ h))
    second h (inr e) = e.1

    first : (m ≡ 0 → ⊥) → (m ≡ k) ⊎ ((m ≡ 0) × (n ≡ k)) → m ≡ k
    first h (inl e) = e
    first h (inr e) = absurd (h e.0)

    go : (t : Bool) → eqb m 0 ≡ t → (cond t n m ≡ k) ↔ ((m ≡ k) ⊎ ((m ≡ 0) × (n ≡ k)))
    go true h = (λ e. inr (eqb-true m 0 h, e), second (eqb-true m 0 h))
    go false h = (λ e. inl e, first (eqb-false m 0 h))

-- so the reason of the first operand, or, where that is accepted, of the second
later : {m n k : ℕ} (a b b' : Type 0) → (k ≡ 0 → ⊥) → (m ≡ 0) ↔ a → (m ≡ k) ↔ b → (n ≡ k) ↔ b' → (first_refusal m n ≡ k) ↔ (b ⊎ (a × b'))
later {m} {n} {k} a b b' z f g h = (λ e. to ((first-other m n k z).0 e), λ e. (first-other m n k z).1 (from e))
  where
    to : (m ≡ k) ⊎ ((m ≡ 0) × (n ≡ k)) → b ⊎ (a × b')
    to (inl e) = inl (g.0 e)
    to (inr e) = inr (f.0 e.0, h.0 e.1)

    from : b ⊎ (a × b') → (m ≡ k) ⊎ ((m ≡ 0) × (n ≡ k))
    from (inl e) = inl (g.1 e)
    from (inr e) = inr (f.1 e.0, h.1 e.1)

-- one reason for another that says the same
same : (a : Type 0) → a ↔ a
same a = (λ h. h, λ h. h)

never : (a : Type 0) → (⊥ ⊎ (a × ⊥)) ↔ ⊥
never a = (go, λ h. absurd h)
  where
    go : ⊥ ⊎ (a × ⊥) → ⊥
    go (inl h) = h
    go (inr h) = h.1

early : (a b : Type 0) → (b ⊎ (a × ⊥)) ↔ b
early a b = (go, λ h. inl h)
  where
    go : b ⊎ (a × ⊥) → b
    go (inl h) = h
    go (inr h) = absurd h.1

late : (a b : Type 0) → (⊥ ⊎ (a × b)) ↔ (a × b)
late a b = (go, λ h. inr h)
  where
    go : ⊥ ⊎ (a × b) → a × b
    go (inl h) = absurd h
    go (inr h) = h

follow : {p q r : Type 0} → p ↔ q → q ↔ r → p ↔ r
follow f g = (λ h. g.0 (f.0 h), λ h. f.1 (g.1 h))

-- two operands
module _ {m n : ℕ} (a b c d e a' b' c' d' e' : Type 0) (f : Refusals m a b c d e) (g : Refusals n a' b' c' d' e') where
  both : (b'' c'' d'' e'' : Type 0) → (b ⊎ (a × b')) ↔ b'' → (c ⊎ (a × c')) ↔ c'' → (d ⊎ (a × d')) ↔ d'' → (e ⊎ (a × e')) ↔ e''
      → Refusals (first_refusal m n) (a × a') b'' c'' d'' e''
  both b'' c'' d'' e'' p q r s =
      record {
        given-0 = (λ h. let x = (first-zero m n).0 h in (f.given-0.0 x.0, g.given-0.0 x.1), λ h. (first-zero m n).1 (f.given-0.1 h.0, g.given-0.1 h.1));
        given-1 = follow (later a b b' (λ z. omega arith) f.given-0 f.given-1 g.given-1) p;
        given-22 = follow (later a c c' (λ z. omega arith) f.given-0 f.given-22 g.given-22) q;
        given-3 = follow (later a d d' (λ z. omega arith) f.given-0 f.given-3 g.given-3) r;
        given-4 = follow (later a e e' (λ z. omega arith) f.given-0 f.given-4 g.given-4) s;
      }

-- ---- an interval, a point, a margin or an error, two ends
module _ (i : Interval) where
  pub of_one : Refusals (read_one i).refusal (Fine i) (Out i) (Bad i) ⊥ ⊥
  unfolding read_one
  of_one =
      refusals (Fine i) (Out i) (Bad i) ⊥ ⊥ (λ h. simp (h.0, h.1)) (λ h. simp h) (λ h. simp (h.0, h.1)) (λ h. absurd h) (λ h. absurd h)
      (go (in_reach i.lo && in_reach i.hi) refl (is_valid i) refl)
    where
      go : (t : Bool) → in_reach i.lo && in_reach i.hi ≡ t → (u : Bool) → is_valid i ≡ u → reason (Fine i) (Out i) (Bad i) ⊥ ⊥ (cond t (cond u 0 22) 1)
      go true h true k = (h, k)
      go true h false k = (h, k)
      go false h u k = h

module _ (p : Float) where
  of-point : Refusals (read_point p).refusal (on_circle p ≡ true) ⊥ ⊥ (on_circle p ≡ false) ⊥
  unfolding read_point
  of-point =
      refusals (on_circle p ≡ true) ⊥ ⊥ (on_circle p ≡ false) ⊥ (λ h. simp h) (λ h. absurd h) (λ h. absurd h) (λ h. simp h) (λ h. absurd h) (go (on_circle p) refl)
    where
      go : (t : Bool) → on_circle p ≡ t → reason (on_circle p ≡ true) ⊥ ⊥ (on_circle p ≡ false) ⊥ (cond t 0 3)
      go true h = h
      go false h = h

  of-margin : Refusals (read_number p (number bad_margin)).refusal (in_reach p ≡ true) ⊥ ⊥ ⊥ (in_reach p ≡ false)
  unfolding read_number
  of-margin =
      refusals (in_reach p ≡ true) ⊥ ⊥ ⊥ (in_reach p ≡ false) (λ h. simp h) (λ h. absurd h) (λ h. absurd h) (λ h. absurd h) (λ h. simp h) (go (in_reach p) refl)
    where
      go : (t : Bool) → in_reach p ≡ t → reason (in_reach p ≡ true) ⊥ ⊥ ⊥ (in_reach p ≡ false) (cond t 0 4)
      go true h = h
      go false h = h

module _ (lo hi : Float) where
  pub of-ends : Refusals (read_ends lo hi).refusal (EndsFine lo hi) (Out (ends lo hi)) (EndsBad lo hi) ⊥ ⊥
  unfolding read_ends
  of-ends =
      refusals (EndsFine lo hi) (Out (ends lo hi)) (EndsBad lo hi) ⊥ ⊥ (λ h. simp (h.0, h.1)) (λ h. simp h) (λ h. simp (h.0, h.1)) (λ h. absurd h) (λ h. absurd h)
      (go (in_reach lo && in_reach hi) refl (on_circle lo && on_circle hi) refl)
    where
      go : (t : Bool) → in_reach lo && in_reach hi ≡ t → (u : Bool) → on_circle lo && on_circle hi ≡ u → reason (EndsFine lo hi) (Out (ends lo hi)) (EndsBad lo hi) ⊥ ⊥ (cond t (cond u 0 22) 1)
      go true h true k = (h, k)
      go true h false k = (h, k)
      go false h u k = h

-- ---- several operands
module _ (i o : Interval) where
  pub of_two : Refusals (read_two i o).refusal (Fine i × Fine o) (OneOut i o) (OneBad i o) ⊥ ⊥
  unfolding read_two
  of_two =
      both (Fine i) (Out i) (Bad i) ⊥ ⊥ (Fine o) (Out o) (Bad o) ⊥ ⊥ (of_one i) (of_one o)
      (OneOut i o) (OneBad i o) ⊥ ⊥ (same (OneOut i o)) (same (OneBad i o)) (never (Fine i)) (never (Fine i))

  pub of-two-and-error : (e : Float) → Refusals (first_refusal (read_two i o).refusal (read_number e (number bad_margin)).refusal)
      ((Fine i × Fine o) × (in_reach e ≡ true)) (OneOut i o) (OneBad i o) ⊥ ((Fine i × Fine o) × (in_reach e ≡ false))
  of-two-and-error e =
      both (Fine i × Fine o) (OneOut i o) (OneBad i o) ⊥ ⊥ (in_reach e ≡ true) ⊥ ⊥ ⊥ (in_reach e ≡ false) of_two (of-margin e)
      (OneOut i o) (OneBad i o) ⊥ ((Fine i × Fine o) × (in_reach e ≡ false))
      (early (Fine i × Fine o) (OneOut i o)) (early (Fine i × Fine o) (OneBad i o)) (never (Fine i × Fine o)) (late (Fine i × Fine o) (in_reach e ≡ false))

module _ (i : Interval) (p : Float) where
  after_one : Refusals (first_refusal (read_one i).refusal (read_point p).refusal) (Fine i × (on_circle p ≡ true)) (Out i) (Bad i) (Fine i × (on_circle p ≡ false)) ⊥
  after_one =
      both (Fine i) (Out i) (Bad i) ⊥ ⊥ (on_circle p ≡ true) ⊥ ⊥ (on_circle p ≡ false) ⊥ (of_one i) (of-point p)
      (Out i) (Bad i) (Fine i × (on_circle p ≡ false)) ⊥ (early (Fine i) (Out i)) (early (Fine i) (Bad i)) (late (Fine i) (on_circle p ≡ false)) (never (Fine i))

  pub of-one-and-point : Refusals (read_with_point i p).refusal (Fine i × (on_circle p ≡ true)) (Out i) (Bad i) (Fine i × (on_circle p ≡ false)) ⊥
  unfolding read_with_point
  of-one-and-point = after_one

  pub of-one-and-margin : Refusals (read_with_margin i p).refusal (Fine i × (in_reach p ≡ true)) (Out i) (Bad i) ⊥ (Fine i × (in_reach p ≡ false))
  unfolding read_with_margin
  of-one-and-margin =
      both (Fine i) (Out i) (Bad i) ⊥ ⊥ (in_reach p ≡ true) ⊥ ⊥ ⊥ (in_reach p ≡ false) (of_one i) (of-margin p)
      (Out i) (Bad i) ⊥ (Fine i × (in_reach p ≡ false)) (early (Fine i) (Out i)) (early (Fine i) (Bad i)) (never (Fine i)) (late (Fine i) (in_reach p ≡ false))

  -- growth: the interval, then the point
  pub add-refused : (on_circle p ≡ false → Fine i → add i p ≡ record { refusal = number bad_point; value = i })
  unfolding add read_one read_point
  add-refused h f = simp (f.0, f.1, h)

  pub add-empty : (Out i → add i p ≡ empty_under (number out_of_reach)) × (Bad i → add i p ≡ empty_under (number bad_circle))
  unfolding add read_one
  add-empty = (λ h. simp h, λ h. simp (h.0, h.1))

  add-number : (add i p).refusal ≡ first_refusal (read_one i).refusal (read_point p).refusal
  unfolding add first_refusal
  add-number = go (eqb (read_one i).refusal 0) (eqb (read_point p).refusal 0) refl (circle_answer (circle.add (read_one i).value (read_point p).value)) refl
    where
      go : (s t : Bool) → eqb (read_point p).refusal 0 ≡ t → (a : Answer) → a.refusal ≡ 0
          → (cond s (cond t a (record { refusal = (read_point p).refusal; value = i })) (empty_under (read_one i).refusal)).refusal ≡ cond s (read_point p).refusal (read_one i).refusal
      go true true h a z = z ∙ sym (eqb-true (read_point p).refusal 0 h)
      go true false h a z = refl
      go false t h a z = refl

  pub of-add : Refusals (add i p).refusal (Fine i × (on_circle p ≡ true)) (Out i) (Bad i) (Fine i × (on_circle p ≡ false)) ⊥
  of-add = rw add-number after_one

-- two points
pub of-points : (p q : Float) → Refusals (first_refusal (read_point p).refusal (read_point q).refusal)
    ((on_circle p ≡ true) × (on_circle q ≡ true)) ⊥ ⊥ ((on_circle p ≡ false) ⊎ ((on_circle p ≡ true) × (on_circle q ≡ false))) ⊥
of-points p q =
    both (on_circle p ≡ true) ⊥ ⊥ (on_circle p ≡ false) ⊥ (on_circle q ≡ true) ⊥ ⊥ (on_circle q ≡ false) ⊥ (of-point p) (of-point q)
    ⊥ ⊥ ((on_circle p ≡ false) ⊎ ((on_circle p ≡ true) × (on_circle q ≡ false))) ⊥
    (never (on_circle p ≡ true)) (never (on_circle p ≡ true)) (same ((on_circle p ≡ false) ⊎ ((on_circle p ≡ true) × (on_circle q ≡ false)))) (never (on_circle p ≡ true))

module _ (n : ℕ) where
  -- an answer a with the number 0 where n is 0, and otherwise one with the number n
  numbered : {A : Type 0} (f : A → ℕ) (a b : A) → f a ≡ 0 → f b ≡ n → f (cond (eqb n 0) a b) ≡ n
  numbered {A} f a b p q = go (eqb n 0) refl
    where
      go : (t : Bool) → eqb n 0 ≡ t → f (cond t a b) ≡ n
      go true h = p ∙ sym (eqb-true n 0 h)
      go false h = q

  pub says : (b : Bool) → Says n (test n b)
  says b = record { number_is = numbered (λ (a : YesNo). a.refusal) (yes_no b) (no_under n) refl refl; no-beside = λ h. simp (ne_eqb n 0 h) }

  pub tells : (x : Float) → Tells n (told n x)
  tells x = record { number_is = numbered (λ (a : Number). a.refusal) (number_answer x) (zero_under n) refl refl; zero-beside = λ h. simp (ne_eqb n 0 h) }

  pub answers : (u : Interval) → Answers n (interval n u)
  answers u = record { number_is = numbered (λ (a : Answer). a.refusal) (circle_answer u) (empty_under n) refl refl; empty-beside = λ h. simp (ne_eqb n 0 h) }

  pub line-answers : (l : Line) → LineAnswers n (line_interval n l)
  line-answers l = record { number_is = numbered (λ (a : LineAnswer). a.refusal) (line_answer l) (line_empty_under n) refl refl; empty-beside = λ h. simp (ne_eqb n 0 h) }

-- the same by the answer's own number
module _ {A : Type 0} (f : A → ℕ) (under : ℕ → A) (n : ℕ) (a : A) where
  by-own : f a ≡ n → ((n ≡ 0 → ⊥) → a ≡ under n) → (f a ≡ 0 → ⊥) → a ≡ under (f a)
  by-own e g h = subst (λ (k : ℕ). a ≡ under k) (sym e) (g (λ z. h (e ∙ z)))

pub own-says : {n : ℕ} {a : YesNo} → Says n a → Says a.refusal a
own-says {n} {a} s = record { number_is = refl; no-beside = by-own (λ (b : YesNo). b.refusal) no_under n a s.number_is s.no-beside }

pub own-tells : {n : ℕ} {a : Number} → Tells n a → Tells a.refusal a
own-tells {n} {a} s = record { number_is = refl; zero-beside = by-own (λ (b : Number). b.refusal) zero_under n a s.number_is s.zero-beside }

pub own-answers : {n : ℕ} {a : Answer} → Answers n a → Answers a.refusal a
own-answers {n} {a} s = record { number_is = refl; empty-beside = by-own (λ (b : Answer). b.refusal) empty_under n a s.number_is s.empty-beside }

-- ---- the operations that are the only ones of their kind
pub expanded-answers : (i : Interval) (m : Float) → Answers (read_with_margin i m).refusal (expanded i m)
unfolding expanded
expanded-answers i m = answers (read_with_margin i m).refusal _

pub approx-says : (i o : Interval) (e : Float) → Says (first_refusal (read_two i o).refusal (read_number e (number bad_margin)).refusal) (approx_eq_by i o e)
unfolding approx_eq_by
approx-says i o e = says (first_refusal (read_two i o).refusal (read_number e (number bad_margin)).refusal) _

pub new-answers : (lo hi : Float) → Answers (read_ends lo hi).refusal («new» lo hi)
unfolding «new»
new-answers lo hi = answers (read_ends lo hi).refusal _

pub from-line-answers : (l : Line) → Answers (read_one (ends l.lo l.hi)).refusal (from_line l)
unfolding from_line
from-line-answers l = answers (read_one (ends l.lo l.hi)).refusal _

module _ (p q : Float) where
  pub pair-answers : Answers (first_refusal (read_point p).refusal (read_point q).refusal) (from_point_pair p q)
  unfolding from_point_pair
  pair-answers = answers (first_refusal (read_point p).refusal (read_point q).refusal) _

  pub distance-tells : Tells (first_refusal (read_point p).refusal (read_point q).refusal) (positive_distance p q)
  unfolding positive_distance
  distance-tells = tells (first_refusal (read_point p).refusal (read_point q).refusal) _
