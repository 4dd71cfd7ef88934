-- Stored cases: as their maker writes one, and the one that a list of bytes starts with. Definitions only; what they mean is in proofs/Laws.antt.
use Rattle.std.specs.Prelude.{cond, List, ◌∷◌, ◌++◌, ℕ, ◌+◌, ◌-◌, ◌*◌, ◌/◌, ◌%◌, ◌≡◌, ◌≤◌, ◌<◌, length, get_or, take, drop, leb, Option, None, Some, MatchOption}
use denote.Ref.{Bor}
use Rattle.cases.specs.declared.Case.{Case}

-- ---- as it is written
-- a number below 100 in two digits, and one below 1,000,000 in six, before what follows
unfoldable pub two_bytes : ℕ → List ℕ → List ℕ
two_bytes n s = (48 + n / 10) ∷ ((48 + n % 10) ∷ s)

unfoldable pub six_bytes : ℕ → List ℕ → List ℕ
six_bytes n s = two_bytes (n / 100 / 100) (two_bytes (n / 100 % 100) (two_bytes (n % 100) s))

-- the line with the sort, the two counts and the label, a space between them, and then the bytes
unfoldable pub case_bytes : ℕ → List ℕ → List ℕ → List ℕ
case_bytes sort label bytes =
    sort ∷ (32 ∷ two_bytes (length label) (32 ∷ six_bytes (length bytes) (32 ∷ (label ++ (10 ∷ bytes)))))

-- ---- as it is read
-- what a digit counts: the lower half of its byte
unfoldable pub digit : ℕ → ℕ
digit b = b % 16

-- the numbers of two and of six digits at a place
unfoldable pub two : List ℕ → ℕ → ℕ
two s at = 10 * digit (get_or s at 0) + digit (get_or s (at + 1) 0)

unfoldable pub six : List ℕ → ℕ → ℕ
six s at = 10000 * two s at + 100 * two s (at + 2) + two s (at + 4)

-- where the case at the start of s ends, by its line
unfoldable pub end_of : List ℕ → ℕ
end_of s = 12 + two s 2 + 1 + six s 5

-- a case's sort, and where in the bytes its parts lie: the label from `label` up to `line`, its bytes from `bytes` up to `end`
pub record Places : Type 0 where
  pub sort : ℕ
  pub label : ℕ
  pub line : ℕ
  pub bytes : ℕ
  pub end : ℕ

-- no whole case in n bytes: the sort is 0, and all else is the end
unfoldable pub no_case : ℕ → Places
no_case n = record { sort = 0; label = n; line = n; bytes = n; end = n }

-- the case that s starts with, where it is there as a whole
unfoldable pub first_case : List ℕ → Places
first_case s =
    cond (leb (end_of s) (length s)) (record { sort = get_or s 0 0; label = 12; line = 12 + two s 2; bytes = 12 + two s 2 + 1; end = end_of s })
    (no_case (length s))

-- the parts of a case lie in n bytes one after the other, and it has one of them at least
abbrev pub Lies : Places → ℕ → Type 0
Lies c n = (c.label ≤ c.line) × (c.line ≤ c.bytes) × (c.bytes ≤ c.end) × (c.end ≤ n) × (0 < n → 0 < c.end)

-- ---- as it is handed out
-- where the parts of a case lie that s starts with, by their lengths; with the case is handed out what comes after it
unfoldable pub case_of : List ℕ → Option (Case × Bor (List ℕ)) → Places
case_of s None = no_case (length s)
case_of s (Some (c, rest)) =
    record {
      sort = c.sort;
      label = 12;
      line = 12 + length c.label.now;
      bytes = 12 + length c.label.now + 1;
      end = 12 + length c.label.now + 1 + length c.bytes.now;
    }

-- a label, bytes and a rest are what lies in s at these places
abbrev pub IsCut : List ℕ → Places → List ℕ → List ℕ → List ℕ → Type 0
IsCut s p label bytes rest =
    (label ≡ take (p.line - p.label) (drop p.label s)) × (bytes ≡ take (p.end - p.bytes) (drop p.bytes s)) × (rest ≡ drop p.end s)

-- of s the first case is given, which is there, so that its bytes start behind its line, and t is left; or there is
-- none, and s is left
abbrev pub StepsCase : List ℕ → Option Case → List ℕ → Type 0
StepsCase s r t =
    MatchOption r ((first_case s ≡ no_case (length s)) × (t ≡ s))
    (λ c. ((first_case s).bytes ≡ (first_case s).line + 1) × (c.sort ≡ (first_case s).sort) × IsCut s (first_case s) c.label.now c.bytes.now t)
