-- Stored cases, and how many of them are right.
use Rattle.std.specs.Prelude.{List, ◌≡◌, ℕ, zero, suc, ◌+◌, ◌*◌, ◌/◌, ◌%◌, ◌^◌, ◌<◌, ◌≤◌, length, get_or, Result, MatchResult}
use Rattle.patterns.specs.Format.{binary64}
use Rattle.patterns.specs.Rounding.{Up}
use Rattle.rounding_runs.specs.Operations.{Takes, exact_of}
use Rattle.rounding_runs.specs.Words.{word_at}
use Rattle.rounding_runs.specs.declared.roundings.Operation.{Operation}
use Rattle.rounding_runs.specs.declared.roundings.Operation.TheVariants.{Sum, Product, Quotient}
use Rattle.rounding_runs.specs.declared.roundings.UnknownOperation.{UnknownOperation}
use Rattle.rounding_runs.specs.declared.cases.Tally.{Tally}

-- Document 01's operation numbers.
abbrev pub number_of : Operation → ℕ
number_of Sum = 2
number_of Product = 4
number_of Quotient = 5

-- The operation that has the number, or that none has it.
abbrev pub Numbered : ℕ → Result Operation UnknownOperation → Type 0
Numbered number r = MatchResult r (λ o. number_of o ≡ number) (λ e. (o : Operation) → number_of o ≡ number → ⊥)

-- The answer is the exact result rounded upward, of operands that the operation takes.
pub record Right (o : Operation) (a b answer : ℕ) : Type 0 where
  pub takes : Takes o a b
  pub rounded : Up binary64 (exact_of o a b) answer

-- A case is 25 bytes: the operation's number, the two operands and the answer.
-- What the case that starts at `at` says of the operation is right.
abbrev pub Says : List ℕ → Operation → ℕ → Type 0
Says s o at = Right o (word_at s (at + 1)) (word_at s (at + 9)) (word_at s (at + 17))

-- The case that starts at `at` is one of the operation, and right.
pub record RightCase (s : List ℕ) (o : Operation) (at : ℕ) : Type 0 where
  pub of : get_or s at 0 ≡ number_of o
  pub says : Says s o at

-- It is one of the operation, and wrong.
pub record WrongCase (s : List ℕ) (o : Operation) (at : ℕ) : Type 0 where
  pub of : get_or s at 0 ≡ number_of o
  pub says : Says s o at → ⊥

-- It is right, of any operation.
pub record SomeRightCase (s : List ℕ) (at : ℕ) : Type 0 where
  pub operation : Operation
  pub right : RightCase s operation at

-- Of the numbers below `n`, exactly `count` are such that `P`.
pub data Counted (P : ℕ → Type 0) : ℕ → ℕ → Type 0 where
  none : Counted P zero zero
  more : {n count : ℕ} → P n → Counted P n count → Counted P (suc n) (suc count)
  same : {n count : ℕ} → (P n → ⊥) → Counted P n count → Counted P (suc n) count

-- Both counts of two tallies together, as `usize` holds them.
abbrev pub Together : Tally → Tally → Tally → Type 0
Together t u both = (both.right ≡ (t.right + u.right) % 2 ^ 64) × (both.wrong ≡ (t.wrong + u.wrong) % 2 ^ 64)

-- All cases before `k` are right, and `k` is past the last case or not right.
pub record FirstWrong (s : List ℕ) (k : ℕ) : Type 0 where
  pub within : k ≤ length s / 25
  pub before : (j : ℕ) → j < k → SomeRightCase s (j * 25)
  pub here : k < length s / 25 → SomeRightCase s (k * 25) → ⊥
