-- Calls on columns of operands, and the column of answers that they leave.
use Rattle.std.specs.Prelude.{List, [], ◌∷◌, ◌≡◌, ℕ, ◌<◌, length, get_or}
use Rattle.patterns.specs.Format.{binary64}
use Rattle.patterns.specs.Rounding.{Up}
use Rattle.meaning.specs.Statement.{Outcome, given, refusal_at}
use Rattle.meaning.specs.Calls.{Test, Called}
use Rattle.rounding_runs.specs.Operations.{Takes, exact_of}
use Rattle.rounding_runs.specs.declared.roundings.Operation.{Operation}

-- The operation takes the operands of every row.
abbrev pub TakesRows : Operation → (a b : List ℕ) → Type 0
TakesRows o a b = (k : ℕ) → k < length a → Takes o (get_or a k 0) (get_or b k 0)

-- In each row the exact result rounded upward.
pub record Filled (o : Operation) (a b after : List ℕ) : Type 0 where
  pub answers : length after ≡ length a
  pub rounded : (k : ℕ) → k < length a → Up binary64 (exact_of o (get_or a k 0) (get_or b k 0)) (get_or after k 0)

-- The operands of a call.
pub record Columns : Type 0 where
  pub first : List ℕ
  pub second : List ℕ

-- 1, as for a wrong length: the operands' columns are not of one length.
abbrev pub operands_agree : Test Columns
operands_agree = record { Holds = λ columns before. length columns.second ≡ length columns.first; number = 1 }

-- 2, as for a wrong room: the answers' column is not as long.
abbrev pub answers_fit : Test Columns
answers_fit = record { Holds = λ columns before. length before ≡ length columns.first; number = 2 }

-- 5, as for bad ends: the operation does not take some row.
abbrev pub rows_taken : Operation → Test Columns
rows_taken o = record { Holds = λ columns before. TakesRows o columns.first columns.second; number = 5 }

-- Nothing else is refused.
pub data FilledBy (o : Operation) (columns : Columns) : Outcome (List ℕ) → Type 0 where
  filled_by : {after : List ℕ} → Filled o columns.first columns.second after → FilledBy o columns (given after)

-- What a call leaves, its number and the whole column of answers. No place is said.
abbrev pub FilledOrRefused : Operation → (a b before : List ℕ) (number : ℕ) (after : List ℕ) → Type 0
FilledOrRefused o a b before number after =
    Called (operands_agree ∷ answers_fit ∷ rows_taken o ∷ []) (FilledBy o) (record { first = a; second = b }) before (refusal_at number 0) after
