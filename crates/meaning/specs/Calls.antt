-- Calls on lent output: tests that are tried in an order that each call fixes, then the outcome, and what is left.
use Rattle.std.specs.Prelude.{◌≡◌, List, [], ◌∷◌, ℕ}
use Rattle.meaning.specs.Refusals.{Refusal}
use Rattle.meaning.specs.Statement.{Outcome, refused, given, refusal_at, no_refusal}

-- What a call leaves, as one value: its refusal, or that there is none, and the whole output.
pub record Left : Type 0 where
  pub refusal : Refusal
  pub after : List ℕ

-- What an outcome leaves: "A refusal leaves the lent output untouched."
abbrev pub left_by : (before : List ℕ) → Outcome (List ℕ) → Left
left_by before (refused r) = record { refusal = r; after = before }
left_by before (given out) = record { refusal = no_refusal; after = out }

-- A test of the input and of the lent output, and the number with which a call is refused that does not pass it.
pub record Test (I : Type 0) : Type 1 where
  pub Holds : (input : I) (before : List ℕ) → Type 0
  pub number : ℕ

-- A condition that is tried before what is next. "otherwise the place is 0"
pub data Tried (P : Type 0) (number : ℕ) (Next : Outcome (List ℕ) → Type 0) : Outcome (List ℕ) → Type 0 where
  failed : (P → ⊥) → Tried P number Next (refused (refusal_at number 0))
  passed : {o : Outcome (List ℕ)} → P → Next o → Tried P number Next o

-- "Numbers are tried in the order ..": the first test that is not passed decides, and behind them all the outcome.
abbrev pub Chain : {I : Type 0} → List (Test I) → (I → Outcome (List ℕ) → Type 0) → (input : I) (before : List ℕ) → Outcome (List ℕ) → Type 0
Chain [] Outcomes input before o = Outcomes input o
Chain (t ∷ ts) Outcomes input before o = Tried (t.Holds input before) t.number (Chain ts Outcomes input before) o

-- The statement of a call: what it leaves is what the end of its chain leaves.
pub record Called {I : Type 0} (tests : List (Test I)) (Outcomes : I → Outcome (List ℕ) → Type 0) (input : I) (before : List ℕ) (refusal : Refusal) (after : List ℕ) :
    Type 0 where
  pub outcome : Outcome (List ℕ)
  pub chain : Chain tests Outcomes input before outcome
  pub leaves : left_by before outcome ≡ record { refusal = refusal; after = after }
