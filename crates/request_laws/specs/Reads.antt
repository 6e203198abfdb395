-- The operands of a request, and two operands that are read of bytes, or of whatever else operands come as.
use Rattle.std.specs.Prelude.{List, ℕ}
use Rattle.meaning.specs.Statement.{Outcome}
use Rattle.meaning.specs.Requests.{Asked, first_operand, second_operand}

-- The outcome of what is asked for, on the operands behind the operation number.
abbrev pub OnOperands : (size : ℕ) → (Asked → (first second : List ℕ) → Outcome (List ℕ) → Type 0) → Asked → (input : List ℕ) → Outcome (List ℕ) → Type 0
OnOperands size Outcomes q input o = Outcomes q (first_operand size input) (second_operand size input) o

abbrev pub BothRead : {A B : Type 0} → (A → B → Type 0) → A → A → B × B → Type 0
BothRead Read x y z = Read x z.0 × Read y z.1
