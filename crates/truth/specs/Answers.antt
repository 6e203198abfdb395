-- What a truth value answers.
use Rattle.std.specs.Prelude.{Bool, true, false}

-- true exactly if P holds.
pub data Answers (P : Type 0) : Bool → Type 0 where
  affirmed : P → Answers P true
  denied : (P → ⊥) → Answers P false
