-- Why a call is refused, as document 01 writes it.
use Rattle.std.specs.Prelude.{ℕ}

-- "the answer is then the number and the place alone": the number, the place of the operand that is wrong, and an index. The place and the
-- index are 0 where there is none.
pub record Refusal : Type 0 where
  pub number : ℕ
  pub place : ℕ
  pub index : ℕ
