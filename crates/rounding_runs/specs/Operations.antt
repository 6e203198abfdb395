-- The three operations, by what each takes and by its exact result.
use Rattle.std.specs.Prelude.{◌≡◌, ℕ}
use Rattle.patterns.specs.Format.{binary64}
use Rattle.patterns.specs.Rounding.{Exact, sum_of, product_of, quotient_of}
use Rattle.patterns.specs.Value.{Finite, value, magnitude}
use Rattle.rounding_runs.specs.declared.roundings.Operation.{Operation}
use Rattle.rounding_runs.specs.declared.roundings.Operation.TheVariants.{Sum, Product, Quotient}

-- A divisor is not worth 0. The second operand of a sum or a product may be anything.
abbrev pub SecondOf : Operation → ℕ → Type 0
SecondOf Sum b = Unit {0}
SecondOf Product b = Unit {0}
SecondOf Quotient b = value 52 (magnitude binary64 b) ≡ 0 → ⊥

-- The operands that an operation takes.
pub record Takes (o : Operation) (a b : ℕ) : Type 0 where
  pub first : Finite binary64 a
  pub second : Finite binary64 b
  pub divisor : SecondOf o b

-- The exact result.
abbrev pub exact_of : Operation → ℕ → ℕ → Exact
exact_of Sum a b = sum_of binary64 a b
exact_of Product a b = product_of binary64 a b
exact_of Quotient a b = quotient_of binary64 a b
