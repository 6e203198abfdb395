-- No two operations have one number.
use mathlib.Core.Path.{◌≡◌, refl}
use Rattle.rounding_runs.specs.Cases.{number_of}
use Rattle.rounding_runs.specs.declared.roundings.Operation.{Operation}
use Rattle.rounding_runs.specs.declared.roundings.Operation.TheVariants.{Sum, Product, Quotient}

pub one_number : (o p : Operation) → number_of o ≡ number_of p → o ≡ p
one_number Sum Sum e = refl
one_number Sum Product e = absurd cc
one_number Sum Quotient e = absurd cc
one_number Product Sum e = absurd cc
one_number Product Product e = refl
one_number Product Quotient e = absurd cc
one_number Quotient Sum e = absurd cc
one_number Quotient Product e = absurd cc
one_number Quotient Quotient e = refl
