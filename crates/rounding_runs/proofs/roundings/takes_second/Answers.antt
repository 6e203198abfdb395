-- `rounding_runs::roundings::takes_second` meets its contract: a divisor is worth 0 if its magnitude is 0, and only then.
use mathlib.Core.Path.{ap, sym, ◌∙◌}
use mathlib.Core.Logic.{inl, inr}
use Rattle.patterns.specs.Format.{sign_bit}
use Rattle.patterns.specs.Value.{magnitude, value}
use Rattle.patterns.proofs.ValueLaws.{value_zero, value_injective}
use Rattle.truth.specs.Answers.{affirmed}
use Rattle.truth.proofs.AnswerLaws.{answers_eq, answers_not}
use Rattle.rounding_runs.proofs.roundings.takes_second.Goals as goal

pub returns-in-Sum : goal.returns-in-Sum
returns-in-Sum c =
    elim c.in-Sum.is [
      | inl sum ↦ rw sum (affirmed tt)
      | inr product ↦ rw product (affirmed tt)
    ]

pub returns-in-Quotient : goal.returns-in-Quotient
unfolding magnitude sign_bit
returns-in-Quotient c =
    rw c.in-Quotient.is
    (answers_not
    (answers_eq _ _ (λ none. ap (value 52) none ∙ value_zero 52) (λ some worth. some (value_injective 52 (worth ∙ sym (value_zero 52))))))
