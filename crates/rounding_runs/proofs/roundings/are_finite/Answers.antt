-- `rounding_runs::roundings::are_finite` meets its contract: each operand is asked.
use Rattle.truth.proofs.AnswerLaws.{and_then, said_yes, no_so}
use Rattle.rounding_runs.proofs.roundings.are_finite.Goals as goal

pub returns-then-is_finite : goal.returns-then-is_finite
returns-then-is_finite c = and_then (said_yes c.is_finite.ensures c.if-is_finite.true) c.is_finite-then-is_finite.ensures

pub returns-else-is_finite : goal.returns-else-is_finite
returns-else-is_finite c = no_so (λ p. p.0) c.is_finite.ensures c.if-is_finite.false
