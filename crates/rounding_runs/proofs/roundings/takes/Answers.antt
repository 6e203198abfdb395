-- `rounding_runs::roundings::takes` meets its contract: it answers the questions of its parts in turn.
use Rattle.truth.proofs.AnswerLaws.{answers_iff, said_yes, no_so}
use Rattle.rounding_runs.proofs.roundings.takes.Goals as goal

pub returns-then-are_finite : goal.returns-then-are_finite
returns-then-are_finite c =
    let finite = said_yes c.are_finite.ensures c.if-are_finite.true in
    answers_iff (λ divisor. record { first = finite.0; second = finite.1; divisor = divisor }) (λ takes. takes.divisor) c.takes_second.ensures

pub returns-else-are_finite : goal.returns-else-are_finite
returns-else-are_finite c = no_so (λ takes. (takes.first, takes.second)) c.are_finite.ensures c.if-are_finite.false
