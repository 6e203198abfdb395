-- `comparisons::strict_less` meets its contract: what is above is tested, and then what is below the other way round.
use Rattle.truth.proofs.AnswerLaws.{said_yes, no_so, and_then}
use Rattle.boolean.proofs.comparisons.strict_less.Goals as goal

pub returns-then-passes : goal.returns-then-passes
returns-then-passes c = and_then (said_yes c.passes.ensures c.if-passes.true) c.passes_down.ensures

pub returns-else-passes : goal.returns-else-passes
returns-else-passes c = no_so (λ s. s.0) c.passes.ensures c.if-passes.false
