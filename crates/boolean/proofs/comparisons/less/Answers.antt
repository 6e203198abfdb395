-- `comparisons::less` meets its contract: what is above is tested, and then what is below the other way round.
use Rattle.truth.proofs.AnswerLaws.{said_yes, no_so, and_then}
use Rattle.boolean.proofs.comparisons.less.Goals as goal

pub returns-then-reaches : goal.returns-then-reaches
returns-then-reaches c = and_then (said_yes c.reaches.ensures c.if-reaches.true) c.reaches_down.ensures

pub returns-else-reaches : goal.returns-else-reaches
returns-else-reaches c = no_so (λ s. s.0) c.reaches.ensures c.if-reaches.false
