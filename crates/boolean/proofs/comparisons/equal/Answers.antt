-- `comparisons::equal` meets its contract: each is tested to be a subset of the other.
use Rattle.truth.proofs.AnswerLaws.{said_yes, no_so, and_then}
use Rattle.boolean.proofs.comparisons.equal.Goals as goal

pub returns-then-subset : goal.returns-then-subset
returns-then-subset c = and_then (said_yes c.subset.ensures c.if-subset.true) c.subset-then-subset.ensures

pub returns-else-subset : goal.returns-else-subset
returns-else-subset c = no_so (λ s. s.0) c.subset.ensures c.if-subset.false
