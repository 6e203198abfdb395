-- `negate_exact` meets its contract: the ends are exact, whatever the operand.
use Rattle.patterns.specs.Format.{binary64}
use Rattle.exact_operations.proofs.NegationLaws.{negation_exact}
use Rattle.exact_operations.proofs.negate_exact.Goals as goal

pub returns : goal.returns
returns c = negation_exact binary64 _ c.requires c.image.ensures
