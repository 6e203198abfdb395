-- `comparisons::compares_dec` meets its contract: NaI compares to nothing, and intervals compare as the bare ones do.
use Rattle.patterns.specs.Format.{binary64}
use Rattle.operation_steps.proofs.SortedLaws.{nai_lem, intervals}
use Rattle.comparison_laws.proofs.NaIComparisons.{nai_compared, intervals_compared}
use Rattle.boolean.proofs.comparisons.compares_dec.Goals as goal

pub returns-in-None : goal.returns-in-None
returns-in-None c = nai_compared binary64 _ (nai_lem c.two_operands.ensures c.in-None.is)

pub returns-in-Some : goal.returns-in-Some
returns-in-Some c =
    intervals_compared binary64 _ (intervals c.two_operands.ensures c.in-Some.is).not_nai
    c.compares.ensures
