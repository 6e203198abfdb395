-- `sums::ordered::Ordered::difference` meets its contract by the laws of aligned differences.
use native.Mathlib.Omega.{arith}
use Rattle.patterns.proofs.ValueLaws.{value_mono}
use Rattle.sums.proofs.CombineLaws.{low_le, exact_difference, cut_difference}
use Rattle.sums.proofs.ordered.Ordered.difference.Goals as goal

pub overflow_sub-whole : goal.overflow_sub-whole
overflow_sub-whole c = low_le c.aligned-a.ensures.aligns (value_mono 52 c.args.self.ordered)

pub normalised-n-requires : goal.normalised-n-requires
normalised-n-requires c = omega (arith, low_le c.aligned-a.ensures.aligns (value_mono 52 c.args.self.ordered), c.if-a-2.false)

pub returns-then-a-clause-brackets : goal.returns-then-a-clause-brackets
returns-then-a-clause-brackets c = exact_difference c.aligned-a.ensures.aligns (value_mono 52 c.args.self.ordered) c.if-a.true c.normalised-n.ensures

pub returns-clause-brackets : goal.returns-clause-brackets
returns-clause-brackets c = cut_difference c.aligned-a.ensures.aligns (value_mono 52 c.args.self.ordered) c.if-a.false
