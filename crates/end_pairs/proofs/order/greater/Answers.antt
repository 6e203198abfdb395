-- `order::greater` meets its contract: the test orders the two by value.
use Rattle.meaning.proofs.FractionLaws.{not_le}
use Rattle.truth.proofs.AnswerLaws.{said_yes, said_no}
use Rattle.end_pairs.specs.Order.{greater_is_first, greater_is_second}
use Rattle.end_pairs.proofs.order.greater.Goals as goal

pub returns-then-less_or_equal : goal.returns-then-less_or_equal
returns-then-less_or_equal c = greater_is_second (said_yes c.less_or_equal.ensures c.if-less_or_equal.true)

pub returns-else-less_or_equal : goal.returns-else-less_or_equal
returns-else-less_or_equal c = greater_is_first (not_le (said_no c.less_or_equal.ensures c.if-less_or_equal.false))
