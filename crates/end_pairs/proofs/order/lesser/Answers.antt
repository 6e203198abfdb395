-- `order::lesser` meets its contract: the test orders the two by value.
use Rattle.meaning.proofs.FractionLaws.{not_le}
use Rattle.truth.proofs.AnswerLaws.{said_yes, said_no}
use Rattle.end_pairs.specs.Order.{lesser_is_first, lesser_is_second}
use Rattle.end_pairs.proofs.order.lesser.Goals as goal

pub returns-then-less_or_equal : goal.returns-then-less_or_equal
returns-then-less_or_equal c = lesser_is_first (said_yes c.less_or_equal.ensures c.if-less_or_equal.true)

pub returns-else-less_or_equal : goal.returns-else-less_or_equal
returns-else-less_or_equal c = lesser_is_second (not_le (said_no c.less_or_equal.ensures c.if-less_or_equal.false))
