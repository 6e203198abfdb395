-- `tests::either_empty` meets its contract: the first test settles it, or the second does.
use mathlib.Core.Logic.{inl}
use Rattle.truth.proofs.AnswerLaws.{said_no, yes_so, or_else}
use Rattle.end_pairs.proofs.tests.either_empty.Goals as goal

pub returns-then-is_empty_pair : goal.returns-then-is_empty_pair
returns-then-is_empty_pair c = yes_so inl c.is_empty_pair.ensures c.if-is_empty_pair.true

pub returns-else-is_empty_pair : goal.returns-else-is_empty_pair
returns-else-is_empty_pair c = or_else (said_no c.is_empty_pair.ensures c.if-is_empty_pair.false) c.is_empty_pair-else-is_empty_pair.ensures
