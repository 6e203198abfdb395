-- `tests::is_bare` meets its contract: the first test settles it, or the second does.
use mathlib.Core.Logic.{inl}
use Rattle.truth.proofs.AnswerLaws.{said_no, yes_so, or_else}
use Rattle.end_pairs.proofs.tests.is_bare.Goals as goal

pub returns-then-is_proper : goal.returns-then-is_proper
returns-then-is_proper c = yes_so inl c.is_proper.ensures c.if-is_proper.true

pub returns-else-is_proper : goal.returns-else-is_proper
returns-else-is_proper c = or_else (said_no c.is_proper.ensures c.if-is_proper.false) c.is_empty_pair.ensures
