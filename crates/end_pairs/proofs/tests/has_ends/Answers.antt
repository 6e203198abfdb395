-- `tests::has_ends` meets its contract: the first test settles it, or the second does.
use mathlib.Core.Logic.{inl}
use Rattle.truth.proofs.AnswerLaws.{said_no, yes_so, or_else}
use Rattle.end_pairs.proofs.tests.has_ends.Goals as goal

pub returns-then-is_bare : goal.returns-then-is_bare
returns-then-is_bare c = yes_so inl c.is_bare.ensures c.if-is_bare.true

pub returns-else-is_bare : goal.returns-else-is_bare
returns-else-is_bare c = or_else (said_no c.is_bare.ensures c.if-is_bare.false) c.are_nans.ensures
