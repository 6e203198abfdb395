-- `tests::is_end` meets its contract: the first test settles it, or the second does.
use mathlib.Core.Logic.{inl}
use Rattle.truth.proofs.AnswerLaws.{answers_eq, said_no, yes_so, or_else}
use Rattle.end_pairs.proofs.tests.is_end.Goals as goal

pub returns-then-is_finite : goal.returns-then-is_finite
returns-then-is_finite c = yes_so inl c.is_finite.ensures c.if-is_finite.true

pub returns-else-is_finite : goal.returns-else-is_finite
returns-else-is_finite c = or_else (said_no c.is_finite.ensures c.if-is_finite.false) (answers_eq _ _ (λ e. e) (λ n e. n e))
