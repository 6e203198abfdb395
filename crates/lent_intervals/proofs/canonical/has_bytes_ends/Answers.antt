-- `canonical::has_bytes_ends` meets its contract: the first test settles it, or the second does.
use Rattle.meaning.specs.Bytes.{canonical_ends, nan_ends}
use Rattle.truth.proofs.AnswerLaws.{answers_iff, said_no, yes_so}
use Rattle.lent_intervals.proofs.ReadLaws.{only_nans}
use Rattle.lent_intervals.proofs.canonical.has_bytes_ends.Goals as goal

pub returns-then-is_canonical : goal.returns-then-is_canonical
returns-then-is_canonical c = yes_so canonical_ends c.is_canonical.ensures c.if-is_canonical.true

pub returns-else-is_canonical : goal.returns-else-is_canonical
returns-else-is_canonical c =
    answers_iff nan_ends (only_nans (said_no c.is_canonical.ensures c.if-is_canonical.false)) c.are_nans.ensures
