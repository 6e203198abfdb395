-- `tests::is_proper` meets its contract: each end is tested, and then their order.
use Rattle.patterns.specs.Format.{binary64, infinity, sign_bit}
use Rattle.meaning.specs.Pairs.{minus_infinity}
use Rattle.truth.specs.Answers.{denied}
use Rattle.truth.proofs.AnswerLaws.{said_yes, said_no, no_so}
use Rattle.end_pairs.proofs.TestLaws.{answers_proper}
use Rattle.end_pairs.proofs.tests.is_proper.Goals as goal

pub returns-then-not-is_end : goal.returns-then-not-is_end
unfolding infinity sign_bit minus_infinity
returns-then-not-is_end c = denied (λ p. said_no c.is_end.ensures c.if-not-is_end.true p.lower_end)

pub returns-then-is_end : goal.returns-then-is_end
unfolding infinity sign_bit minus_infinity
returns-then-is_end c =
    answers_proper binary64 _
    (said_yes c.is_end.ensures c.if-not-is_end.false)
    (said_yes c.is_end-2.ensures c.if-is_end.true)
    c.less_or_equal.ensures

pub returns-else-is_end : goal.returns-else-is_end
unfolding infinity sign_bit minus_infinity
returns-else-is_end c = no_so (λ p. p.upper_end) c.is_end-2.ensures c.if-is_end.false
