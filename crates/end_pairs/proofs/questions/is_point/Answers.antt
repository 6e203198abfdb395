-- `questions::is_point` meets its contract: of two finite ends in order, the upper is not above the lower.
use Rattle.patterns.specs.Format.{binary64}
use Rattle.truth.proofs.AnswerLaws.{answers_iff, said_yes, no_so}
use Rattle.end_pairs.proofs.Shapes.{shape, point_when, point_bounded, point_only}
use Rattle.end_pairs.proofs.questions.is_point.Goals as goal

pub returns-then-is_bounded : goal.returns-then-is_bounded
returns-then-is_bounded c =
    let s = shape binary64 _ c.requires in
    answers_iff (point_when binary64 s (said_yes c.is_bounded.ensures c.if-is_bounded.true))
    (point_only binary64 s) c.less_or_equal.ensures

pub returns-else-is_bounded : goal.returns-else-is_bounded
returns-else-is_bounded c = no_so (point_bounded binary64 (shape binary64 _ c.requires)) c.is_bounded.ensures c.if-is_bounded.false
