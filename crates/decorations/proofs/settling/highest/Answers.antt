-- `settling::highest` meets its contract: each test picks its case.
use mathlib.Core.Path.{sym}
use Rattle.patterns.specs.Format.{binary64}
use Rattle.truth.proofs.AnswerLaws.{said_yes, said_no}
use Rattle.end_pairs.proofs.Shapes.{answers_nothing, answers_common}
use Rattle.decorations.proofs.DecorationLaws.{highest_empty, highest_bounded, highest_unbounded}
use Rattle.decorations.proofs.settling.highest.Goals as goal

pub returns-then-is_empty_pair : goal.returns-then-is_empty_pair
returns-then-is_empty_pair c =
    sym (highest_empty (said_yes (answers_nothing binary64 _ c.requires c.is_empty_pair.ensures) c.if-is_empty_pair.true))

pub returns-then-is_bounded : goal.returns-then-is_bounded
returns-then-is_bounded c =
    sym (highest_bounded (said_yes (answers_common binary64 _ c.requires c.is_bounded.ensures) c.if-is_bounded.true))

pub returns : goal.returns
returns c =
    let valid = c.requires in
    sym
    (highest_unbounded _
    (said_no (answers_nothing binary64 _ valid c.is_empty_pair.ensures) c.if-is_empty_pair.false)
    (said_no (answers_common binary64 _ valid c.is_bounded.ensures) c.if-is_bounded.false))
