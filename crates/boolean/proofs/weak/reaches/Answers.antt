-- `weak::reaches` meets its contract: EMPTY is told first, and then the keys of the upper ends.
use native.Mathlib.Omega.{arith}
use Rattle.patterns.specs.Format.{binary64}
use Rattle.meaning.specs.Fraction.{◌≼◌}
use Rattle.truth.proofs.AnswerLaws.{answers_le, said_yes, said_no}
use Rattle.boolean.proofs.EndTests.{answers_empty_lem, answers_reaches}
use Rattle.boolean.proofs.weak.reaches.Goals as goal

pub returns-then-either_empty : goal.returns-then-either_empty
returns-then-either_empty c =
    answers_empty_lem binary64 c.requires ◌≼◌ (said_yes c.either_empty.ensures c.if-either_empty.true) c.is_empty_pair.ensures

pub returns : goal.returns
returns c =
    rw (c.key.ensures, c.key-2.ensures)
    (answers_reaches binary64 c.requires (said_no c.either_empty.ensures c.if-either_empty.false)
    (answers_le _ _ (λ l. l) (λ l h. omega (arith, l, h))))
