-- `weak::precedes` meets its contract: EMPTY is told first, and then the keys of the upper and the lower end.
use native.Mathlib.Omega.{arith}
use Rattle.patterns.specs.Format.{binary64}
use Rattle.meaning.specs.Fraction.{◌≼◌}
use Rattle.truth.proofs.AnswerLaws.{answers_le, said_no, yes_so}
use Rattle.boolean.proofs.EndTests.{all_empty, answers_precedes}
use Rattle.boolean.proofs.weak.precedes.Goals as goal

pub returns-then-either_empty : goal.returns-then-either_empty
returns-then-either_empty c = yes_so (all_empty binary64 c.requires ◌≼◌) c.either_empty.ensures c.if-either_empty.true

pub returns-else-either_empty : goal.returns-else-either_empty
returns-else-either_empty c =
    rw (c.key.ensures, c.key-else-either_empty.ensures)
    (answers_precedes binary64 c.requires (said_no c.either_empty.ensures c.if-either_empty.false)
    (answers_le _ _ (λ l. l) (λ l h. omega (arith, l, h))))
