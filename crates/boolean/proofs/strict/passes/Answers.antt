-- `strict::passes` meets its contract: EMPTY is told first, and then the keys of the upper ends, or that the other is infinite.
use mathlib.Core.Logic.{inl}
use native.Mathlib.Omega.{arith}
use Rattle.patterns.specs.Format.{binary64, infinity, sign_bit}
use Rattle.meaning.specs.Fraction.{◌≺◌}
use Rattle.truth.proofs.AnswerLaws.{answers_lt, answers_eq, said_yes, said_no, or_else}
use Rattle.boolean.proofs.EndTests.{answers_empty_lem, answers_passes}
use Rattle.boolean.proofs.strict.passes.Goals as goal

pub returns-then-either_empty : goal.returns-then-either_empty
returns-then-either_empty c =
    answers_empty_lem binary64 c.requires ◌≺◌ (said_yes c.either_empty.ensures c.if-either_empty.true) c.is_empty_pair.ensures

pub returns-then-key : goal.returns-then-key
returns-then-key c =
    rw (c.key.ensures, c.key-2.ensures)
    (answers_passes binary64 c.requires (said_no c.either_empty.ensures c.if-either_empty.false)
    (answers_lt _ _ inl (λ l h. absurd (omega (arith, l, rw (c.key.ensures, c.key-2.ensures) at c.if-key.true)))))

pub returns-else-key : goal.returns-else-key
unfolding infinity sign_bit
returns-else-key c =
    let not-less = rw (c.key.ensures, c.key-2.ensures) at c.if-key.false in
    answers_passes binary64 c.requires (said_no c.either_empty.ensures c.if-either_empty.false)
    (or_else (λ l. omega (arith, not-less, l)) (answers_eq _ _ (λ e. e) (λ n e. n e)))
