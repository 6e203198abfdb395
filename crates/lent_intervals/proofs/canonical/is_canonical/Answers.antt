-- `canonical::is_canonical` meets its contract: each zero is tested, and then the interval.
use Rattle.patterns.specs.Format.{sign_bit}
use Rattle.truth.specs.Answers.{denied}
use Rattle.truth.proofs.AnswerLaws.{answers_iff}
use Rattle.lent_intervals.proofs.canonical.is_canonical.Goals as goal

pub returns-then-x-eq-PLUS_ZERO : goal.returns-then-x-eq-PLUS_ZERO
returns-then-x-eq-PLUS_ZERO c = denied (λ k. k.lower_zero c.if-x-eq-PLUS_ZERO.true)

pub returns-then-x-eq-SIGN : goal.returns-then-x-eq-SIGN
unfolding sign_bit
returns-then-x-eq-SIGN c = denied (λ k. k.upper_zero c.if-x-eq-SIGN.true)

pub returns : goal.returns
unfolding sign_bit
returns c =
    answers_iff (λ b. record { bare = b; lower_zero = c.if-x-eq-PLUS_ZERO.false; upper_zero = c.if-x-eq-SIGN.false })
    (λ k. k.bare) c.is_bare.ensures
