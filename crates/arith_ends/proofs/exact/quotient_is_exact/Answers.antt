-- `exact::quotient_is_exact` meets its contract: a quotient of two numbers is asked for, and an infinite divisor makes 0.
use mathlib.Core.Path.{refl}
use borrow.Author.Rules.{rules}
use Rattle.patterns.specs.Format.{binary64, sign_bit}
use Rattle.theorem3.specs.Ends.{quotient_end}
use Rattle.truth.proofs.AnswerLaws.{said_yes, said_no}
use Rattle.arith_ends.proofs.EndLaws.{exact_numbers, exact_infinite, zero_exact, value_not_zero, quotient_exact}
use Rattle.arith_ends.proofs.exact.quotient_is_exact.Goals as goal

pub is_exact_quotient-requires : goal.is_exact_quotient-requires
is_exact_quotient-requires c =
    let f = said_yes c.both_finite.ensures c.if-not-both_finite.false in
    (f.0, f.1, value_not_zero binary64 f.1 c.requires)

pub returns-else-not-both_finite : goal.returns-else-not-both_finite
returns-else-not-both_finite c =
    let f = said_yes c.both_finite.ensures c.if-not-both_finite.false in
    exact_numbers binary64 quotient_end (λ y. refl) f (quotient_exact binary64 f.1 c.requires _ c.is_exact_quotient.ensures)

pub returns-then-not-both_finite : goal.returns-then-not-both_finite
unfolding sign_bit
returns-then-not-both_finite c =
    rw c.if-not-both_finite.true
    (exact_infinite binary64 quotient_end (λ y. refl) (λ x. refl) (zero_exact binary64) (search rules) (search rules) (said_no c.both_finite.ensures c.if-not-both_finite.true))
