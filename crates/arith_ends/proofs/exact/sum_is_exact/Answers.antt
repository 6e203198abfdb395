-- `exact::sum_is_exact` meets its contract: a sum of two numbers is asked for, and an infinite end makes an infinite one.
use mathlib.Core.Path.{refl}
use borrow.Author.Rules.{rules}
use Rattle.patterns.specs.Format.{binary64, sign_bit}
use Rattle.theorem3.specs.Ends.{sum_end}
use Rattle.theorem3.proofs.UpEnd.{format_end, sum_units}
use Rattle.truth.proofs.AnswerLaws.{said_yes, said_no}
use Rattle.arith_ends.proofs.EndLaws.{exact_numbers, exact_infinite, infinite_exact}
use Rattle.arith_ends.proofs.exact.sum_is_exact.Goals as goal

pub returns-else-not-both_finite : goal.returns-else-not-both_finite
returns-else-not-both_finite c =
    exact_numbers binary64 sum_end (λ y. refl) (said_yes c.both_finite.ensures c.if-not-both_finite.false)
    (format_end binary64 (sum_units binary64 _ _) c.is_exact_sum.ensures)

pub returns-then-not-both_finite : goal.returns-then-not-both_finite
unfolding sign_bit
returns-then-not-both_finite c =
    rw c.if-not-both_finite.true
    (exact_infinite binary64 sum_end (λ y. refl) (λ x. refl) (infinite_exact binary64) (search rules) (search rules) (said_no c.both_finite.ensures c.if-not-both_finite.true))
