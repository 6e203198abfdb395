-- `ends::quotient_end` meets its contract: the quotient of two numbers is rounded, and an infinite divisor makes 0.
use mathlib.Core.Path.{refl}
use borrow.Author.Rules.{rules}
use Rattle.patterns.specs.Format.{binary64, infinity, sign_bit}
use Rattle.theorem3.specs.Ends.{quotient_end}
use Rattle.truth.proofs.AnswerLaws.{said_yes, said_no}
use Rattle.arith_ends.proofs.EndLaws.{numbers, first_infinite, second_infinite, zero_end, value_not_zero, quotient_right}
use Rattle.arith_ends.proofs.ends.quotient_end.Goals as goal

pub quotient_up-requires : goal.quotient_up-requires
quotient_up-requires c =
    let f = said_yes c.both_finite.ensures c.if-both_finite.true in
    (f.0, f.1, value_not_zero binary64 f.1 c.requires)

pub returns-then-both_finite : goal.returns-then-both_finite
returns-then-both_finite c =
    let f = said_yes c.both_finite.ensures c.if-both_finite.true in
    numbers binary64 quotient_end (λ y. refl) f (quotient_right binary64 f.1 c.requires _ c.quotient_up.ensures)

pub returns-then-is_finite : goal.returns-then-is_finite
unfolding sign_bit
returns-then-is_finite c =
    second_infinite binary64 quotient_end (λ y. refl) (λ x. refl) (zero_end binary64) (search rules)
    (said_no c.both_finite.ensures c.if-both_finite.false)
    (said_yes c.is_finite.ensures c.if-is_finite.true)

pub returns-else-is_finite : goal.returns-else-is_finite
unfolding infinity sign_bit
returns-else-is_finite c =
    first_infinite binary64 quotient_end (λ y. refl) _ (search rules) (said_no c.is_finite.ensures c.if-is_finite.false)
