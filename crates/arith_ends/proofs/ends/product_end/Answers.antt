-- `ends::product_end` meets its contract: the product of two numbers is rounded, and an infinite end makes an infinite one.
use mathlib.Core.Path.{refl}
use borrow.Author.Rules.{rules}
use Rattle.patterns.specs.Format.{binary64, infinity, sign_bit}
use Rattle.theorem3.specs.Ends.{product_end}
use Rattle.theorem3.proofs.UpEnd.{up_end, product_units}
use Rattle.truth.proofs.AnswerLaws.{said_yes, said_no}
use Rattle.arith_ends.proofs.EndLaws.{numbers, either_infinite}
use Rattle.arith_ends.proofs.ends.product_end.Goals as goal

pub returns-then-both_finite : goal.returns-then-both_finite
returns-then-both_finite c =
    numbers binary64 product_end (λ y. refl) (said_yes c.both_finite.ensures c.if-both_finite.true)
    (up_end binary64 (product_units binary64 _ _) c.product_up.ensures)

pub returns-else-both_finite : goal.returns-else-both_finite
unfolding infinity sign_bit
returns-else-both_finite c =
    either_infinite binary64 product_end (λ y. refl) (λ x. refl) (search rules) (search rules)
    (said_no c.both_finite.ensures c.if-both_finite.false)
