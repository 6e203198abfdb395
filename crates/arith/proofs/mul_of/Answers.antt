-- `mul_of` meets its contract: EMPTY has no products, and the ends of others are those of the table.
use Rattle.patterns.specs.Format.{binary64, infinity, sign_bit}
use Rattle.meaning.specs.Pairs.{minus_infinity}
use Rattle.meaning.specs.Points.{mul}
use Rattle.truth.proofs.AnswerLaws.{said_yes, said_no}
use Rattle.end_pairs.proofs.EmptyLaws.{neither_empty, empty_hull₂}
use Rattle.arith.proofs.BoundLaws.{hull_between, product_bounds}
use Rattle.arith.proofs.mul_of.Goals as goal

pub returns-then-either_empty : goal.returns-then-either_empty
unfolding infinity minus_infinity sign_bit
returns-then-either_empty c = empty_hull₂ binary64 mul _ _ (said_yes c.either_empty.ensures c.if-either_empty.true)

pub returns : goal.returns
returns c =
    hull_between binary64 c.outward.ensures
    (product_bounds binary64 _ _ (neither_empty binary64 c.requires (said_no c.either_empty.ensures c.if-either_empty.false))
    c.mirrored.ensures c.classify.ensures c.classify-2.ensures)
    (rw (c.product_corner.ensures, c.mirrored_kind.ensures, c.kind_of-m.ensures, c.kind_of-n.ensures) at c.product_at.ensures)
    (rw (c.product_corner-2.ensures, c.kind_of-m.ensures, c.kind_of-n.ensures) at c.product_at-2.ensures)
