-- `exact::product_exactness` meets its contract: EMPTY has no products, and the ends of others are those of the table.
use Rattle.patterns.specs.Format.{binary64}
use Rattle.meaning.specs.Points.{mul}
use Rattle.truth.proofs.AnswerLaws.{said_yes, said_no}
use Rattle.theorem3.specs.Answer.{no_results}
use Rattle.theorem3.proofs.ExactBounds.{exact_between, exact_nothing}
use Rattle.end_pairs.proofs.EmptyLaws.{neither_empty, empty_none₂}
use Rattle.arith.proofs.BoundLaws.{product_bounds}
use Rattle.arith.proofs.exact.product_exactness.Goals as goal

pub returns-then-either_empty : goal.returns-then-either_empty
returns-then-either_empty c z = exact_nothing binary64 (no_results (empty_none₂ binary64 mul _ _ (said_yes c.either_empty.ensures c.if-either_empty.true)))

pub returns : goal.returns
returns c z =
    exact_between binary64
    (product_bounds binary64 _ _ (neither_empty binary64 c.requires (said_no c.either_empty.ensures c.if-either_empty.false))
    c.mirrored.ensures c.classify.ensures c.classify-2.ensures)
    (rw (c.product_corner.ensures, c.mirrored_kind.ensures, c.kind_of-m.ensures, c.kind_of-n.ensures) at c.product_is_exact_at.ensures)
    (rw (c.product_corner-2.ensures, c.kind_of-m.ensures, c.kind_of-n.ensures) at c.product_is_exact_at-2.ensures)
