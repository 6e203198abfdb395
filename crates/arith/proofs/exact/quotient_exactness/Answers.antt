-- `exact::quotient_exactness` meets its contract: there is no quotient of EMPTY or by 0 alone, and the ends of others are those of the table.
use mathlib.Core.Path.{sym, ◌∙◌}
use Rattle.patterns.specs.Format.{binary64}
use Rattle.meaning.specs.Points.{div}
use Rattle.truth.proofs.AnswerLaws.{said_yes, said_no}
use Rattle.theorem3.specs.Answer.{no_results}
use Rattle.theorem3.proofs.ExactBounds.{exact_between, exact_nothing}
use Rattle.end_pairs.proofs.EmptyLaws.{neither_empty, empty_none₂}
use Rattle.arith.proofs.BoundLaws.{divides, quotient_bounds, no_quotient}
use Rattle.arith.proofs.exact.quotient_exactness.Goals as goal

pub returns-then-either_empty : goal.returns-then-either_empty
returns-then-either_empty c z = exact_nothing binary64 (no_results (empty_none₂ binary64 div _ _ (said_yes c.either_empty.ensures c.if-either_empty.true)))

pub returns-then-is_zero : goal.returns-then-is_zero
returns-then-is_zero c z =
    exact_nothing binary64
    (no_quotient binary64 _ _ (neither_empty binary64 c.requires (said_no c.either_empty.ensures c.if-either_empty.false))
    c.classify-k.ensures (sym c.is_zero.ensures ∙ c.if-is_zero.true))

pub quotient_is_exact_at-requires : goal.quotient_is_exact_at-requires
quotient_is_exact_at-requires c =
    rw c.quotient_corner.ensures
    (divides binary64 _ _ (neither_empty binary64 c.requires (said_no c.either_empty.ensures c.if-either_empty.false))
    c.classify-k.ensures c.mirrored_kind.result)

pub quotient_is_exact_at-requires-2 : goal.quotient_is_exact_at-requires-2
quotient_is_exact_at-requires-2 c =
    rw c.quotient_corner-2.ensures
    (divides binary64 _ _ (neither_empty binary64 c.requires (said_no c.either_empty.ensures c.if-either_empty.false))
    c.classify-k.ensures c.kind_of-m.result)

pub returns : goal.returns
returns c z =
    exact_between binary64
    (quotient_bounds binary64 _ _ (neither_empty binary64 c.requires (said_no c.either_empty.ensures c.if-either_empty.false))
    c.mirrored.ensures c.classify.ensures c.classify-k.ensures
    (sym c.is_zero.ensures ∙ c.if-is_zero.false))
    (rw (c.quotient_corner.ensures, c.mirrored_kind.ensures, c.kind_of-m.ensures) at c.quotient_is_exact_at.ensures)
    (rw (c.quotient_corner-2.ensures, c.kind_of-m.ensures) at c.quotient_is_exact_at-2.ensures)
