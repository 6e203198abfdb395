-- `div_of` meets its contract: there is no quotient of EMPTY or by 0 alone, and the ends of others are those of the table.
use mathlib.Core.Path.{sym, ◌∙◌}
use Rattle.patterns.specs.Format.{binary64, infinity, sign_bit}
use Rattle.meaning.specs.Pairs.{minus_infinity}
use Rattle.meaning.specs.Points.{div}
use Rattle.truth.proofs.AnswerLaws.{said_yes, said_no}
use Rattle.end_pairs.proofs.EmptyLaws.{neither_empty, empty_hull₂}
use Rattle.arith.proofs.BoundLaws.{divides, hull_between, hull_nothing, quotient_bounds, no_quotient}
use Rattle.arith.proofs.div_of.Goals as goal

pub returns-then-either_empty : goal.returns-then-either_empty
unfolding infinity minus_infinity sign_bit
returns-then-either_empty c = empty_hull₂ binary64 div _ _ (said_yes c.either_empty.ensures c.if-either_empty.true)

pub returns-then-is_zero : goal.returns-then-is_zero
unfolding infinity minus_infinity sign_bit
returns-then-is_zero c =
    hull_nothing binary64
    (no_quotient binary64 _ _ (neither_empty binary64 c.requires (said_no c.either_empty.ensures c.if-either_empty.false))
    c.classify-k.ensures (sym c.is_zero.ensures ∙ c.if-is_zero.true))

pub quotient_at-requires : goal.quotient_at-requires
quotient_at-requires c =
    rw c.quotient_corner.ensures
    (divides binary64 _ _ (neither_empty binary64 c.requires (said_no c.either_empty.ensures c.if-either_empty.false))
    c.classify-k.ensures c.mirrored_kind.result)

pub quotient_at-requires-2 : goal.quotient_at-requires-2
quotient_at-requires-2 c =
    rw c.quotient_corner-2.ensures
    (divides binary64 _ _ (neither_empty binary64 c.requires (said_no c.either_empty.ensures c.if-either_empty.false))
    c.classify-k.ensures c.kind_of-m.result)

pub returns : goal.returns
returns c =
    hull_between binary64 c.outward.ensures
    (quotient_bounds binary64 _ _ (neither_empty binary64 c.requires (said_no c.either_empty.ensures c.if-either_empty.false))
    c.mirrored.ensures c.classify.ensures c.classify-k.ensures
    (sym c.is_zero.ensures ∙ c.if-is_zero.false))
    (rw (c.quotient_corner.ensures, c.mirrored_kind.ensures, c.kind_of-m.ensures) at c.quotient_at.ensures)
    (rw (c.quotient_corner-2.ensures, c.kind_of-m.ensures) at c.quotient_at-2.ensures)
