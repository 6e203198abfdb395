-- `bare::intersection_of` meets its contract: the chosen ends are the true bounds, or nothing is common, as to EMPTY and another operand.
use mathlib.Core.Logic.{inl}
use Rattle.patterns.specs.Format.{binary64, infinity, sign_bit}
use Rattle.meaning.specs.Pairs.{minus_infinity}
use Rattle.meaning.proofs.PatternHull.{hull_of_none}
use Rattle.truth.proofs.AnswerLaws.{said_yes, said_no}
use Rattle.end_pairs.proofs.EmptyLaws.{neither_empty}
use Rattle.set_op.proofs.TrueEnds.{span_of_lem, exact_proper, exact_answer_lem}
use Rattle.set_op.proofs.SetOperations.{intersection_empty, intersection_exact, intersection_none}
use Rattle.set_op.proofs.bare.intersection_of.Goals as goal

pub returns-then-either_empty : goal.returns-then-either_empty
unfolding infinity sign_bit minus_infinity
returns-then-either_empty c = intersection_empty binary64 _ _ (said_yes c.either_empty.ensures c.if-either_empty.true)

pub canonical-requires : goal.canonical-requires
canonical-requires c =
    let (x, y) = neither_empty binary64 c.requires (said_no c.either_empty.ensures c.if-either_empty.false) in
    inl
    (exact_proper binary64 _
    (intersection_exact binary64 c.greater-a.ensures c.lesser-b.ensures (span_of_lem binary64 _ x) (span_of_lem binary64 _ y)
    (said_yes c.less_or_equal.ensures c.if-less_or_equal.true)))

pub returns-then-less_or_equal : goal.returns-then-less_or_equal
returns-then-less_or_equal c =
    let (x, y) = neither_empty binary64 c.requires (said_no c.either_empty.ensures c.if-either_empty.false) in
    exact_answer_lem binary64
    (intersection_exact binary64 c.greater-a.ensures c.lesser-b.ensures (span_of_lem binary64 _ x) (span_of_lem binary64 _ y)
    (said_yes c.less_or_equal.ensures c.if-less_or_equal.true))
    c.canonical.ensures

pub returns-else-less_or_equal : goal.returns-else-less_or_equal
unfolding infinity sign_bit minus_infinity
returns-else-less_or_equal c =
    let (x, y) = neither_empty binary64 c.requires (said_no c.either_empty.ensures c.if-either_empty.false) in
    hull_of_none binary64 _
    (intersection_none binary64 c.greater-a.ensures c.lesser-b.ensures (span_of_lem binary64 _ x) (span_of_lem binary64 _ y)
    (said_no c.less_or_equal.ensures c.if-less_or_equal.false))
