-- `bare::min_of` meets its contract: there are no results on EMPTY, and else the chosen ends are the true bounds.
use mathlib.Core.Logic.{inl}
use Rattle.patterns.specs.Format.{binary64, infinity, sign_bit}
use Rattle.meaning.specs.Pairs.{minus_infinity}
use Rattle.meaning.specs.Points.{min}
use Rattle.truth.proofs.AnswerLaws.{said_yes, said_no}
use Rattle.end_pairs.proofs.EmptyLaws.{neither_empty, empty_hull₂}
use Rattle.set_op.proofs.TrueEnds.{span_of_lem, exact_proper, exact_answer_lem}
use Rattle.absmax.proofs.Extremes.{min_exact}
use Rattle.absmax.proofs.bare.min_of.Goals as goal

pub returns-then-either_empty : goal.returns-then-either_empty
unfolding infinity sign_bit minus_infinity
returns-then-either_empty c = empty_hull₂ binary64 min _ _ (said_yes c.either_empty.ensures c.if-either_empty.true)

pub canonical-requires : goal.canonical-requires
canonical-requires c =
    let (x, y) = neither_empty binary64 c.requires (said_no c.either_empty.ensures c.if-either_empty.false) in
    inl (exact_proper binary64 _ (min_exact binary64 (span_of_lem binary64 _ x) (span_of_lem binary64 _ y) c.lesser.ensures c.lesser-2.ensures))

pub returns : goal.returns
returns c =
    let (x, y) = neither_empty binary64 c.requires (said_no c.either_empty.ensures c.if-either_empty.false) in
    exact_answer_lem binary64
    (min_exact binary64 (span_of_lem binary64 _ x) (span_of_lem binary64 _ y) c.lesser.ensures c.lesser-2.ensures)
    c.canonical.ensures
