-- `bare::convex_hull_of` meets its contract: EMPTY adds nothing to the other operand, and else the chosen ends are the true bounds.
use mathlib.Core.Logic.{inl}
use Rattle.patterns.specs.Format.{binary64}
use Rattle.truth.proofs.AnswerLaws.{said_yes, said_no}
use Rattle.end_pairs.proofs.EmptyLaws.{not_empty_lem}
use Rattle.set_op.proofs.TrueEnds.{span_of_lem, exact_proper, exact_answer_lem}
use Rattle.set_op.proofs.SetOperations.{hull_first, hull_second, hull_exact}
use Rattle.set_op.proofs.bare.convex_hull_of.Goals as goal

pub returns-then-is_empty_pair : goal.returns-then-is_empty_pair
returns-then-is_empty_pair c = hull_second binary64 _ _ (said_yes c.is_empty_pair.ensures c.if-is_empty_pair.true) c.canonical.ensures

pub returns-then-is_empty_pair-2 : goal.returns-then-is_empty_pair-2
returns-then-is_empty_pair-2 c = hull_first binary64 _ _ (said_yes c.is_empty_pair-2.ensures c.if-is_empty_pair-2.true) c.canonical-then-is_empty_pair-2.ensures

pub canonical-requires-2 : goal.canonical-requires-2
canonical-requires-2 c =
    let (x, y) = c.requires in
    let h = not_empty_lem binary64 x (said_no c.is_empty_pair.ensures c.if-is_empty_pair.false) in
    let k = not_empty_lem binary64 y (said_no c.is_empty_pair-2.ensures c.if-is_empty_pair-2.false) in
    inl (exact_proper binary64 _ (hull_exact binary64 (span_of_lem binary64 _ h) (span_of_lem binary64 _ k) c.lesser.ensures c.greater.ensures))

pub returns : goal.returns
returns c =
    let (x, y) = c.requires in
    let h = not_empty_lem binary64 x (said_no c.is_empty_pair.ensures c.if-is_empty_pair.false) in
    let k = not_empty_lem binary64 y (said_no c.is_empty_pair-2.ensures c.if-is_empty_pair-2.false) in
    exact_answer_lem binary64
    (hull_exact binary64 (span_of_lem binary64 _ h) (span_of_lem binary64 _ k) c.lesser.ensures c.greater.ensures)
    c.canonical-2.ensures
