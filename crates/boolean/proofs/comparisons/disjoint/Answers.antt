-- `comparisons::disjoint` meets its contract: each is tested to precede the other.
use mathlib.Core.Logic.{inl}
use Rattle.patterns.specs.Format.{binary64}
use Rattle.meaning.proofs.PairLaws.{set_valid}
use Rattle.truth.proofs.AnswerLaws.{answers_iff, said_no, yes_so, or_else}
use Rattle.comparison_laws.proofs.MemberSets.{disjoint_either}
use Rattle.boolean.proofs.comparisons.disjoint.Goals as goal

pub returns-then-strict_precedes : goal.returns-then-strict_precedes
returns-then-strict_precedes c =
    let (x, y) = c.requires in
    yes_so (λ s. (disjoint_either (set_valid binary64 _ x) (set_valid binary64 _ y)).0 (inl s)) c.strict_precedes.ensures c.if-strict_precedes.true

pub returns-else-strict_precedes : goal.returns-else-strict_precedes
returns-else-strict_precedes c =
    let (x, y) = c.requires in
    let either = disjoint_either (set_valid binary64 _ x) (set_valid binary64 _ y) in
    answers_iff either.0 either.1 (or_else (said_no c.strict_precedes.ensures c.if-strict_precedes.false) c.strict_precedes-else-strict_precedes.ensures)
