-- `comparisons::subset` meets its contract: what is above is tested, and then what is below.
use Rattle.patterns.specs.Format.{binary64}
use Rattle.meaning.specs.Pairs.{set_of}
use Rattle.truth.proofs.AnswerLaws.{answers_iff, said_yes, no_so, and_then}
use Rattle.end_pairs.specs.EndPairMeaning.{pair_of}
use Rattle.comparison_laws.proofs.MemberSets.{subset_halves}
use Rattle.boolean.proofs.comparisons.subset.Goals as goal

pub returns-then-reaches : goal.returns-then-reaches
returns-then-reaches c =
    let a = c.args in
    let halves = subset_halves (set_of binary64 (pair_of a.x)) (set_of binary64 (pair_of a.y)) in
    answers_iff halves.0 halves.1 (and_then (said_yes c.reaches.ensures c.if-reaches.true) c.reaches_down.ensures)

pub returns-else-reaches : goal.returns-else-reaches
returns-else-reaches c =
    let a = c.args in
    let halves = subset_halves (set_of binary64 (pair_of a.x)) (set_of binary64 (pair_of a.y)) in
    no_so (λ s. (halves.1 s).0) c.reaches.ensures c.if-reaches.false
