-- `Interval::is_common_interval` meets its contract: what is found wrong is refused, and a sound operand answered.
use Rattle.patterns.specs.Format.{binary64}
use Rattle.end_pairs.proofs.Shapes.{answers_common}
use Rattle.refusals.proofs.FoundLaws.{sound₁, given₁, refused₁, sound_bare}
use Rattle.interval.proofs.types.Interval.is_common_interval.Goals as goal

pub returns : goal.returns
returns c =
    given₁ c.judge.ensures c.in_ok-judge.was (answers_common binary64 _ (sound_bare (sound₁ c.judge.ensures c.in_ok-judge.was)) c.is_bounded.ensures)

pub returns-in_err-judge : goal.returns-in_err-judge
returns-in_err-judge c = refused₁ c.judge.ensures (λ answer. answer) c.from_residual.result c.in_err-judge.was c.from_residual.ensures.1
