-- `DecInterval::interval` meets its contract: what is found wrong is refused, and a sound operand answered.
use mathlib.Core.Path.{subst⁻¹}
use Rattle.patterns.specs.Format.{binary64}
use Rattle.meaning.specs.Bytes.{Tidied}
use Rattle.dec_interval.specs.Values.{is_part, is_missing}
use Rattle.truth.proofs.AnswerLaws.{said_yes, said_no}
use Rattle.meaning.proofs.KindLaws.{only_bare}
use Rattle.refusals.proofs.FoundLaws.{sound₁, given₁, refused₁}
use Rattle.decorations.proofs.AgreeLaws.{sound_ends}
use Rattle.dec_interval.specs.DecIntervalMeaning.{part_of}
use Rattle.dec_interval.proofs.types.DecInterval.interval.Goals as goal

pub returns-then-are_nans : goal.returns-then-are_nans
returns-then-are_nans c =
    given₁ c.judge.ensures c.in_ok-judge.was (is_missing (said_yes c.are_nans.ensures c.if-are_nans.true))

pub canonical-requires : goal.canonical-requires
canonical-requires c =
    only_bare binary64
    (sound_ends (sound₁ c.judge.ensures c.in_ok-judge.was))
    (said_no c.are_nans.ensures c.if-are_nans.false)

pub from_ends-requires : goal.from_ends-requires
from_ends-requires c = c.canonical.ensures.canonical.bare

pub returns : goal.returns
returns c =
    given₁ c.judge.ensures c.in_ok-judge.was (is_part (said_no c.are_nans.ensures c.if-are_nans.false)
    (subst⁻¹ (Tidied binary64 _) c.from_ends.ensures c.canonical.ensures))

pub returns-in_err-judge : goal.returns-in_err-judge
returns-in_err-judge c = refused₁ c.judge.ensures part_of c.from_residual.result c.in_err-judge.was c.from_residual.ensures.1
