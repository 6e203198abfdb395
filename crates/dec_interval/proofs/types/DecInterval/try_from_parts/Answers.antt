-- `DecInterval::try_from_parts` meets its contract: what is found wrong is refused, and a sound operand answered.
use Rattle.refusals.proofs.FoundLaws.{sound₁, given₁, refused₁}
use Rattle.decorations.proofs.AgreeLaws.{sound_ends}
use Rattle.dec_interval.specs.DecIntervalMeaning.{dec_pair_of}
use Rattle.dec_interval.proofs.types.DecInterval.try_from_parts.Goals as goal

pub canonical_dec-requires : goal.canonical_dec-requires
canonical_dec-requires c = sound_ends (sound₁ c.judge_dec.ensures c.in_ok-judge_dec.was)

pub returns : goal.returns
returns c =
    given₁ c.judge_dec.ensures c.in_ok-judge_dec.was c.canonical_dec.ensures

pub returns-in_err-judge_dec : goal.returns-in_err-judge_dec
returns-in_err-judge_dec c = refused₁ c.judge_dec.ensures dec_pair_of c.from_residual.result c.in_err-judge_dec.was c.from_residual.ensures.1
