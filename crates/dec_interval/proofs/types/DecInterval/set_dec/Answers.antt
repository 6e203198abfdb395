-- `DecInterval::set_dec` meets its contract: what is found wrong is refused, and a sound operand answered.
use Rattle.refusals.proofs.FoundLaws.{sound₁, given₁, refused₁, sound_bare}
use Rattle.dec_interval.specs.DecIntervalMeaning.{dec_pair_of}
use Rattle.dec_interval.proofs.types.DecInterval.set_dec.Goals as goal

pub with_decoration-requires : goal.with_decoration-requires
with_decoration-requires c = sound_bare (sound₁ c.judge.ensures c.in_ok-judge.was)

pub returns : goal.returns
returns c =
    given₁ c.judge.ensures c.in_ok-judge.was c.with_decoration.ensures

pub returns-in_err-judge : goal.returns-in_err-judge
returns-in_err-judge c = refused₁ c.judge.ensures dec_pair_of c.from_residual.result c.in_err-judge.was c.from_residual.ensures.1
