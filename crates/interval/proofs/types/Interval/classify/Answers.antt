-- `Interval::classify` meets its contract: what is found wrong is refused, and a sound operand answered.
use Rattle.classify.specs.ClassMeaning.{class_of}
use Rattle.refusals.proofs.FoundLaws.{sound₁, given₁, refused₁, sound_bare}
use Rattle.interval.proofs.types.Interval.classify.Goals as goal

pub classify-requires : goal.classify-requires
classify-requires c = sound_bare (sound₁ c.judge.ensures c.in_ok-judge.was)

pub returns : goal.returns
returns c =
    given₁ c.judge.ensures c.in_ok-judge.was c.classify.ensures

pub returns-in_err-judge : goal.returns-in_err-judge
returns-in_err-judge c = refused₁ c.judge.ensures class_of c.from_residual.result c.in_err-judge.was c.from_residual.ensures.1
