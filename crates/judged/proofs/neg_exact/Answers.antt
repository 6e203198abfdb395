-- `neg_exact` meets its contract: what is found wrong is refused, and a sound operand is answered.
use Rattle.refusals.proofs.FoundLaws.{sound₁, given₁, refused₁, sound_bare}
use Rattle.exact_operations.specs.ExactIntervals.{exact_pair_of}
use Rattle.judged.proofs.neg_exact.Goals as goal

pub negate_exact-requires : goal.negate_exact-requires
negate_exact-requires c = sound_bare (sound₁ c.judge.ensures c.in_ok-judge.was)

pub returns : goal.returns
returns c = given₁ c.judge.ensures c.in_ok-judge.was c.negate_exact.ensures

pub returns-in_err-judge : goal.returns-in_err-judge
returns-in_err-judge c = refused₁ c.judge.ensures exact_pair_of c.from_residual.result c.in_err-judge.was c.from_residual.ensures.1
