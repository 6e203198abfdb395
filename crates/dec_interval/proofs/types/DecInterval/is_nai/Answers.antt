-- `DecInterval::is_nai` meets its contract: what is found wrong is refused, and a sound operand answered.
use Rattle.refusals.proofs.FoundLaws.{given₁, refused₁}
use Rattle.dec_interval.proofs.types.DecInterval.is_nai.Goals as goal

pub returns : goal.returns
returns c =
    given₁ c.judge.ensures c.in_ok-judge.was c.are_nans.ensures

pub returns-in_err-judge : goal.returns-in_err-judge
returns-in_err-judge c = refused₁ c.judge.ensures (λ answer. answer) c.from_residual.result c.in_err-judge.was c.from_residual.ensures.1
