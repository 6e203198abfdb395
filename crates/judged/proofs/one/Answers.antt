-- `one` meets its contract: what is found wrong is refused, and a sound operand is answered.
use Rattle.refusals.proofs.FoundLaws.{given₁, refused₁}
use Rattle.judged.proofs.one.Goals as goal

pub returns-in_err-judge : goal.returns-in_err-judge
returns-in_err-judge g c = refused₁ c.judge.ensures g.T.Form.value c.from_residual.result c.in_err-judge.was c.from_residual.ensures.1

pub returns : goal.returns
returns g c = given₁ c.judge.ensures c.in_ok-judge.was c.image.ensures
