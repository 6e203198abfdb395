-- `compare` meets its contract: what is found wrong is refused, and sound operands are compared.
use Rattle.operation_steps.proofs.TwoLaws.{given₂, refused₂}
use Rattle.judged.proofs.compare.Goals as goal

pub returns-in_err-judge_two : goal.returns-in_err-judge_two
returns-in_err-judge_two g c =
    refused₂ c.judge_two.ensures (λ answer. answer) c.from_residual.result c.in_err-judge_two.was c.from_residual.ensures.1

pub returns : goal.returns
returns g c = given₂ c.judge_two.ensures c.in_ok-judge_two.was c.compares.ensures
