-- `judging::judge_two` meets its contract: what is found of the operands decides, the first before the second.
use Rattle.refusals.proofs.FoundLaws.{sound₁}
use Rattle.operation_steps.proofs.TwoLaws.{first_wrong, second_found}
use Rattle.operation_steps.proofs.judging.judge_two.Goals as goal

pub returns-in_err-judge : goal.returns-in_err-judge
returns-in_err-judge g c = first_wrong c.judge.ensures c.in_err-judge.was c.from_residual.result c.from_residual.ensures.1

pub returns : goal.returns
returns g c =
    second_found (sound₁ c.judge.ensures c.in_ok-judge.was) c.judge-2.result c.judge-2.ensures c.map_err.result c.map_err.ensures.cases
