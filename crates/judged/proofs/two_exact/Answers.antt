-- `two_exact` meets its contract: what is found wrong is refused, and sound operands are answered.
use Rattle.refusals.proofs.FoundLaws.{sound_bare}
use Rattle.operation_steps.proofs.TwoLaws.{sound₂, given₂, refused₂}
use Rattle.exact_operations.specs.ExactIntervals.{exact_pair_of}
use Rattle.judged.proofs.two_exact.Goals as goal

pub combine_exact-requires : goal.combine_exact-requires
combine_exact-requires c =
    let (x, y) = sound₂ c.judge_two.ensures c.in_ok-judge_two.was in
    (sound_bare x, sound_bare y)

pub returns : goal.returns
returns c = given₂ c.judge_two.ensures c.in_ok-judge_two.was c.combine_exact.ensures

pub returns-in_err-judge_two : goal.returns-in_err-judge_two
returns-in_err-judge_two c =
    refused₂ c.judge_two.ensures exact_pair_of c.from_residual.result c.in_err-judge_two.was c.from_residual.ensures.1
