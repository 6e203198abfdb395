-- `overlap_dec` meets its contract: what is found wrong is refused, and sound operands are answered.
use Rattle.operation_steps.proofs.TwoLaws.{given₂, refused₂}
use Rattle.overlap.specs.OverlapMeaning.{dec_number_of}
use Rattle.overlap.proofs.overlap_dec.Goals as goal

pub returns : goal.returns
returns c = given₂ c.judge_two.ensures c.in_ok-judge_two.was c.overlap_of_dec.ensures

pub returns-in_err-judge_two : goal.returns-in_err-judge_two
returns-in_err-judge_two c =
    refused₂ c.judge_two.ensures dec_number_of c.from_residual.result c.in_err-judge_two.was c.from_residual.ensures.1
