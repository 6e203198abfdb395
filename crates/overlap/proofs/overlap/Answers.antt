-- `overlap` meets its contract: what is found wrong is refused, and sound operands are answered.
use mathlib.Core.Path.{refl}
use Rattle.refusals.proofs.FoundLaws.{sound_bare}
use Rattle.operation_steps.proofs.TwoLaws.{sound₂, given₂, refused₂}
use Rattle.overlap.specs.OverlapMeaning.{state_of, number_of}
use Rattle.overlap.proofs.overlap.Goals as goal

pub overlap_of-requires : goal.overlap_of-requires
overlap_of-requires c =
    let (x, y) = sound₂ c.judge_two.ensures c.in_ok-judge_two.was in
    (sound_bare x, sound_bare y)

pub returns : goal.returns
returns c =
    given₂ c.judge_two.ensures c.in_ok-judge_two.was
    (record { state = state_of c.overlap_of.result; holds = c.overlap_of.ensures; is = refl })

pub returns-in_err-judge_two : goal.returns-in_err-judge_two
returns-in_err-judge_two c = refused₂ c.judge_two.ensures number_of c.from_residual.result c.in_err-judge_two.was c.from_residual.ensures.1
