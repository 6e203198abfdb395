-- `valid::overlap_of_dec` meets its contract: NaI has no state, and intervals have that of the bare ones.
use mathlib.Core.Path.{refl}
use Rattle.meaning.specs.Overlap.{nai_state, interval_state}
use Rattle.operation_steps.proofs.SortedLaws.{nai_lem, intervals}
use Rattle.overlap.specs.OverlapMeaning.{state_of}
use Rattle.overlap.proofs.valid.overlap_of_dec.Goals as goal

pub overlap_of-requires : goal.overlap_of-requires
overlap_of-requires c = (intervals c.two_operands.ensures c.in_ok-two_operands.was).bares

pub returns-in_err-two_operands : goal.returns-in_err-two_operands
returns-in_err-two_operands c =
    rw c.from_residual.ensures (nai_state (nai_lem c.two_operands.ensures c.in_err-two_operands.was))

pub returns : goal.returns
returns c =
    interval_state (intervals c.two_operands.ensures c.in_ok-two_operands.was).not_nai
    (record { state = state_of c.overlap_of.result; holds = c.overlap_of.ensures; is = refl })
