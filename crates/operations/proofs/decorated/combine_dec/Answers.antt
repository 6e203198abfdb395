-- `decorated::combine_dec` meets its contract: NaI gives NaI, and intervals the bare answer with its decoration.
use Rattle.patterns.specs.Format.{binary64, infinity, quiet_nan}
use Rattle.operation_steps.proofs.SortedLaws.{intervals, right_nai_lem, right_interval_lem}
use Rattle.operations.proofs.decorated.combine_dec.Goals as goal

pub allowed_two-requires : goal.allowed_two-requires
allowed_two-requires c = (intervals c.two_operands.ensures c.in-Some.is).bares.1

pub returns-in-None : goal.returns-in-None
unfolding infinity quiet_nan
returns-in-None c = right_nai_lem c.two_operands.ensures binary64 c.in-None.is

pub returns-in-Some : goal.returns-in-Some
returns-in-Some c =
    right_interval_lem c.two_operands.ensures c.in-Some.is
    c.combine.ensures (c.allowed_two.ensures _) c.decorate.ensures
