-- `decorated::image_dec` meets its contract: NaI gives NaI, and an interval the bare answer with its decoration.
use Rattle.patterns.specs.Format.{binary64, infinity, quiet_nan}
use Rattle.operation_steps.proofs.SortedLaws.{intervals, right_nai_lem, right_interval_lem}
use Rattle.operations.proofs.decorated.image_dec.Goals as goal

pub allowed_one-requires : goal.allowed_one-requires
allowed_one-requires c =
    ((intervals c.one_operand.ensures c.in-Some.is).bares, c.image-z.ensures)

pub returns-in-None : goal.returns-in-None
unfolding infinity quiet_nan
returns-in-None c = right_nai_lem c.one_operand.ensures binary64 c.in-None.is

pub returns-in-Some : goal.returns-in-Some
returns-in-Some c =
    right_interval_lem c.one_operand.ensures c.in-Some.is
    c.image-z.ensures c.allowed_one.ensures c.decorate.ensures
