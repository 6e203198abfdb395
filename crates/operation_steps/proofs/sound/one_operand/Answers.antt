-- `sound::one_operand` meets its contract: a sound operand is NaI or an interval.
use mathlib.Core.Path.{refl}
use Rattle.patterns.specs.Format.{binary64}
use Rattle.truth.proofs.AnswerLaws.{said_yes, said_no}
use Rattle.operation_steps.specs.Sorted.{sorted_nai, sorted_intervals}
use Rattle.operation_steps.proofs.SortedLaws.{sound_bare, sound_not_ill}
use Rattle.operation_steps.proofs.sound.one_operand.Goals as goal

pub returns-then-are_nans : goal.returns-then-are_nans
returns-then-are_nans c = sorted_nai (said_yes c.are_nans.ensures c.if-are_nans.true)

pub returns : goal.returns
returns c =
    let n = said_no c.are_nans.ensures c.if-are_nans.false in
    sorted_intervals
    (record { not_nai = n; bares = sound_bare binary64 c.requires n; not_ill = sound_not_ill binary64 c.requires n; is = refl })
