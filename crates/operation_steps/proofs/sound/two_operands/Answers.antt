-- `sound::two_operands` meets its contract: each sound operand is NaI or an interval.
use mathlib.Core.Logic.{inl, inr, ⊎_elim}
use Rattle.patterns.specs.Format.{binary64}
use Rattle.decorations.specs.DecorationMeaning.{decoration_of}
use Rattle.truth.proofs.AnswerLaws.{said_yes, said_no}
use Rattle.operation_steps.specs.Sorted.{sorted_nai, sorted_intervals}
use Rattle.operation_steps.proofs.SortedLaws.{sound_bare, sound_not_ill, lower_not_ill}
use Rattle.operation_steps.proofs.sound.two_operands.Goals as goal
use Rattle.operation_steps.proofs.sound.two_operands.Goals.{then-are_nans-via-then-are_nans, then-are_nans-via-else-are_nans+then-are_nans-2}

pub returns-then-are_nans : goal.returns-then-are_nans
returns-then-are_nans c =
    sorted_nai
    (elim c.then-are_nans.branch [
      | then-are_nans-via-then-are_nans w ↦ inl (said_yes c.are_nans.ensures w.if-are_nans.true)
      | then-are_nans-via-else-are_nans+then-are_nans-2 w ↦ inr (said_yes w.are_nans-else-are_nans.ensures w.if-are_nans-2.true)
    ])

pub returns : goal.returns
returns c =
    let m = said_no c.are_nans.ensures c.if-are_nans.false in
    let n = said_no c.are_nans-else-are_nans.ensures c.if-are_nans-2.false in
    sorted_intervals
    (record {
      not_nai = ⊎_elim m n;
      bares = (sound_bare binary64 c.requires.0 m, sound_bare binary64 c.requires.1 n);
      not_ill = lower_not_ill (decoration_of c.args.x.d) (decoration_of c.args.y.d) (sound_not_ill binary64 c.requires.0 m) (sound_not_ill binary64 c.requires.1 n);
      is = c.lower_decoration.ensures;
    })
