-- `valid::overlap_of` meets its contract: EMPTY is told first, and the keys of the ends are ordered as the ends are.
use mathlib.Core.Path.{refl}
use Rattle.patterns.specs.Format.{binary64}
use Rattle.truth.proofs.AnswerLaws.{said_yes, said_no}
use Rattle.end_pairs.proofs.EmptyLaws.{not_empty_lem}
use Rattle.overlap.specs.OverlapMeaning.{state_of}
use Rattle.overlap.proofs.EndKeys.{both_empty_lem, first_empty_lem, second_empty_lem, neither_empty}
use Rattle.overlap.proofs.valid.overlap_of.Goals as goal

pub returns-in-true-true : goal.returns-in-true-true
returns-in-true-true c =
    both_empty_lem binary64 _ _ (said_yes c.in-true-true.ensures refl) (said_yes c.in-true-true.ensures' refl)

pub returns-in-true-false : goal.returns-in-true-false
returns-in-true-false c =
    first_empty_lem binary64 _ _ (said_yes c.in-true-false.ensures refl)
    (not_empty_lem binary64 c.requires.1 (said_no c.in-true-false.ensures' refl))

pub returns-in-false-true : goal.returns-in-false-true
returns-in-false-true c =
    second_empty_lem binary64 _ _ (not_empty_lem binary64 c.requires.0 (said_no c.in-false-true.ensures refl))
    (said_yes c.in-false-true.ensures' refl)

pub returns-in-false-false : goal.returns-in-false-false
returns-in-false-false c =
    let (x, y) = c.requires in
    neither_empty binary64 _ _
    (not_empty_lem binary64 x (said_no c.in-false-false.ensures refl))
    (not_empty_lem binary64 y (said_no c.in-false-false.ensures' refl))
    (state_of c.compare.result)
    (rw (c.key.ensures, c.key-in-false-false.ensures, c.key-in-false-false-2.ensures, c.key-in-false-false-3.ensures) at
    c.compare.ensures)
