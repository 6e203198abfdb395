-- `≼` and `≺` are orders that comparisons ask for.
use Rattle.meaning.specs.Fraction.{◌≼◌, ◌≺◌}
use Rattle.meaning.proofs.FractionLaws.{le_trans, lt_le_trans, le_lt_trans, lt_le, neg_le, neg_lt}
use Rattle.comparison_laws.specs.Ends.{Ascending}

pub weak : Ascending ◌≼◌
weak = record { of_less = lt_le; at_most_lem = λ h. h; from_below = le_trans; to_above = le_trans; mirrored = neg_le }

pub strict : Ascending ◌≺◌
strict = record { of_less = λ h. h; at_most_lem = lt_le; from_below = le_lt_trans; to_above = lt_le_trans; mirrored = neg_lt }
