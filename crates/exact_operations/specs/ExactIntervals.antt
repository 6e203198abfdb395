-- What the code's intervals with their flags are in the terms of ticket 2.
use Rattle.meaning.specs.Exactness.{ExactPair}
use Rattle.interval.specs.IntervalMeaning.{pair_of}
use Rattle.exact_operations.specs.declared.ExactInterval.{ExactInterval}

abbrev pub exact_pair_of : ExactInterval → ExactPair
exact_pair_of z = record { pair = pair_of z.x; lower_exact = z.exact.lower; upper_exact = z.exact.upper }
