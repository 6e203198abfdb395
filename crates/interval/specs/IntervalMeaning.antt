-- What the code's bare intervals are in the terms of document 01.
use Rattle.meaning.specs.Pairs.{Pair}
use Rattle.end_pairs.specs.EndPairMeaning as two
use Rattle.interval.specs.declared.types.Interval.{Interval}

abbrev pub pair_of : Interval → Pair
pair_of x = two.pair_of x.ends
