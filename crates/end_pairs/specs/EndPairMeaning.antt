-- What the code's two ends are in the terms of document 01.
use Rattle.meaning.specs.Pairs.{Pair}
use Rattle.end_pairs.specs.declared.types.EndPair.{EndPair}

abbrev pub pair_of : EndPair → Pair
pair_of x = record { lower = x.a; upper = x.b }
