-- What the code's decorated intervals are in the terms of document 01.
use Rattle.std.specs.Prelude.{Option, Some, None}
use Rattle.meaning.specs.Statement.{DecPair}
use Rattle.interval.specs.IntervalMeaning.{pair_of}
use Rattle.interval.specs.declared.types.Interval.{Interval}
use Rattle.decorations.specs.DecorationMeaning.{decoration_of}
use Rattle.dec_interval.specs.Values.{Part, part, no_part}
use Rattle.dec_interval.specs.declared.types.DecInterval.{DecInterval}

abbrev pub dec_pair_of : DecInterval → DecPair
dec_pair_of x = record { pair = pair_of x.x; decoration = decoration_of x.d }

-- The interval part, which NaI lacks.
abbrev pub part_of : Option Interval → Part
part_of (Some x) = part (pair_of x)
part_of None = no_part
