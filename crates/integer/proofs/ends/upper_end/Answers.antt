-- `ends::upper_end` meets its contract: an end is infinite or a number.
use Rattle.patterns.specs.Format.{binary64, infinity}
use Rattle.integer.proofs.RisingLaws.{made_number, upper_number_lem}
use Rattle.integer.proofs.ends.upper_end.Goals as goal

pub returns-then-b-eq-INFINITY : goal.returns-then-b-eq-INFINITY
unfolding infinity
returns-then-b-eq-INFINITY c = rw c.if-b-eq-INFINITY.true c.end_of_none.ensures

pub value_at-requires : goal.value_at-requires
unfolding infinity
value_at-requires c = upper_number_lem binary64 c.requires c.if-b-eq-INFINITY.false

pub returns : goal.returns
unfolding infinity
returns c = made_number binary64 (upper_number_lem binary64 c.requires c.if-b-eq-INFINITY.false) c.value_at.ensures
