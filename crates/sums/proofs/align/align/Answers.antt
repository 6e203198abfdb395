-- `sums::align::align` meets its contract by the two laws of alignment, which its number of guard digits allows.
use lib.Dec.{lit≤}
use Rattle.sums.proofs.AlignLaws.{aligns_near, aligns_far}
use Rattle.sums.proofs.align.align.Goals as goal

pub returns-then-distance-le-GUARD-clause-aligns : goal.returns-then-distance-le-GUARD-clause-aligns
returns-then-distance-le-GUARD-clause-aligns c = aligns_near c.requires (record { enough = lit≤ tt; room = lit≤ tt }) c.if-distance-le-GUARD.true

pub returns-clause-aligns : goal.returns-clause-aligns
returns-clause-aligns c = aligns_far c.requires (record { enough = lit≤ tt; room = lit≤ tt }) c.if-distance-le-GUARD.false c.cut-tail.ensures.cuts c.cut-tail.ensures.brackets
