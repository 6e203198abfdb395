-- `mirror::mirrored` meets its contract: the ends are negated and exchanged.
use Rattle.end_pairs.proofs.mirror.mirrored.Goals as goal

pub returns : goal.returns
returns c = rw (← c.opposite.ensures) c.outward.ensures
