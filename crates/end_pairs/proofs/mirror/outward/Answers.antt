-- `mirror::outward` meets its contract: the first end is negated.
use Rattle.end_pairs.proofs.mirror.outward.Goals as goal

pub returns : goal.returns
returns c = rw c.opposite.ensures
