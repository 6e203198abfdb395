-- `mirror::opposite` meets its contract: the sign bit is flipped.
use Rattle.end_pairs.proofs.MirrorLaws.{sign_flipped}
use Rattle.end_pairs.proofs.mirror.opposite.Goals as goal

pub returns : goal.returns
returns c = sign_flipped c.ranges.b.fits
