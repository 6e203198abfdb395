-- `packing::format::Format::distance` meets its contract: as far as digits are missing, or as the exponent goes.
use Rattle.packing.proofs.NormalLaws.{raises}
use Rattle.packing.proofs.format.Format.distance.Goals as goal

pub returns : goal.returns
returns c = raises c.args.self.narrow c.missing.ensures c.min.ensures
