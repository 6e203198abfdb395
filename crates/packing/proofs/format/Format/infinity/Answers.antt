-- `packing::format::Format::infinity` meets its contract: the shift drops nothing.
use Rattle.packing.proofs.WordLaws.{field_shifts}
use Rattle.packing.proofs.format.Format.infinity.Goals as goal

pub returns : goal.returns
returns c = field_shifts c.args.self.narrow c.args.self.coded
