-- `digits::little` meets its contract: little-endian bytes are those of rising weight.
use mathlib.Core.Path.{◌∙◌}
use Rattle.ends_in_bytes.proofs.ByteLaws.{to_little}
use Rattle.ends_in_bytes.proofs.digits.little.Goals as goal

pub returns : goal.returns
returns c = c.to_le_bytes.ensures ∙ to_little c.args.n
