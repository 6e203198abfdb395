-- `digits::big` meets its contract: big-endian bytes are those of rising weight, reversed.
use mathlib.Core.Path.{◌∙◌}
use Rattle.ends_in_bytes.proofs.ByteLaws.{to_big}
use Rattle.ends_in_bytes.proofs.digits.big.Goals as goal

pub returns : goal.returns
returns c = c.to_be_bytes.ensures ∙ to_big c.args.n
