-- `digits::read_end` meets its contract: big-endian bytes are those of rising weight, reversed.
use mathlib.Core.Path.{◌∙◌}
use borrow.Author.Rules.{rules}
use Rattle.ends_in_bytes.proofs.ByteLaws.{from_big, from_little}
use Rattle.ends_in_bytes.proofs.digits.read_end.Goals as goal

pub returns-in-Big : goal.returns-in-Big
returns-in-Big c = simp c.in-Big.is (c.from_be_bytes.ensures ∙ from_big c.args.d (search rules))

pub returns-in-Little : goal.returns-in-Little
returns-in-Little c = simp c.in-Little.is (c.from_le_bytes.ensures ∙ from_little c.args.d (search rules))
