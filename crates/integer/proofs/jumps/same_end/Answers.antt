-- `jumps::same_end` meets its contract: ends agree exactly if their keys do.
use Rattle.patterns.specs.Format.{binary64}
use Rattle.integer.proofs.EndComparison.{answers_same}
use Rattle.integer.proofs.jumps.same_end.Goals as goal

pub returns : goal.returns
returns c = rw (c.key.ensures, c.key-2.ensures) (answers_same binary64 c.requires)
