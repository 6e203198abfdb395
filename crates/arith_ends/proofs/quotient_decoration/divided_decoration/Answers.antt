-- `quotient_decoration::divided_decoration` meets its contract: the class says whether the divisor holds 0.
use Rattle.kinds.proofs.AllowedLaws.{class_allows}
use Rattle.arith_ends.proofs.quotient_decoration.divided_decoration.Goals as goal

pub returns : goal.returns
returns c = rw c.allowed.ensures (class_allows c.classify.ensures)
