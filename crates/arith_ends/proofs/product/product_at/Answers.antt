-- `product::product_at` meets its contract: each arm works out the corner that it names.
use Rattle.patterns.specs.Format.{binary64, infinity}
use Rattle.points.proofs.Exactly.{exact_infinity}
use Rattle.arith_ends.proofs.EndLaws.{zero_end}
use Rattle.arith_ends.proofs.GreaterLaws.{greater_rounded}
use Rattle.arith_ends.proofs.product.product_at.Goals as goal

pub returns-in-Greater : goal.returns-in-Greater
returns-in-Greater c =
    rw c.in-Greater.is
    (greater_rounded binary64 c.product_end-in-Greater.ensures c.product_end-in-Greater-2.ensures c.greater.ensures)

pub returns-in-Zero : goal.returns-in-Zero
returns-in-Zero c = rw c.in-Zero.is (zero_end binary64)

pub returns-in-Unbounded : goal.returns-in-Unbounded
unfolding infinity
returns-in-Unbounded c = rw c.in-Unbounded.is (exact_infinity binary64)
