-- `magnitudes::upward` meets its contract: a whole number stays, and between two the upper is taken.
use Rattle.std.proofs.Common.{rules}
use Rattle.patterns.specs.Format.{binary64}
use Rattle.points.specs.Functions.{keeps_ceil}
use Rattle.wholes.proofs.MagnitudeLaws.{made, ceil_made}
use Rattle.wholes.proofs.magnitudes.upward.Goals as goal

pub returns : goal.returns
returns c = made binary64 _ _ keeps_ceil c.requires c.split.ensures c.map_or.ensures (λ x e p. ceil_made e (search rules))
