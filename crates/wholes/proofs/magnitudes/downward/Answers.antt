-- `magnitudes::downward` meets its contract: a whole number stays, and between two the lower is taken.
use Rattle.std.proofs.Common.{rules}
use Rattle.patterns.specs.Format.{binary64}
use Rattle.points.specs.Functions.{keeps_floor}
use Rattle.wholes.proofs.MagnitudeLaws.{made, floor_made}
use Rattle.wholes.proofs.magnitudes.downward.Goals as goal

pub returns : goal.returns
returns c = made binary64 _ _ keeps_floor c.requires c.split.ensures c.map_or.ensures (λ x e p. floor_made e (search rules))
