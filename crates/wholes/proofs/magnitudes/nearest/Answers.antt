-- `magnitudes::nearest` meets its contract: a whole number stays, and between two the nearer is taken, or the upper.
use Rattle.std.proofs.Common.{rules}
use Rattle.patterns.specs.Format.{binary64}
use Rattle.points.specs.Functions.{keeps_round}
use Rattle.wholes.proofs.MagnitudeLaws.{made, round_made}
use Rattle.wholes.proofs.magnitudes.nearest.Goals as goal

pub returns : goal.returns
returns c = made binary64 _ _ keeps_round c.requires c.split.ensures c.map_or.ensures (λ x e p. round_made e (search rules))
