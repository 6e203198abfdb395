-- `magnitudes::nearest_even` meets its contract: a whole number stays, and between two the nearer is taken, or the even one.
use Rattle.std.proofs.Common.{rules}
use Rattle.patterns.specs.Format.{binary64}
use Rattle.points.specs.Functions.{keeps_even}
use Rattle.wholes.proofs.MagnitudeLaws.{made, even_made}
use Rattle.wholes.proofs.magnitudes.nearest_even.Goals as goal

pub returns : goal.returns
returns c = made binary64 _ _ keeps_even c.requires c.split.ensures c.map_or.ensures (λ x e p. even_made e (search rules))
