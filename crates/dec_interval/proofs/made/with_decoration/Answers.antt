-- `made::with_decoration` meets its contract: Ill gives NaI, any other decoration the tidied interval.
use mathlib.Core.Path.{subst⁻¹}
use Rattle.patterns.specs.Format.{binary64, infinity, quiet_nan}
use Rattle.meaning.specs.Bytes.{Tidied}
use Rattle.dec_interval.specs.Values.{set_nai, set_interval}
use Rattle.std.proofs.Common.{rules}
use Rattle.dec_interval.proofs.made.with_decoration.Goals as goal

pub returns-then-eq : goal.returns-then-eq
unfolding infinity quiet_nan
returns-then-eq c = set_nai (search rules)

pub from_ends-requires : goal.from_ends-requires
from_ends-requires c = c.canonical.ensures.canonical.bare

pub returns : goal.returns
returns c =
    set_interval
    (λ e. search rules)
    (subst⁻¹ (Tidied binary64 _) c.from_ends.ensures c.canonical.ensures) c.settled.ensures
