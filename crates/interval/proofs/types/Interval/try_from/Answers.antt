-- `Interval::try_from` meets its contract: ends that are no interval's are refused, and others answered with their zeros as the
-- bytes have them.
use mathlib.Core.Path.{subst⁻¹}
use Rattle.patterns.specs.Format.{binary64}
use Rattle.meaning.specs.Bytes.{Tidied}
use Rattle.refusals.proofs.FoundLaws.{sound₁, given₁, refused₁, sound_bare}
use Rattle.interval.specs.IntervalMeaning.{pair_of}
use Rattle.interval.proofs.types.Interval.try_from.Goals as goal

pub canonical-requires : goal.canonical-requires
canonical-requires c = sound_bare (sound₁ c.judge.ensures c.in_ok-judge.was)

pub from_ends-requires : goal.from_ends-requires
from_ends-requires c = c.canonical.ensures.canonical.bare

pub returns : goal.returns
returns c = given₁ c.judge.ensures c.in_ok-judge.was (subst⁻¹ (Tidied binary64 _) c.from_ends.ensures c.canonical.ensures)

pub returns-in_err-judge : goal.returns-in_err-judge
returns-in_err-judge c = refused₁ c.judge.ensures pair_of c.from_residual.result c.in_err-judge.was c.from_residual.ensures.1
