-- `Interval::inf` meets its contract: what is found wrong is refused, and a sound operand answered.
use mathlib.Core.Path.{refl}
use Rattle.refusals.proofs.FoundLaws.{sound₁, given₁, refused₁, sound_bare}
use Rattle.interval.proofs.types.Interval.inf.Goals as goal

pub canonical-requires : goal.canonical-requires
canonical-requires c = sound_bare (sound₁ c.judge.ensures c.in_ok-judge.was)

pub returns : goal.returns
returns c =
    given₁ c.judge.ensures c.in_ok-judge.was
    (record { tidied = _; is = c.canonical.ensures; lower = refl })

pub returns-in_err-judge : goal.returns-in_err-judge
returns-in_err-judge c = refused₁ c.judge.ensures (λ end. end) c.from_residual.result c.in_err-judge.was c.from_residual.ensures.1
