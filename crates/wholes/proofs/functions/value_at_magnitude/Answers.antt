-- `functions::value_at_magnitude` meets its contract: each name has its function, and trunc is floor on magnitudes.
use mathlib.Core.Logic.{⊎_elim}
use Rattle.patterns.specs.Format.{binary64}
use Rattle.wholes.proofs.SignedLaws.{trunc_made}
use Rattle.wholes.proofs.functions.value_at_magnitude.Goals as goal

pub returns-in-Floor : goal.returns-in-Floor
returns-in-Floor c =
    ⊎_elim (λ e. rw e c.downward.ensures) (λ e. rw e (trunc_made binary64 c.requires c.downward.ensures)) c.in-Floor.is
