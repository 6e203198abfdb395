-- `exact::product_is_exact_at` meets its contract: each arm asks of the corner that it names.
use mathlib.Core.Logic.{⊎_elim}
use Rattle.patterns.specs.Format.{binary64}
use Rattle.truth.specs.Answers.{affirmed}
use Rattle.arith_ends.proofs.EndLaws.{infinite_exact, zero_exact}
use Rattle.arith_ends.proofs.exact.product_is_exact_at.Goals as goal

pub returns-in-Zero : goal.returns-in-Zero
returns-in-Zero c =
    ⊎_elim (λ e. rw e (affirmed (zero_exact binary64))) (λ e. rw e (affirmed (infinite_exact binary64))) c.in-Zero.is
