-- `quotient::quotient_at` meets its contract: each arm works out the corner that it names.
use mathlib.Core.Logic.{⊎_elim}
use Rattle.patterns.specs.Format.{binary64, infinity}
use Rattle.points.proofs.Exactly.{exact_infinity}
use Rattle.arith_ends.proofs.EndLaws.{zero_end}
use Rattle.arith_ends.proofs.quotient.quotient_at.Goals as goal

pub returns-in-Zero : goal.returns-in-Zero
returns-in-Zero c = rw c.in-Zero.is (zero_end binary64)

pub returns-in-Greater : goal.returns-in-Greater
unfolding infinity
returns-in-Greater c =
    ⊎_elim (λ e. absurd (rw e at c.requires)) (λ e. rw e (exact_infinity binary64)) c.in-Greater.is
