-- `tests::are_nans` meets its contract: both ends are compared.
use Rattle.patterns.specs.Format.{infinity, quiet_nan}
use Rattle.truth.proofs.AnswerLaws.{answers_iff}
use Rattle.end_pairs.proofs.TestLaws.{answers_both}
use Rattle.end_pairs.proofs.tests.are_nans.Goals as goal

pub returns : goal.returns
unfolding infinity quiet_nan
returns c =
    rw c.eq.ensures
    (answers_iff (λ e. record { lower_is = e.0; upper_is = e.1 }) (λ p. (p.lower_is, p.upper_is)) (answers_both c.args.x.a c.args.x.b _ _))
