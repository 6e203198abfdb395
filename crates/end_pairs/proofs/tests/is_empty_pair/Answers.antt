-- `tests::is_empty_pair` meets its contract: both ends are compared.
use Rattle.patterns.specs.Format.{infinity, sign_bit}
use Rattle.meaning.specs.Pairs.{minus_infinity}
use Rattle.truth.proofs.AnswerLaws.{answers_iff}
use Rattle.end_pairs.proofs.TestLaws.{answers_both}
use Rattle.end_pairs.proofs.tests.is_empty_pair.Goals as goal

pub returns : goal.returns
unfolding infinity sign_bit minus_infinity
returns c =
    rw c.eq.ensures
    (answers_iff (λ e. record { lower_is = e.0; upper_is = e.1 }) (λ p. (p.lower_is, p.upper_is)) (answers_both c.args.x.a c.args.x.b _ _))
