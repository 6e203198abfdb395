-- `ends::both_finite` meets its contract: each end is tested.
use Rattle.truth.proofs.AnswerLaws.{answers_iff, said_yes, no_so}
use Rattle.arith_ends.proofs.ends.both_finite.Goals as goal

pub returns-then-is_finite : goal.returns-then-is_finite
returns-then-is_finite c = answers_iff (λ f. (said_yes c.is_finite.ensures c.if-is_finite.true, f)) (λ p. p.1) c.is_finite-then-is_finite.ensures

pub returns-else-is_finite : goal.returns-else-is_finite
returns-else-is_finite c = no_so (λ p. p.0) c.is_finite.ensures c.if-is_finite.false
