-- `tests::is_finite` meets its contract: a finite pattern's magnitude is below that of infinity.
use Rattle.patterns.specs.Format.{binary64, infinity, sign_bit}
use Rattle.patterns.specs.Value.{magnitude}
use Rattle.end_pairs.proofs.TestLaws.{answers_finite}
use Rattle.end_pairs.proofs.tests.is_finite.Goals as goal

pub returns : goal.returns
unfolding infinity sign_bit magnitude
returns c = answers_finite binary64 c.ranges.b.fits
