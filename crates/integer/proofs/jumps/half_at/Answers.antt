-- `jumps::half_at` meets its contract: only a finite end has a fractional part.
use Rattle.patterns.specs.Format.{binary64, sign_bit}
use Rattle.truth.proofs.AnswerLaws.{said_yes, no_so}
use Rattle.integer.proofs.JumpLaws.{answers_half, half_finite}
use Rattle.integer.proofs.jumps.half_at.Goals as goal

pub returns-then-is_finite : goal.returns-then-is_finite
returns-then-is_finite c = answers_half binary64 (said_yes c.is_finite.ensures c.if-is_finite.true) c.has_half.ensures

pub returns-else-is_finite : goal.returns-else-is_finite
unfolding sign_bit
returns-else-is_finite c = no_so (half_finite binary64 c.ranges.b.fits) c.is_finite.ensures c.if-is_finite.false
