-- `DecInterval::try_from` meets its contract: the interval that is made is decorated, and a refusal is handed on.
use Rattle.patterns.specs.Format.{binary64}
use Rattle.refusals.proofs.FoundLaws.{handed_on}
use Rattle.interval.specs.IntervalMeaning.{pair_of}
use Rattle.dec_interval.specs.DecIntervalMeaning.{dec_pair_of}
use Rattle.dec_interval.proofs.IntervalPartLaws.{made_decorated}
use Rattle.dec_interval.proofs.types.DecInterval.try_from.Goals as goal

pub returns : goal.returns
returns c = made_decorated binary64 c.try_from.ensures c.in_ok-try_from.was c.new.ensures

pub returns-in_err-try_from : goal.returns-in_err-try_from
returns-in_err-try_from c = handed_on pair_of dec_pair_of c.from_residual.result c.try_from.ensures c.in_err-try_from.was c.from_residual.ensures.1
