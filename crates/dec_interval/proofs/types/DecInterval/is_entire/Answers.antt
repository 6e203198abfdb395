-- `DecInterval::is_entire` meets its contract: the interval part is asked, NaI is answered by itself, and a refusal is handed on.
use mathlib.Core.Path.{◌≡◌}
use mathlib.Core.Path.{◌∙◌, ap}
use Rattle.std.specs.Prelude.{Ok}
use Rattle.patterns.specs.Format.{binary64}
use Rattle.meaning.specs.Sets.{Set, span, unbounded}
use Rattle.refusals.proofs.FoundLaws.{handed_on}
use Rattle.dec_interval.specs.DecIntervalMeaning.{part_of}
use Rattle.dec_interval.proofs.IntervalPartLaws.{part_asked, nai_asked}
use Rattle.dec_interval.proofs.types.DecInterval.is_entire.Goals as goal

pub returns-in-Some : goal.returns-in-Some
returns-in-Some c = part_asked binary64 c.interval.ensures (λ (Z : Set). Z ≡ span unbounded unbounded) (c.in_ok-part.was ∙ ap Ok c.in-Some.is) c.is_entire.ensures

pub returns-in-None : goal.returns-in-None
returns-in-None c = nai_asked binary64 c.interval.ensures (λ (Z : Set). Z ≡ span unbounded unbounded) (c.in_ok-part.was ∙ ap Ok c.in-None.is)

pub returns-in_err-part : goal.returns-in_err-part
returns-in_err-part c = handed_on part_of (λ asked. asked) c.from_residual.result c.interval.ensures c.in_err-part.was c.from_residual.ensures.1
