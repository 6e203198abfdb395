-- `rounding_runs::cases::right` meets its contract: upward rounding has one answer, so that any other is wrong.
use mathlib.Core.Path.{subst}
use Rattle.patterns.specs.Format.{binary64}
use Rattle.patterns.specs.Rounding.{Up}
use Rattle.patterns.proofs.UpLaws.{up_unique}
use Rattle.truth.proofs.AnswerLaws.{answers_eq, said_yes, no_so}
use Rattle.rounding_runs.proofs.cases.right.Goals as goal

pub rounded-requires : goal.rounded-requires
rounded-requires c = said_yes c.takes.ensures c.if-takes.true

pub returns-then-takes : goal.returns-then-takes
returns-then-takes c =
    let takes = said_yes c.takes.ensures c.if-takes.true in
    answers_eq _ _ (λ same. record { takes = takes; rounded = subst (Up binary64 _) same c.rounded.ensures })
    (λ differ right. differ (up_unique binary64 c.rounded.ensures right.rounded))

pub returns-else-takes : goal.returns-else-takes
returns-else-takes c = no_so (λ right. right.takes) c.takes.ensures c.if-takes.false
