-- `rounding_runs::cases::is_right` meets its contract: no two operations have one number.
use mathlib.Core.Path.{sym, ◌∙◌, subst}
use Rattle.truth.specs.Answers.{denied}
use Rattle.truth.proofs.AnswerLaws.{answers_iff}
use Rattle.rounding_runs.specs.Cases.{Says}
use Rattle.rounding_runs.proofs.OperationCases.{one_number}
use Rattle.rounding_runs.proofs.cases.is_right.Goals as goal

pub returns-in-Ok : goal.returns-in-Ok
returns-in-Ok c =
    let of = c.in-Ok.ensures in
    answers_iff
    (λ says. record { operation = c.in-Ok.o; right = record { of = sym of; says = says } })
    (λ some. subst (λ o. Says c.args.case.now o 0) (one_number some.operation c.in-Ok.o (sym some.right.of ∙ sym of)) some.right.says)
    c.says.ensures

pub returns-in-Err : goal.returns-in-Err
returns-in-Err c = denied (λ some. c.in-Err.ensures some.operation (sym some.right.of))
