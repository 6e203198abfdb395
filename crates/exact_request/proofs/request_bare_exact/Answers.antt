-- `request_bare_exact` meets its contract: the lengths are tried first, and then the number.
use mathlib.Core.Path.{subst}
use Rattle.std.specs.Prelude.{get_or}
use Rattle.meaning.specs.ExactRequests.{arithmetic}
use Rattle.meaning.proofs.CalledLaws.{pass, stop}
use Rattle.operation_names.specs.Numbers.{AskedExactBy, asked_exact_of}
use Rattle.operation_names.proofs.AskedLaws.{arithmetic_number}
use Rattle.request_laws.proofs.RequestedLaws.{requested_by}
use Rattle.exact_request.proofs.AskedLaws.{nothing_asked}
use Rattle.exact_request.proofs.request_bare_exact.Goals as goal

pub returns-then-input-ne-BARE_REQUEST : goal.returns-then-input-ne-BARE_REQUEST
returns-then-input-ne-BARE_REQUEST c = stop c.if-input-ne-BARE_REQUEST.true

pub returns-then-output-ne-EXACT : goal.returns-then-output-ne-EXACT
returns-then-output-ne-EXACT c = pass c.if-input-ne-BARE_REQUEST.false (stop c.if-output-ne-EXACT.true)

pub returns-in_err-asked : goal.returns-in_err-asked
returns-in_err-asked c =
    pass c.if-input-ne-BARE_REQUEST.false (pass c.if-output-ne-EXACT.false
    (nothing_asked c.try_from.ensures c.from_residual.result c.in_err-asked.was c.from_residual.ensures.1))

pub returns : goal.returns
returns c =
    let asked = c.in_ok-asked.asked in
    let is = subst (AskedExactBy (get_or c.args.input.now 0 0)) c.in_ok-asked.was c.try_from.ensures in
    pass c.if-input-ne-BARE_REQUEST.false (pass c.if-output-ne-EXACT.false
    (requested_by (asked_exact_of asked) is c.answer_exact.ensures arithmetic (arithmetic_number asked is)))
