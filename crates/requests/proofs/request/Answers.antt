-- `request` meets its contract: the lengths are tried first, and then the number.
use mathlib.Core.Path.{◌∙◌, sym}
use native.Mathlib.Omega.{arith}
use Rattle.meaning.proofs.CalledLaws.{pass, stop}
use Rattle.requests.proofs.AnswerLaws.{asked_for, nothing_asked}
use Rattle.requests.proofs.request.Goals as goal

pub returns-then-input-SIZE : goal.returns-then-input-SIZE
returns-then-input-SIZE g c = stop (λ long. c.if-input-SIZE.true (omega (arith, long, c.SIZE.ensures ∙ g.met.T.InBytes.size)))

pub returns-then-output-SIZE : goal.returns-then-output-SIZE
returns-then-output-SIZE g c =
    pass (omega (arith, c.if-input-SIZE.false, c.SIZE.ensures ∙ g.met.T.InBytes.size))
    (stop (λ room. c.if-output-SIZE.true (room ∙ sym (c.SIZE-2.ensures ∙ g.met.T.InBytes.size))))

pub returns-in_err-asked : goal.returns-in_err-asked
returns-in_err-asked g c =
    pass (omega (arith, c.if-input-SIZE.false, c.SIZE.ensures ∙ g.met.T.InBytes.size))
    (pass (c.if-output-SIZE.false ∙ c.SIZE-2.ensures ∙ g.met.T.InBytes.size)
    (nothing_asked g.T.Form.form c.try_from.ensures c.from_residual.result c.in_err-asked.was c.from_residual.ensures.1))

pub returns : goal.returns
returns g c =
    pass (omega (arith, c.if-input-SIZE.false, c.SIZE.ensures ∙ g.met.T.InBytes.size))
    (pass (c.if-output-SIZE.false ∙ c.SIZE-2.ensures ∙ g.met.T.InBytes.size)
    (asked_for g.T.Form.form c.try_from.ensures c.in_ok-asked.was c.answer.ensures))
