-- `read_both` meets its contract: the first operand is judged before the second.
use mathlib.Core.Path.{◌∙◌}
use Rattle.refusals.specs.RefusalMeaning.{outcome_of, first_outcome}
use Rattle.request_laws.proofs.ReadLaws.{found₁, found₂, handed_on₂, read_wrong, read_second}
use Rattle.request_operands.specs.OperandMeaning.{both_of}
use Rattle.request_operands.proofs.OperandLaws.{second_at}
use Rattle.request_operands.proofs.read_both.Goals as goal

pub returns-in_err-x : goal.returns-in_err-x
returns-in_err-x g c =
    read_wrong g.T.Form.value (both_of g.T.Form.value) c.from_residual.result c.read.ensures c.in_err-x.was c.from_residual.ensures.1

pub returns-in_err-y : goal.returns-in_err-y
returns-in_err-y g c =
    let value = g.T.Form.value in
    handed_on₂ (λ w. (value c.in_ok-x.x, value w)) (both_of value) c.from_residual-in_err-y.result
    (read_second value c.read-2.result c.map_err.result (found₁ (first_outcome value) c.read.ensures c.in_ok-x.was)
    (second_at g.T.Form.form c.args.input.now (c.SIZE.ensures ∙ g.met.T.InBytes.size) c.read-2.ensures) c.map_err.ensures.cases)
    c.in_err-y.was c.from_residual-in_err-y.ensures.1

pub returns : goal.returns
returns g c =
    let value = g.T.Form.value in
    found₂ (outcome_of (λ w. (value c.in_ok-x.x, value w)))
    (read_second value c.read-2.result c.map_err.result (found₁ (first_outcome value) c.read.ensures c.in_ok-x.was)
    (second_at g.T.Form.form c.args.input.now (c.SIZE.ensures ∙ g.met.T.InBytes.size) c.read-2.ensures) c.map_err.ensures.cases)
    c.in_ok-y.was
