-- `operation::answer` meets its contract: sound operands are answered, and any others refused.
use mathlib.Core.Path.{ap, ◌∙◌, ap₂}
use Rattle.std.proofs.Common.{rules}
use Rattle.meaning.specs.Requests.{write_state}
use Rattle.operation_names.specs.Numbers.{asked_of}
use Rattle.request_laws.proofs.ReadLaws.{found₁}
use Rattle.refusals.specs.RefusalMeaning.{first_outcome}
use Rattle.request_operands.proofs.OperandLaws.{one_sound, two_sound}
use Rattle.requests.proofs.AnswerLaws.{one_answered, one_refused, two_read, two_answered, state_answered, comparison_answered, two_refused, state_refused, comparison_not_answered}
use Rattle.requests.proofs.operation.answer.Goals as goal

pub image-requires : goal.image-requires
image-requires g c = one_sound g.T.Form.form (found₁ (first_outcome g.T.Form.value) c.read.ensures c.in_ok-x-in-One.was)

pub returns-in_ok-x-in-One : goal.returns-in_ok-x-in-One
returns-in_ok-x-in-One g c =
    one_answered g.T.Form.form g.T.Form.value (ap asked_of c.in-One.is) c.read.ensures (g.T.Form.value c.image.result) c.in_ok-x-in-One.was c.image.ensures
    c.write.ensures

pub returns-in_err-x-in-One : goal.returns-in_err-x-in-One
returns-in_err-x-in-One g c =
    one_refused g.T.Form.form g.T.Form.value (ap asked_of c.in-One.is) c.read.ensures c.from_residual.result c.in_err-x-in-One.was c.from_residual.ensures.1

pub combine-requires : goal.combine-requires
combine-requires g c = two_sound g.T.Form.form (two_read g.T.Form.form g.T.Form.value c.read_both.ensures c.in_ok-x-in-Two.was)

pub returns-in_ok-x-in-Two : goal.returns-in_ok-x-in-Two
returns-in_ok-x-in-Two g c =
    two_answered g.T.Form.form g.T.Form.value c.read_both.ensures (g.T.Form.value c.combine.result) (ap asked_of c.in-Two.is) c.in_ok-x-in-Two.was
    c.combine.ensures c.write-in-Two.ensures

pub returns-in_err-x-in-Two : goal.returns-in_err-x-in-Two
returns-in_err-x-in-Two g c =
    two_refused g.T.Form.form g.T.Form.value c.read_both.ensures c.from_residual-in_err-x-in-Two.result (ap asked_of c.in-Two.is) c.in_err-x-in-Two.was
    c.from_residual-in_err-x-in-Two.ensures.1

pub state-requires : goal.state-requires
state-requires g c = two_sound g.T.Form.form (two_read g.T.Form.form g.T.Form.value c.read_both-in-Overlap.ensures c.in_ok-x-in-Overlap.was)

pub returns-in_ok-x-in-Overlap : goal.returns-in_ok-x-in-Overlap
returns-in_ok-x-in-Overlap g c =
    state_answered g.T.Form.form g.T.Form.value c.read_both-in-Overlap.ensures _ (ap asked_of c.in-Overlap.is) c.in_ok-x-in-Overlap.was c.state.ensures
    (c.write_state.ensures ∙ ap₂ write_state c.requires.1 c.dec_state_number.ensures)

pub returns-in_err-x-in-Overlap : goal.returns-in_err-x-in-Overlap
returns-in_err-x-in-Overlap g c =
    state_refused g.T.Form.form g.T.Form.value c.read_both-in-Overlap.ensures c.from_residual-in_err-x-in-Overlap.result (ap asked_of c.in-Overlap.is)
    c.in_err-x-in-Overlap.was c.from_residual-in_err-x-in-Overlap.ensures.1

pub compares-requires : goal.compares-requires
compares-requires g c = two_sound g.T.Form.form (two_read g.T.Form.form g.T.Form.value c.read_both-in-Comparison.ensures c.in_ok-x-in-Comparison.was)

pub returns-in_ok-x-in-Comparison : goal.returns-in_ok-x-in-Comparison
returns-in_ok-x-in-Comparison g c =
    comparison_answered g.T.Form.form g.T.Form.value c.read_both-in-Comparison.ensures (ap asked_of c.in-Comparison.is) c.in_ok-x-in-Comparison.was
    c.compares.ensures (c.write_state-in-Comparison.ensures ∙ ap₂ write_state c.requires.1 (search rules))

pub returns-in_err-x-in-Comparison : goal.returns-in_err-x-in-Comparison
returns-in_err-x-in-Comparison g c =
    comparison_not_answered g.T.Form.form g.T.Form.value c.read_both-in-Comparison.ensures c.from_residual-in_err-x-in-Comparison.result
    (ap asked_of c.in-Comparison.is) c.in_err-x-in-Comparison.was c.from_residual-in_err-x-in-Comparison.ensures.1
