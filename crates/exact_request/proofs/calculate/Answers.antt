-- `calculate` meets its contract: sound operands are answered, and any others refused.
use Rattle.patterns.specs.Format.{binary64}
use Rattle.meaning.specs.Pairs.{set_of}
use Rattle.meaning.specs.Results.{Result₂}
use Rattle.meaning.specs.Exactness.{ExactHullOf}
use Rattle.meaning.specs.Forms.{bare_form}
use Rattle.meaning.specs.Requests.{first_operand, second_operand, bare_size}
use Rattle.meaning.specs.ExactRequests.{write_exact}
use Rattle.meaning.proofs.CalledLaws.{written}
use Rattle.refusals.specs.RefusalMeaning.{outcome_of}
use Rattle.refusals.proofs.FoundLaws.{passed_on, sound_bare}
use Rattle.interval.specs.IntervalMeaning.{pair_of}
use Rattle.operation_names.specs.Names.{arithmetic_of}
use Rattle.request_laws.proofs.ReadLaws.{found₂, after₂, refused₂, refusing_said}
use Rattle.request_operands.specs.OperandMeaning.{both_of}
use Rattle.request_operands.proofs.OperandLaws.{two_sound, bare₂}
use Rattle.exact_request.proofs.calculate.Goals as goal

pub combine_exact-requires : goal.combine_exact-requires
combine_exact-requires c =
    let (x, y) = two_sound bare_form (found₂ (outcome_of (both_of pair_of)) c.read_both.ensures c.in_ok-x.was) in
    (sound_bare x, sound_bare y)

pub returns : goal.returns
returns c =
    let input = c.args.input.now in
    written
    (after₂ (found₂ (outcome_of (both_of pair_of)) c.read_both.ensures c.in_ok-x.was)
    (bare₂ write_exact (first_operand bare_size input) (second_operand bare_size input)
    (λ x y z. ExactHullOf binary64 (Result₂ (arithmetic_of c.args.o) (set_of binary64 x) (set_of binary64 y)) z) c.combine_exact.ensures))
    c.write_exact.ensures

pub returns-in_err-x : goal.returns-in_err-x
returns-in_err-x c =
    refusing_said c.from_residual.result (passed_on c.from_residual.result c.from_residual.ensures.1)
    (refused₂ (found₂ (outcome_of (both_of pair_of)) c.read_both.ensures c.in_err-x.was))
