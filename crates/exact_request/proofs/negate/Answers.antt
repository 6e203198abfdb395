-- `negate` meets its contract: a sound operand is answered, and any other refused.
use Rattle.patterns.specs.Format.{binary64}
use Rattle.meaning.specs.Pairs.{set_of}
use Rattle.meaning.specs.Results.{Result₁}
use Rattle.meaning.specs.Points.{neg}
use Rattle.meaning.specs.Exactness.{ExactHullOf}
use Rattle.meaning.specs.Forms.{bare_form}
use Rattle.meaning.specs.Requests.{first_operand, bare_size}
use Rattle.meaning.specs.ExactRequests.{write_exact}
use Rattle.meaning.proofs.CalledLaws.{written}
use Rattle.refusals.specs.RefusalMeaning.{first_outcome}
use Rattle.refusals.proofs.FoundLaws.{passed_on, sound_bare}
use Rattle.interval.specs.IntervalMeaning.{pair_of}
use Rattle.request_laws.proofs.ReadLaws.{found₁, after₁, refused₁, refusing_said}
use Rattle.request_operands.proofs.OperandLaws.{one_sound, bare₁}
use Rattle.exact_request.proofs.negate.Goals as goal

pub negate_exact-requires : goal.negate_exact-requires
negate_exact-requires c = sound_bare (one_sound bare_form (found₁ (first_outcome pair_of) c.read.ensures c.in_ok-x.was))

pub returns : goal.returns
returns c =
    written
    (after₁ (found₁ (first_outcome pair_of) c.read.ensures c.in_ok-x.was)
    (bare₁ write_exact (first_operand bare_size c.args.input.now) (λ x z. ExactHullOf binary64 (Result₁ neg (set_of binary64 x)) z) c.negate_exact.ensures))
    c.write_exact.ensures

pub returns-in_err-x : goal.returns-in_err-x
returns-in_err-x c =
    refusing_said c.from_residual.result (passed_on c.from_residual.result c.from_residual.ensures.1)
    (refused₁ (found₁ (first_outcome pair_of) c.read.ensures c.in_err-x.was))
