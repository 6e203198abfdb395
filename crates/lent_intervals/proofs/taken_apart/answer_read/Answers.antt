-- `taken_apart::answer_read` meets its contract: the ends are judged before the decoration.
use Rattle.meaning.specs.Statement.{first₁, right₁}
use Rattle.truth.proofs.AnswerLaws.{said_yes, said_no}
use Rattle.refusals.proofs.FoundLaws.{sound₁}
use Rattle.decorations.proofs.AgreeLaws.{sound_agrees}
use Rattle.dec_interval.specs.DecIntervalMeaning.{dec_pair_of}
use Rattle.lent_intervals.specs.Reading.{read_five, read_good}
use Rattle.lent_intervals.proofs.ReadLaws.{wrong_read}
use Rattle.lent_intervals.proofs.taken_apart.answer_read.Goals as goal

pub returns-then-not-has_bytes_ends : goal.returns-then-not-has_bytes_ends
returns-then-not-has_bytes_ends c = first₁ (read_five (said_no c.has_bytes_ends.ensures c.if-not-has_bytes_ends.true))

pub returns-in_err-judge_dec : goal.returns-in_err-judge_dec
returns-in_err-judge_dec c =
    wrong_read dec_pair_of c.from_residual.result (said_yes c.has_bytes_ends.ensures c.if-not-has_bytes_ends.false) c.judge_dec.ensures
    c.in_err-judge_dec.was c.from_residual.ensures.1

pub read_as-requires : goal.read_as-requires
read_as-requires c =
    read_good
    (said_yes c.has_bytes_ends.ensures c.if-not-has_bytes_ends.false)
    (sound_agrees (sound₁ c.judge_dec.ensures c.in_ok-judge_dec.was))

pub returns : goal.returns
returns c =
    right₁
    (read_good
    (said_yes c.has_bytes_ends.ensures c.if-not-has_bytes_ends.false)
    (sound_agrees (sound₁ c.judge_dec.ensures c.in_ok-judge_dec.was)))
    c.read_as.ensures
