-- `validity::judge_dec` meets its contract: the ends are judged before the decoration.
use Rattle.meaning.specs.Statement.{first₁, right₁, decorated_five, decorated_six, decorated_good}
use Rattle.truth.proofs.AnswerLaws.{said_yes, said_no}
use Rattle.decorations.proofs.validity.judge_dec.Goals as goal

pub returns-then-not-has_ends : goal.returns-then-not-has_ends
returns-then-not-has_ends c = first₁ (decorated_five (said_no c.has_ends.ensures c.if-not-has_ends.true))

pub agrees-requires : goal.agrees-requires
agrees-requires c = said_yes c.has_ends.ensures c.if-not-has_ends.false

pub returns-then-not-agrees : goal.returns-then-not-agrees
returns-then-not-agrees c =
    first₁
    (decorated_six (said_yes c.has_ends.ensures c.if-not-has_ends.false)
    (said_no c.agrees.ensures c.if-not-agrees.true))

pub returns : goal.returns
returns c =
    right₁
    (decorated_good (said_yes c.has_ends.ensures c.if-not-has_ends.false)
    (said_yes c.agrees.ensures c.if-not-agrees.false)) tt
