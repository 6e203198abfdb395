-- `judge` meets its contract: each answer of the test is one judgement.
use Rattle.meaning.specs.Statement.{first₁, right₁, bare_five, bare_good}
use Rattle.truth.proofs.AnswerLaws.{said_yes, said_no}
use Rattle.interval.proofs.form.IntervalForm.judge.Goals as goal

pub returns-then-not-is_bare : goal.returns-then-not-is_bare
returns-then-not-is_bare c = first₁ (bare_five (said_no c.is_bare.ensures c.if-not-is_bare.true))

pub returns : goal.returns
returns c = right₁ (bare_good (said_yes c.is_bare.ensures c.if-not-is_bare.false)) tt
