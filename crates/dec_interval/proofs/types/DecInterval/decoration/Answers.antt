-- `DecInterval::decoration` meets its contract: what is found wrong is refused, and a sound operand answered.
use mathlib.Core.Path.{refl}
use Rattle.refusals.proofs.FoundLaws.{given₁, refused₁}
use Rattle.decorations.specs.DecorationMeaning.{decoration_of}
use Rattle.dec_interval.proofs.types.DecInterval.decoration.Goals as goal

pub returns : goal.returns
returns c = given₁ c.judge.ensures c.in_ok-judge.was refl

pub returns-in_err-judge : goal.returns-in_err-judge
returns-in_err-judge c = refused₁ c.judge.ensures decoration_of c.from_residual.result c.in_err-judge.was c.from_residual.ensures.1
