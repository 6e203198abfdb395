-- `functions::negative` meets its contract: 0 is its own negative, and any other magnitude gets the sign bit.
use native.Mathlib.Omega.{arith}
use Rattle.patterns.specs.Format.{binary64, infinity, sign_bit}
use Rattle.wholes.proofs.SignedLaws.{negative_zero, negative_some}
use Rattle.wholes.proofs.functions.negative.Goals as goal

pub returns-then-m-eq0 : goal.returns-then-m-eq0
returns-then-m-eq0 c = negative_zero binary64 c.requires c.if-m-eq0.true

pub overflow_add-result : goal.overflow_add-result
unfolding infinity
overflow_add-result c = record { fits = omega arith }

pub returns : goal.returns
unfolding sign_bit
returns c = negative_some binary64 c.requires c.if-m-eq0.false
