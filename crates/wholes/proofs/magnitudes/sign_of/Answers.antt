-- `magnitudes::sign_of` meets its contract: a magnitude is 0 or above it.
use native.Mathlib.Omega.{arith}
use Rattle.patterns.specs.Format.{binary64}
use Rattle.wholes.proofs.SignedLaws.{sign_none, sign_some}
use Rattle.wholes.proofs.magnitudes.sign_of.Goals as goal

pub returns-then-m-eq0 : goal.returns-then-m-eq0
returns-then-m-eq0 c = sign_none binary64 c.requires c.if-m-eq0.true

pub returns-else-m-eq0 : goal.returns-else-m-eq0
returns-else-m-eq0 c = sign_some binary64 (omega arith) c.requires c.if-m-eq0.false
