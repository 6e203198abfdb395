-- `order::key` meets its contract: each branch is one case of the key.
use mathlib.Core.Path.{sym}
use native.Mathlib.Omega.{arith}
use Rattle.patterns.specs.Format.{binary64, sign_bit}
use Rattle.end_pairs.proofs.KeyLaws.{key_below, key_above}
use Rattle.end_pairs.proofs.order.key.Goals as goal

pub returns-then-b-lt-SIGN : goal.returns-then-b-lt-SIGN
unfolding sign_bit
returns-then-b-lt-SIGN c = sym (key_below binary64 c.if-b-lt-SIGN.true)

pub returns-else-b-lt-SIGN : goal.returns-else-b-lt-SIGN
unfolding sign_bit
returns-else-b-lt-SIGN c = omega (arith, key_above binary64 c.if-b-lt-SIGN.false)
