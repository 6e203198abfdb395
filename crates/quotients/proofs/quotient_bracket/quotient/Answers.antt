-- `quotients::quotient_bracket::quotient` meets its contract: the exponent comes from the difference of the exponents.
use mathlib.Core.Path.{refl}
use Prim.Native.Nat.{◌+◌, ◌*◌, ◌^◌, ◌<◌}
use native.Mathlib.Nat.{mul-pos}
use borrow.Author.Rules.{rules}
use native.Mathlib.Omega.{arith}
use lib.Pow.{pow_pos}
use Rattle.quotients.proofs.QuotientScale.{quotient_cut}
use Rattle.quotients.proofs.quotient_bracket.quotient.Goals as goal

pub returns-clause-brackets : goal.returns-clause-brackets
returns-clause-brackets c =
    let x = c.args.x in
    let y = c.args.y in
    let q = c.divide-q in
    let some : 0 < y.significand = omega (arith, y.full.least) in
    c.in_units.ensures.brackets _ (y.significand * 2 ^ y.exponent) (x.exponent + 1014) y.exponent (mul-pos some (pow_pos y.exponent)) (search rules)
    (quotient_cut 1074 1014 60 x.exponent y.exponent x.significand y.significand q.result.quotient q.result.rest refl some q.ensures.0 q.ensures.1)
