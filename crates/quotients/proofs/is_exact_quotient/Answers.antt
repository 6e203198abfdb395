-- `quotients::is_exact_quotient` meets its contract: nothing is exact, and any other quotient if its magnitude is a double's.
use mathlib.Core.Bool.{xor}
use mathlib.Core.Path.{refl, ap, ◌∙◌}
use Prim.Native.Nat.{ℕ, ◌*◌, ◌^◌}
use native.Mathlib.Nat.{pos_of_ne-zero}
use native.Mathlib.Omega.{arith}
use lib.Dec.{ltb}
use Rattle.patterns.specs.Format.{binary64, sign_bit}
use Rattle.patterns.specs.Value.{value, magnitude}
use Rattle.patterns.proofs.ValueLaws.{value_zero}
use Rattle.significands.proofs.Signs.{quotient_reached, reached_signed, quotient_nothing}
use Rattle.quotients.proofs.QuotientScale.{quotient_worth}
use Rattle.quotients.proofs.is_exact_quotient.Goals as goal

pub returns-then-x-eq0 : goal.returns-then-x-eq0
unfolding magnitude sign_bit
returns-then-x-eq0 c = quotient_nothing binary64 c.args.a c.args.b c.if-x-eq0.true

pub normalise-requires : goal.normalise-requires
unfolding magnitude sign_bit
normalise-requires c = (pos_of_ne-zero c.if-x-eq0.false, c.requires.0.finite)

pub normalise-requires-2 : goal.normalise-requires-2
unfolding magnitude sign_bit
normalise-requires-2 c =
    (pos_of_ne-zero (λ none. c.requires.2 (ap (value 52) none ∙ value_zero 52)), c.requires.1.finite)

pub returns : goal.returns
unfolding magnitude sign_bit
returns c =
    let a = c.args.a in
    let b = c.args.b in
    let x : ℕ = value 52 (magnitude binary64 a) in
    let y : ℕ = value 52 (magnitude binary64 b) in
    let some = pos_of_ne-zero c.requires.2 in
    let m = c.normalise in
    let n = c.normalise-2 in
    quotient_reached binary64 a b
    (reached_signed binary64 (xor (ltb a (2 ^ 63)) (ltb b (2 ^ 63)))
    (c.is_representable.ensures binary64 refl refl (x * 2 ^ 1074) y some
    (quotient_worth 52 1074 m.result.exponent n.result.exponent m.result.significand n.result.significand x (omega (arith, n.result.full.least)) some m.ensures n.ensures
    c.quotient.ensures.brackets)))
