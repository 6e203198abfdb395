-- `quotients::quotient_up` meets its contract: nothing rounds to 0, and any other quotient by its sign.
use mathlib.Core.Bool.{Bool}
use mathlib.Core.Path.{ap, subst, ◌∙◌}
use Prim.Native.Nat.{ℕ, ◌*◌, ◌^◌}
use native.Mathlib.Nat.{pos_of_ne-zero}
use native.Mathlib.Omega.{arith}
use Rattle.patterns.specs.Format.{binary64, sign_bit}
use Rattle.patterns.specs.Value.{value, magnitude}
use Rattle.patterns.specs.Rounding.{Up}
use Rattle.patterns.proofs.ValueLaws.{value_zero}
use Rattle.significands.specs.SignedExact.{signed}
use Rattle.significands.proofs.Signs.{quotient_up, quotient_zero}
use Rattle.quotients.proofs.QuotientScale.{quotient_worth}
use Rattle.quotients.proofs.quotient_up.Goals as goal

pub returns-then-x-eq0 : goal.returns-then-x-eq0
unfolding magnitude sign_bit
returns-then-x-eq0 c = quotient_zero binary64 c.args.a c.args.b (pos_of_ne-zero c.requires.2) c.if-x-eq0.true

pub normalise-requires : goal.normalise-requires
unfolding magnitude sign_bit
normalise-requires c = (pos_of_ne-zero c.if-x-eq0.false, c.requires.0.finite)

pub normalise-requires-2 : goal.normalise-requires-2
unfolding magnitude sign_bit
normalise-requires-2 c =
    (pos_of_ne-zero (λ none. c.requires.2 (ap (value 52) none ∙ value_zero 52)), c.requires.1.finite)

pub returns : goal.returns
unfolding magnitude sign_bit
returns c =
    let a = c.args.a in
    let b = c.args.b in
    let x : ℕ = value 52 (magnitude binary64 a) in
    let y : ℕ = value 52 (magnitude binary64 b) in
    let some = pos_of_ne-zero c.requires.2 in
    let m = c.normalise in
    let n = c.normalise-2 in
    quotient_up binary64 a b
    (subst (λ (s : Bool). Up binary64 (signed s (x * 2 ^ 1074) y) c.round_up.result) c.differ.ensures
    (c.round_up.ensures (x * 2 ^ 1074) y some
    (quotient_worth 52 1074 m.result.exponent n.result.exponent m.result.significand n.result.significand x (omega (arith, n.result.full.least)) some m.ensures n.ensures
    c.quotient.ensures.brackets)))
