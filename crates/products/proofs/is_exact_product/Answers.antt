-- `products::is_exact_product` meets its contract: nothing is exact, and any other product if its magnitude is a double's.
use mathlib.Core.Bool.{xor}
use mathlib.Core.Path.{refl}
use Prim.Native.Nat.{ℕ, ◌*◌, ◌^◌}
use native.Mathlib.Nat.{pos_of_ne-zero}
use lib.Dec.{ltb}
use lib.Pow.{pow_pos}
use Rattle.patterns.specs.Format.{binary64, sign_bit}
use Rattle.patterns.specs.Value.{value, magnitude}
use Rattle.significands.proofs.Signs.{product_reached, reached_signed, product_first_nothing, product_second_nothing}
use Rattle.products.proofs.ProductScale.{product_worth}
use Rattle.products.proofs.is_exact_product.Goals as goal

pub returns-then-x-eq0 : goal.returns-then-x-eq0
unfolding magnitude sign_bit
returns-then-x-eq0 c = product_first_nothing binary64 c.args.a c.args.b c.if-x-eq0.true

pub returns-then-y-eq0 : goal.returns-then-y-eq0
unfolding magnitude sign_bit
returns-then-y-eq0 c = product_second_nothing binary64 c.args.a c.args.b c.if-y-eq0.true

pub normalise-requires : goal.normalise-requires
unfolding magnitude sign_bit
normalise-requires c = (pos_of_ne-zero c.if-x-eq0.false, c.requires.0.finite)

pub normalise-requires-2 : goal.normalise-requires-2
unfolding magnitude sign_bit
normalise-requires-2 c = (pos_of_ne-zero c.if-y-eq0.false, c.requires.1.finite)

pub returns : goal.returns
unfolding magnitude sign_bit
returns c =
    let a = c.args.a in
    let b = c.args.b in
    let x : ℕ = value 52 (magnitude binary64 a) in
    let y : ℕ = value 52 (magnitude binary64 b) in
    let m = c.normalise in
    let n = c.normalise-2 in
    product_reached binary64 a b
    (reached_signed binary64 (xor (ltb a (2 ^ 63)) (ltb b (2 ^ 63)))
    (c.is_representable.ensures binary64 refl refl (x * y) (2 ^ 1074) (pow_pos 1074)
    (product_worth 52 1074 1178 m.result.exponent n.result.exponent m.result.significand n.result.significand x y refl m.ensures n.ensures
    c.product.ensures.brackets)))
