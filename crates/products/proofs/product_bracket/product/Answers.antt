-- `products::product_bracket::product` meets its contract: what is left has an exponent that comes from its factors'.
use mathlib.Core.Path.{refl}
use Prim.Native.Nat.{◌+◌, ◌^◌}
use borrow.Author.Rules.{rules}
use native.Mathlib.Omega.{arith}
use lib.Pow.{pow_pos}
use Rattle.products.proofs.ProductScale.{product_cut}
use Rattle.products.proofs.product_bracket.product.Goals as goal

pub returns-clause-brackets : goal.returns-clause-brackets
returns-clause-brackets c =
    let x = c.args.x in
    let y = c.args.y in
    c.in_units.ensures.brackets _ (2 ^ 1178) (x.exponent + y.exponent) 1134 (pow_pos 1178) (search rules)
    (product_cut 1178 1134 44 (x.exponent + y.exponent) x.significand y.significand _ _ refl (omega arith) (omega arith))
