-- `sums::is_exact_sum` meets its contract: a sum is a double if its magnitude is one's, and the order of the two does not matter.
use mathlib.Core.Bool.{not}
use mathlib.Core.Path.{refl}
use Prim.Native.Nat.{ℕ, ◌^◌}
use lib.Dec.{lit<, ltb}
use Rattle.truth.specs.Answers.{Answers}
use Rattle.patterns.specs.Format.{binary64, sign_bit}
use Rattle.patterns.specs.Rounding.{Reached, sum_of}
use Rattle.patterns.specs.Value.{magnitude}
use Rattle.significands.proofs.Signs.{reached_signed}
use Rattle.sums.proofs.SignedSums.{either_order, reached_swap, sum_reached}
use Rattle.sums.proofs.is_exact_sum.Goals as goal

pub returns : goal.returns
unfolding sign_bit
returns c =
    let a = c.args.a in
    let b = c.args.b in
    let terms = c.new.result in
    either_order (λ (great small : ℕ). Answers (Reached binary64 (sum_of binary64 great small)) c.is_representable.result) (magnitude binary64 a) (magnitude binary64 b) a b
    (reached_swap binary64 a b) c.new.ensures.kept c.new.ensures.swapped
    (sum_reached binary64 terms.great terms.small terms.ordered
    (reached_signed binary64 (not (ltb terms.great (2 ^ 63))) (c.is_representable.ensures binary64 refl refl _ 1 (lit< tt) c.combined.ensures.brackets)))
