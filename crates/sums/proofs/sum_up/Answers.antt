-- `sums::sum_up` meets its contract: the greater magnitude gives the sign, and the order of the two does not matter.
use Prim.Native.Nat.{ℕ}
use lib.Dec.{lit<}
use Rattle.patterns.specs.Format.{binary64, sign_bit}
use Rattle.patterns.specs.Rounding.{Up, sum_of}
use Rattle.patterns.specs.Value.{magnitude}
use Rattle.sums.proofs.SignedSums.{either_order, sum_swap, sum_up}
use Rattle.sums.proofs.sum_up.Goals as goal

pub returns : goal.returns
unfolding sign_bit
returns c =
    let a = c.args.a in
    let b = c.args.b in
    let terms = c.new-terms.result in
    either_order (λ (great small : ℕ). Up binary64 (sum_of binary64 great small) c.round_up.result) (magnitude binary64 a) (magnitude binary64 b) a b
    (sum_swap binary64 a b) c.new-terms.ensures.kept c.new-terms.ensures.swapped
    (sum_up binary64 terms.great terms.small terms.ordered (c.round_up.ensures _ 1 (lit< tt) c.combined.ensures.brackets))
