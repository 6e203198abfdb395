-- What a comparison of two numbers says of them.
use Rattle.std.proofs.Common.{◌≡◌, ℕ, ◌<◌, arith, nat_cmp, Less, Equal, Greater}
use Rattle.std.proofs.lemmas.Bool.Decides.{nat_tests}

pub less_so : (k z : ℕ) → Less ≡ nat_cmp k z → k < z
less_so k z e = grind (arith, nat_tests)

pub equal_so : (k z : ℕ) → Equal ≡ nat_cmp k z → k ≡ z
equal_so k z e = grind (arith, nat_tests)

pub greater_so : (k z : ℕ) → Greater ≡ nat_cmp k z → z < k
greater_so k z e = grind (arith, nat_tests)
