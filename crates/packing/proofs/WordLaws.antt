-- Powers of two, exponent fields and significands of at most 52 bits of fraction fit the machine's words.
use mathlib.Core.Path.{◌≡◌, ◌∙◌}
use Prim.Native.Nat.{ℕ, ◌+◌, ◌*◌, ◌%◌, ◌^◌, ◌<◌, ◌≤◌}
use native.Mathlib.Nat.{le_trans, lt_of_lt_of_le, one-mul}
use native.Mathlib.Omega.{arith}
use lib.Dec.{lit<}
use lib.Pow.{pow_mono, shl_exact, shl_lt}

module _ {frac : ℕ} (narrow : frac ≤ 52) where
  pub one_shifts : (1 * 2 ^ frac) % 2 ^ 64 ≡ 2 ^ frac
  one_shifts = shl_exact {a = 1} 1 frac 64 (lit< tt) (omega arith) ∙ one-mul (2 ^ frac)

  module _ {field : ℕ} (coded : field < 2 ^ 11) where
    pub field_shifts : (field * 2 ^ frac) % 2 ^ 64 ≡ field * 2 ^ frac
    field_shifts = shl_exact {a = field} 11 frac 64 coded (omega arith)

    pub field_below : field * 2 ^ frac < 2 ^ 63
    field_below = lt_of_lt_of_le (shl_lt {a = field} 11 frac coded) (pow_mono {j = 63} (omega arith))

  pub significand_below : {m : ℕ} → m ≤ 2 ^ (frac + 1) → m ≤ 2 ^ 53
  significand_below short = le_trans short (pow_mono {j = 53} (omega arith))
