-- Binary formats of IEEE 754 by their precision and exponent range.
use Rattle.std.specs.Prelude.{ℕ, ◌+◌, ◌-◌, ◌*◌, ◌^◌, ◌<◌, ◌≤◌}
use Rattle.std.proofs.Common.{lit<, lit≤}

-- Values of the format are whole multiples of 2 ^ -point.
-- `frac` is the width of the fraction field.
-- `codes` is the exponent field of the infinities and NaNs, so finite numbers have fields 0 to codes - 1.
-- `wide`: the largest finite number is a whole number, as in every interchange format of IEEE 754.
pub record Format : Type 0 where
  pub frac : ℕ
  pub codes : ℕ
  pub point : ℕ
  pub fine : 0 < frac
  pub wide : point + 2 ≤ codes

-- IEEE 754: 52 bits of fraction, 11 of exponent, smallest positive number 2 ^ -1074.
abbrev pub binary64 : Format
binary64 = record { frac = 52; codes = 2047; point = 1074; fine = lit< tt; wide = lit≤ tt }

-- IEEE 754: 23 bits of fraction, 8 of exponent, smallest positive number 2 ^ -149.
abbrev pub binary32 : Format
binary32 = record { frac = 23; codes = 255; point = 149; fine = lit< tt; wide = lit≤ tt }

-- The magnitude pattern of infinity: exponent field `codes`, fraction 0.
unfoldable pub infinity : Format → ℕ
infinity F = F.codes * 2 ^ F.frac

-- The weight of the sign bit, which is also the number of magnitude patterns.
unfoldable pub sign_bit : Format → ℕ
sign_bit F = (F.codes + 1) * 2 ^ F.frac

-- The quiet NaN that both ends of NaI are: 7FF8000000000000 in binary64.
unfoldable pub quiet_nan : Format → ℕ
quiet_nan F = infinity F + 2 ^ (F.frac - 1)
