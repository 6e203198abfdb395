-- Significands of full length.
use Rattle.std.specs.Prelude.{◌≡◌, ℕ, ◌*◌, ◌^◌, ◌<◌, ◌≤◌}

-- A significand of exactly 53 bits, and an exponent small enough for the sum of two.
pub record Full (significand exponent : ℕ) : Type 0 where
  pub least : 2 ^ 52 ≤ significand
  pub short : significand < 2 ^ 53
  pub near : exponent < 2 ^ 12

-- v is worth significand * 2 ^ (exponent - 52): the exponent of the smallest subnormal number is 0.
abbrev pub Worth : (v significand exponent : ℕ) → Type 0
Worth v significand exponent = v * 2 ^ 52 ≡ significand * 2 ^ exponent
