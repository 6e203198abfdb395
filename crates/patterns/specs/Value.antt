-- What a bit pattern is worth, in units of the format's smallest positive number.
use Rattle.std.specs.Prelude.{Bool, true, false, ℕ, zero, suc, ◌+◌, ◌*◌, ◌/◌, ◌%◌, ◌^◌, ◌<◌, ltb}
use Rattle.patterns.specs.Format.{Format, infinity, sign_bit}

-- The first number where the test holds, the second where it does not.
abbrev pub choose : Bool → ℕ → ℕ → ℕ
choose true a b = a
choose false a b = b

-- Document 01: "s is f for E = 0 and (2^52 + f) × 2^(E-1) for E from 1 to 2046", at a fraction field of h bits.
abbrev pub scaled : ℕ → ℕ → ℕ → ℕ
scaled h zero f = f
scaled h (suc e) f = (2 ^ h + f) * 2 ^ e

-- The value of a magnitude pattern, whose exponent field stands above h bits of fraction.
unfoldable pub value : ℕ → ℕ → ℕ
value h b = scaled h (b / 2 ^ h) (b % 2 ^ h)

-- A pattern without its sign bit.
unfoldable pub magnitude : Format → ℕ → ℕ
magnitude F b = b % sign_bit F

-- A pattern of a finite number.
pub record Finite (F : Format) (b : ℕ) : Type 0 where
  pub pattern : b < 2 * sign_bit F
  pub finite : magnitude F b < infinity F

-- The value "with its sign": the pattern b is worth plus F b - minus F b, one of which is 0.
unfoldable pub plus : Format → ℕ → ℕ
plus F b = choose (ltb b (sign_bit F)) (value F.frac (magnitude F b)) 0

unfoldable pub minus : Format → ℕ → ℕ
minus F b = choose (ltb b (sign_bit F)) 0 (value F.frac (magnitude F b))

-- The pattern with the other sign.
unfoldable pub opposite : Format → ℕ → ℕ
opposite F b = choose (ltb b (sign_bit F)) (b + sign_bit F) (magnitude F b)
