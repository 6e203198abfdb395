-- Numbers that order patterns by value.
use Rattle.std.specs.Prelude.{ℕ, ◌+◌, ◌*◌, ◌-◌, ltb}
use Rattle.patterns.specs.Format.{Format, sign_bit}
use Rattle.patterns.specs.Value.{choose}

-- A pattern's key: above the sign bit by the magnitude of a positive pattern, below it by that of a negative one.
unfoldable pub key_of : Format → ℕ → ℕ
key_of F b = choose (ltb b (sign_bit F)) (sign_bit F + b) (2 * sign_bit F - b)
