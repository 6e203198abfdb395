-- Magnitudes by their significands and exponents, for any format of a given width of fraction.
use Rattle.std.specs.Prelude.{◌≡◌, ℕ, ◌+◌, ◌-◌, ◌*◌, ◌^◌, ◌<◌, ◌≤◌}
use Rattle.patterns.specs.Value.{value}
use Rattle.packing.specs.Bracket.{FineEnough, Lowered}

-- A magnitude pattern taken apart.
pub record Unpacks (frac b significand exponent : ℕ) : Type 0 where
  pub pattern : b ≡ exponent * 2 ^ frac + significand
  pub worth : value frac b ≡ significand * 2 ^ exponent
  pub short : significand < 2 ^ (frac + 1)
  pub fine : FineEnough frac significand exponent

-- The same worth with all digits of the format, or down to exponent 0: the exponent is lowered that far, and no further.
pub record Normalised (frac significand exponent significand' exponent' : ℕ) : Type 0 where
  pub worth : significand' * 2 ^ exponent' ≡ significand * 2 ^ exponent
  pub fine : FineEnough frac significand' exponent'
  pub lowered : Lowered frac exponent significand' exponent'

-- A shift that the exponent has, and that brings the significand to full length.
pub record Raises (frac significand exponent shift : ℕ) : Type 0 where
  pub small : shift < 64
  pub within : shift ≤ exponent
  pub normalised : Normalised frac significand exponent (significand * 2 ^ shift) (exponent - shift)
