-- Two magnitudes brought to one exponent, the greater one whole and the smaller one cut.
use Rattle.std.specs.Prelude.{Bool, true, ◌≡◌, ◌⊎◌, ℕ, max, ◌*◌, ◌-◌, ◌/◌, ◌^◌, ◌<◌, ◌≤◌}
use Rattle.packing.specs.Bracket.{Brackets, FineEnough}

-- The exponent of a double's magnitude in units of the smallest positive one: one below its field, and 0 where it is subnormal.
abbrev pub exponent_of : ℕ → ℕ
exponent_of b = b / 2 ^ 52 - 1

-- The exponent that the two are brought to: the smaller one's, but at most ten digits are put behind the greater one.
abbrev pub common_exponent : (x y : ℕ) → ℕ
common_exponent x y = max (exponent_of y) (exponent_of x - 10)

-- n is high * 2 ^ exponent, and m is bracketed by low there. Where m is cut, high is long enough that their difference is too.
pub record Aligns (n m high low exponent : ℕ) (exact : Bool) : Type 0 where
  pub whole : high * 2 ^ exponent ≡ n
  pub cut : Brackets m 1 low exponent exact
  pub fine : FineEnough 52 high exponent
  pub long : (exact ≡ true) ⊎ (2 ^ 54 ≤ high)
  pub room : high < 2 ^ 63
  pub short : low < 2 ^ 53
  pub near : exponent < 2 ^ 11

-- The significands and exponents of two doubles, the first one's exponent not the smaller.
pub record Alignable (significand exponent significand' exponent' : ℕ) : Type 0 where
  pub ordered : exponent' ≤ exponent
  pub near : exponent < 2 ^ 11
  pub short : significand < 2 ^ 53
  pub short' : significand' < 2 ^ 53
  pub fine : FineEnough 52 significand exponent
