-- Digits that significands have too many or too few of, for a format of a given width of fraction.
use Rattle.std.specs.Prelude.{◌≡◌, ◌⊎◌, ℕ, ◌+◌, ◌*◌, ◌/◌, ◌^◌, ◌<◌, ◌≤◌}

-- A shift that leaves at most frac + 1 digits of m, and all of frac + 1 if it drops any.
pub record Excess (frac m shift : ℕ) : Type 0 where
  pub small : shift < 64
  pub short : m / 2 ^ shift < 2 ^ (frac + 1)
  pub full : (shift ≡ 0) ⊎ (2 ^ frac ≤ m / 2 ^ shift)

-- A shift that gives m at least frac + 1 digits, and no more than frac + 1 if it adds any.
pub record Missing (frac m shift : ℕ) : Type 0 where
  pub few : shift ≤ frac
  pub full : 2 ^ frac ≤ m * 2 ^ shift
  pub short : (shift ≡ 0) ⊎ (m * 2 ^ shift < 2 ^ (frac + 1))
