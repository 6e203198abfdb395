-- A bracket: the exact value n / d, in units of the format's smallest positive number, cut to a significand and an exponent.
use Rattle.std.specs.Prelude.{Bool, true, ◌≡◌, ◌⊎◌, ◌↔◌, ℕ, ◌+◌, ◌*◌, ◌^◌, ◌<◌, ◌≤◌}

-- significand * 2 ^ exponent is the last such multiple that is not above n / d, and `exact` says whether it is n / d itself.
pub record Brackets (n d significand exponent : ℕ) (exact : Bool) : Type 0 where
  pub low : significand * 2 ^ exponent * d ≤ n
  pub high : n < (significand + 1) * 2 ^ exponent * d
  pub told : (exact ≡ true) ↔ (significand * 2 ^ exponent * d ≡ n)

-- Whatever lies in the first bracket lies in the second.
abbrev pub Rebrackets : (significand exponent : ℕ) (exact : Bool) (significand' exponent' : ℕ) (exact' : Bool) → Type 0
Rebrackets m e x m' e' x' = (n d : ℕ) → 0 < d → Brackets n d m e x → Brackets n d m' e' x'

-- The bracket is at least as fine as the format there: it is cut at the format's unit, or has all digits of a significand.
abbrev pub FineEnough : (frac significand exponent : ℕ) → Type 0
FineEnough frac significand exponent = (exponent ≡ 0) ⊎ (2 ^ frac ≤ significand)

-- It is no finer than it has to be: its exponent is `start`, or lower where the significand has no digit too many.
pub record Lowered (frac start significand exponent : ℕ) : Type 0 where
  pub lower : exponent ≤ start
  pub short : (exponent ≡ start) ⊎ (significand < 2 ^ (frac + 1))
