-- Exact values by their sign.
use Rattle.std.specs.Prelude.{Bool, true, false, ℕ}
use Rattle.patterns.specs.Rounding.{Exact}

-- n / d, or - n / d where it is negative.
abbrev pub signed : Bool → ℕ → ℕ → Exact
signed false n d = record { positive = n; negative = 0; over = d }
signed true n d = record { positive = 0; negative = n; over = d }
