-- Pairs of patterns with signs changed.
use Rattle.std.specs.Prelude.{ℕ}
use Rattle.patterns.specs.Format.{Format}
use Rattle.patterns.specs.Value.{opposite}
use Rattle.meaning.specs.Pairs.{Pair}

abbrev pub outward_pair : Format → (lo hi : ℕ) → Pair
outward_pair F lo hi = record { lower = opposite F lo; upper = hi }

abbrev pub mirror_pair : Format → Pair → Pair
mirror_pair F p = record { lower = opposite F p.upper; upper = opposite F p.lower }
