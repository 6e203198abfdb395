-- Ends with their zeros as the bytes have them.
use Rattle.std.specs.Prelude.{ℕ, eqb}
use Rattle.patterns.specs.Format.{Format, sign_bit}
use Rattle.patterns.specs.Value.{choose}
use Rattle.meaning.specs.Pairs.{Pair}

unfoldable pub canonical_lower : Format → ℕ → ℕ
canonical_lower F a = choose (eqb a 0) (sign_bit F) a

unfoldable pub canonical_upper : Format → ℕ → ℕ
canonical_upper F b = choose (eqb b (sign_bit F)) 0 b

abbrev pub canonical_pair : Format → Pair → Pair
canonical_pair F p = record { lower = canonical_lower F p.lower; upper = canonical_upper F p.upper }
