-- The lesser and the greater of two patterns by value. Of two that are worth the same, as both zeros are, the lesser is the first and the
-- greater the second.
use Rattle.std.specs.Prelude.{ℕ}
use Rattle.patterns.specs.Format.{Format}
use Rattle.meaning.specs.Fraction.{◌≼◌, ◌≺◌}
use Rattle.meaning.specs.Pairs.{worth}

pub data LesserOf (F : Format) (a c : ℕ) : ℕ → Type 0 where
  lesser_is_first : worth F a ≼ worth F c → LesserOf F a c a
  lesser_is_second : worth F c ≺ worth F a → LesserOf F a c c

pub data GreaterOf (F : Format) (b d : ℕ) : ℕ → Type 0 where
  greater_is_first : worth F d ≺ worth F b → GreaterOf F b d b
  greater_is_second : worth F b ≼ worth F d → GreaterOf F b d d
