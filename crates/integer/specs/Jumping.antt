-- What the tests for jumps compare.
use Rattle.std.specs.Prelude.{◌≡◌, ◌⊎◌, ℕ}
use Rattle.patterns.specs.Format.{Format, infinity}
use Rattle.patterns.specs.Value.{Finite}
use Rattle.meaning.specs.Fraction.{Fraction, ◌⊕◌, half, Whole}
use Rattle.meaning.specs.Sets.{End, at}
use Rattle.meaning.specs.Pairs.{minus_infinity}

-- Two lower ends, or two upper ends.
pub data OneSide (F : Format) (a b : ℕ) : Type 0 where
  lowers : Finite F a ⊎ (a ≡ minus_infinity F) → Finite F b ⊎ (b ≡ minus_infinity F) → OneSide F a b
  uppers : Finite F a ⊎ (a ≡ infinity F) → Finite F b ⊎ (b ≡ infinity F) → OneSide F a b

-- An end with fractional part one half.
pub data HalfAt : End → Type 0 where
  half_at : {q : Fraction} → Whole (q ⊕ half) → HalfAt (at q)
