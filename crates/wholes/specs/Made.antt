-- What a function makes of a pattern.
use Rattle.std.specs.Prelude.{◌≡◌, ℕ, ◌<◌}
use Rattle.patterns.specs.Format.{Format, infinity, sign_bit}
use Rattle.patterns.specs.Value.{Finite}
use Rattle.meaning.specs.Fraction.{negated}
use Rattle.meaning.specs.Points.{Unary, ceil, floor, round, round_ties_even, sign, trunc, Makes₁}
use Rattle.meaning.specs.Pairs.{worth}
use Rattle.wholes.specs.declared.functions.Function.{Function}

abbrev pub operation : Function → Unary
operation Function.Ceil = ceil
operation Function.Floor = floor
operation Function.Round = round
operation Function.RoundTiesEven = round_ties_even
operation Function.Sign = sign
operation Function.Trunc = trunc

-- A finite pattern that is not -0.0.
pub record Number (F : Format) (r : ℕ) : Type 0 where
  pub finite : Finite F r
  pub not_minus_zero : r ≡ sign_bit F → ⊥

-- The operation makes r of the finite pattern b.
pub record Made (F : Format) (op : Unary) (b r : ℕ) : Type 0 where
  pub number : Number F r
  pub makes : Makes₁ op (worth F b) (worth F r)

-- The operation makes the magnitude r of the magnitude m.
pub record MadeMagnitude (F : Format) (op : Unary) (m r : ℕ) : Type 0 where
  pub finite : r < infinity F
  pub makes : Makes₁ op (worth F m) (worth F r)

-- r is worth the negative of the magnitude m.
pub record NegativeOf (F : Format) (m r : ℕ) : Type 0 where
  pub number : Number F r
  pub is : worth F r ≡ negated (worth F m)
