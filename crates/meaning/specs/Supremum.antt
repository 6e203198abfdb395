-- Least upper bounds, attained or merely approached, and their upward rounding.
use Rattle.std.specs.Prelude.{ℕ}
use Rattle.patterns.specs.Format.{Format}
use Rattle.patterns.specs.Value.{Finite}
use Rattle.patterns.specs.Rounding.{UpperPattern}
use Rattle.meaning.specs.Fraction.{Fraction, ◌≼◌, negated}
use Rattle.meaning.specs.Sets.{End, at}
use Rattle.meaning.specs.Pairs.{worth}

abbrev pub UpperBound : (Fraction → Type 0) → Fraction → Type 0
UpperBound R w = (r : Fraction) → R r → r ≼ w

-- An upper end that is at most w. No end at infinity is.
pub data AtMost (w : Fraction) : End → Type 0 where
  at_most : {q : Fraction} → q ≼ w → AtMost w (at q)

-- u is the true upper bound of R: w bounds R from above exactly if u is at most w. An unbounded u says that nothing bounds R.
pub record Supremum (R : Fraction → Type 0) (u : End) : Type 0 where
  pub bounds : (w : Fraction) → AtMost w u → UpperBound R w
  pub least : (w : Fraction) → UpperBound R w → AtMost w u

-- The negatives of R. Their true upper bound is the negative of R's true lower bound.
abbrev pub Mirrored : (Fraction → Type 0) → Fraction → Type 0
Mirrored R r = R (negated r)

-- The pattern r is the upper end u rounded upward: the least of the format that is not below u, never -0.0.
pub record UpperEnd (F : Format) (u : End) (r : ℕ) : Type 0 where
  pub upper : UpperPattern F r
  pub above : Finite F r → AtMost (worth F r) u
  pub least : (c : ℕ) → Finite F c → AtMost (worth F c) u → Finite F r × (worth F r ≼ worth F c)
