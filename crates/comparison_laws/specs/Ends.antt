-- Orders of fractions, `≼` or `≺`, and ends of intervals that stand in one.
use Rattle.meaning.specs.Fraction.{Fraction, ◌≼◌, ◌≺◌, negated}
use Rattle.meaning.specs.Sets.{End, at, unbounded}

-- R is `≼` or `≺`, as far as comparisons can tell.
pub record Ascending (R : Fraction → Fraction → Type 0) : Type 0 where
  pub of_less : {x y : Fraction} → x ≺ y → R x y
  pub at_most_lem : {x y : Fraction} → R x y → x ≼ y
  pub from_below : {x y z : Fraction} → x ≼ y → R y z → R x z
  pub to_above : {x y z : Fraction} → R x y → y ≼ z → R x z
  pub mirrored : {x y : Fraction} → R x y → R (negated y) (negated x)

-- The upper end b of an interval against the upper end d of another. Where d bounds nothing, there is a greater member for every one.
pub data Reaches (R : Fraction → Fraction → Type 0) : (b d : End) → Type 0 where
  reaches : {p q : Fraction} → R p q → Reaches R (at p) (at q)
  reaches_all : {b : End} → Reaches R b unbounded

-- The upper end b of an interval against the lower end c of another, both of which have to be numbers.
pub data Before (R : Fraction → Fraction → Type 0) : (b c : End) → Type 0 where
  before : {p q : Fraction} → R p q → Before R (at p) (at q)
