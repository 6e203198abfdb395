-- Fractions of whole numbers. Document 01: "All meaning is stated over such whole numbers and over fractions of two whole numbers."
use Rattle.std.specs.Prelude.{◌≡◌, ℕ, ◌+◌, ◌*◌, ◌<◌, ◌≤◌}
use Rattle.std.proofs.Common.{mul-pos, lit<}

-- The fraction (up - down) / over. A difference of two natural numbers stands for a whole number with its sign.
pub record Fraction : Type 0 where
  pub up : ℕ
  pub down : ℕ
  pub over : ℕ
  pub positive : 0 < over

infix 40 ◌≼◌ ◌≺◌ ◌≈◌
infixl 50 ◌⊕◌
infixl 60 ◌⊗◌
-- x is at most y: (x.up - x.down) / x.over ≤ (y.up - y.down) / y.over, multiplied out.
pub record ◌≼◌ (x y : Fraction) : Type 0 where
  pub le : x.up * y.over + y.down * x.over ≤ y.up * x.over + x.down * y.over

-- x is less than y.
pub record ◌≺◌ (x y : Fraction) : Type 0 where
  pub lt : x.up * y.over + y.down * x.over < y.up * x.over + x.down * y.over

-- x and y are the same number.
pub record ◌≈◌ (x y : Fraction) : Type 0 where
  pub eq : x.up * y.over + y.down * x.over ≡ y.up * x.over + x.down * y.over

-- The sum.
unfoldable pub ◌⊕◌ : Fraction → Fraction → Fraction
x ⊕ y = record {
  up = x.up * y.over + y.up * x.over;
  down = x.down * y.over + y.down * x.over;
  over = x.over * y.over;
  positive = mul-pos x.positive y.positive;
}

-- The product.
unfoldable pub ◌⊗◌ : Fraction → Fraction → Fraction
x ⊗ y = record {
  up = x.up * y.up + x.down * y.down;
  down = x.up * y.down + x.down * y.up;
  over = x.over * y.over;
  positive = mul-pos x.positive y.positive;
}

-- The negative.
abbrev pub negated : Fraction → Fraction
negated x = record { up = x.down; down = x.up; over = x.over; positive = x.positive }

-- The whole number n.
abbrev pub whole : ℕ → Fraction
whole n = record { up = n; down = 0; over = 1; positive = lit< tt }

-- One half.
abbrev pub half : Fraction
half = record { up = 1; down = 0; over = 2; positive = lit< tt }

-- x is a whole number, plus - minus.
pub record Whole (x : Fraction) : Type 0 where
  pub plus : ℕ
  pub minus : ℕ
  pub is : x.up + minus * x.over ≡ plus * x.over + x.down

-- x is an even whole number, 2 * (plus - minus).
pub record Even (x : Fraction) : Type 0 where
  pub plus : ℕ
  pub minus : ℕ
  pub is : x.up + 2 * minus * x.over ≡ 2 * plus * x.over + x.down
