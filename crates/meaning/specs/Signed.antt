-- Fractions with a signed numerator, as a reader may expect them: an integer over a positive whole number.
use Rattle.std.specs.Prelude.{◌≡◌, ℕ, ◌*◌, ◌<◌, ℤ, pos, neg_ℤ, ◌+ℤ◌, ◌-ℤ◌, ◌*ℤ◌, ◌≤ℤ◌, ◌<ℤ◌}
use Rattle.std.proofs.Common.{mul-pos}
use Rattle.meaning.specs.Fraction.{Fraction}

pub record Signed : Type 0 where
  pub numerator : ℤ
  pub over : ℕ
  pub positive : 0 < over

infix 40 ◌≤ˢ◌ ◌<ˢ◌ ◌=ˢ◌
infixl 50 ◌+ˢ◌
infixl 60 ◌*ˢ◌
-- Two fractions are compared as their numerators over a common denominator are.
pub record ◌≤ˢ◌ (x y : Signed) : Type 0 where
  pub le : (x.numerator *ℤ pos y.over) ≤ℤ (y.numerator *ℤ pos x.over)

pub record ◌<ˢ◌ (x y : Signed) : Type 0 where
  pub lt : (x.numerator *ℤ pos y.over) <ℤ (y.numerator *ℤ pos x.over)

pub record ◌=ˢ◌ (x y : Signed) : Type 0 where
  pub eq : x.numerator *ℤ pos y.over ≡ y.numerator *ℤ pos x.over

unfoldable pub ◌+ˢ◌ : Signed → Signed → Signed
x +ˢ y = record {
  numerator = x.numerator *ℤ pos y.over +ℤ y.numerator *ℤ pos x.over;
  over = x.over * y.over;
  positive = mul-pos x.positive y.positive;
}

unfoldable pub ◌*ˢ◌ : Signed → Signed → Signed
x *ˢ y = record {
  numerator = x.numerator *ℤ y.numerator;
  over = x.over * y.over;
  positive = mul-pos x.positive y.positive;
}

abbrev pub negatedˢ : Signed → Signed
negatedˢ x = record { numerator = neg_ℤ x.numerator; over = x.over; positive = x.positive }

-- What the fraction (up - down) / over is with a signed numerator.
abbrev pub signed : Fraction → Signed
signed x = record { numerator = pos x.up -ℤ pos x.down; over = x.over; positive = x.positive }
