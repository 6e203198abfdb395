-- The point functions of IEEE 1788-2015, clause 10.6.1 (table 9.1), as relations on fractions.
use Rattle.std.specs.Prelude.{◌⊎◌}
use Rattle.meaning.specs.Fraction.{Fraction, ◌≼◌, ◌≺◌, ◌≈◌, ◌⊕◌, ◌⊗◌, negated, whole, half, Whole, Even}

-- Operations of one operand with a point function.
pub data Unary : Type 0 where
  neg abs ceil floor round round_ties_even sign trunc : Unary

-- Operations of two operands with a point function.
pub data Binary : Type 0 where
  add sub mul div max min : Binary

-- |x| is x for x not below 0, and -x for x not above 0.
pub record Abs (x r : Fraction) : Type 0 where
  pub of_positive : whole 0 ≼ x → r ≈ x
  pub of_negative : x ≼ whole 0 → r ≈ negated x

-- The least whole number not below x.
pub record Ceil (x r : Fraction) : Type 0 where
  pub is_whole : Whole r
  pub not_below : x ≼ r
  pub near : r ≺ x ⊕ whole 1

-- The greatest whole number not above x.
pub record Floor (x r : Fraction) : Type 0 where
  pub is_whole : Whole r
  pub not_above : r ≼ x
  pub near : x ≺ r ⊕ whole 1

-- A whole number nearest to x.
pub record Nearest (x r : Fraction) : Type 0 where
  pub is_whole : Whole r
  pub not_far_below : x ≼ r ⊕ half
  pub not_far_above : r ≼ x ⊕ half

-- The nearest whole number, and of two the one away from zero: a tie goes down only below zero, and up only above.
pub record Round (x r : Fraction) : Type 0 where
  pub nearest : Nearest x r
  pub tie_down : x ≈ r ⊕ half → x ≺ whole 0
  pub tie_up : r ≈ x ⊕ half → whole 0 ≺ x

-- The nearest whole number, and of two the even one.
pub record RoundTiesEven (x r : Fraction) : Type 0 where
  pub nearest : Nearest x r
  pub tie_down : x ≈ r ⊕ half → Even r
  pub tie_up : r ≈ x ⊕ half → Even r

-- 1, 0 or -1, as x is above, at or below 0.
pub record Sign (x r : Fraction) : Type 0 where
  pub of_positive : whole 0 ≺ x → r ≈ whole 1
  pub of_zero : x ≈ whole 0 → r ≈ whole 0
  pub of_negative : x ≺ whole 0 → r ≈ negated (whole 1)

-- The whole number next to x on the side of zero.
pub record Trunc (x r : Fraction) : Type 0 where
  pub of_positive : whole 0 ≼ x → Floor x r
  pub of_negative : x ≼ whole 0 → Ceil x r

-- The greater of two.
pub record Max (x y r : Fraction) : Type 0 where
  pub is_one : (r ≈ x) ⊎ (r ≈ y)
  pub first : x ≼ r
  pub second : y ≼ r

-- The lesser of two.
pub record Min (x y r : Fraction) : Type 0 where
  pub is_one : (r ≈ x) ⊎ (r ≈ y)
  pub first : r ≼ x
  pub second : r ≼ y

-- "with no division by zero": r = x / y where y is not 0 and r * y = x.
pub record Quotient (x y r : Fraction) : Type 0 where
  pub not_zero : y ≈ whole 0 → ⊥
  pub makes : r ⊗ y ≈ x

-- r is the value at x of the operation's point function.
abbrev pub Makes₁ : Unary → Fraction → Fraction → Type 0
Makes₁ neg x r = r ≈ negated x
Makes₁ abs x r = Abs x r
Makes₁ ceil x r = Ceil x r
Makes₁ floor x r = Floor x r
Makes₁ round x r = Round x r
Makes₁ round_ties_even x r = RoundTiesEven x r
Makes₁ sign x r = Sign x r
Makes₁ trunc x r = Trunc x r

-- r is the value at x and y of the operation's point function.
abbrev pub Makes₂ : Binary → Fraction → Fraction → Fraction → Type 0
Makes₂ add x y r = r ≈ x ⊕ y
Makes₂ sub x y r = r ⊕ y ≈ x
Makes₂ mul x y r = r ≈ x ⊗ y
Makes₂ div x y r = Quotient x y r
Makes₂ max x y r = Max x y r
Makes₂ min x y r = Min x y r
