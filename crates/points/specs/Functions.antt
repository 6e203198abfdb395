-- What is said of a point function as a relation between an operand and its result.
use Rattle.meaning.specs.Fraction.{Fraction, ◌≼◌}
use Rattle.meaning.specs.Points.{Unary, ceil, floor, round, round_ties_even, sign, trunc}

-- A greater operand has no lesser result.
pub record Monotone (M : Fraction → Fraction → Type 0) : Type 0 where
  pub rises : {x y r s : Fraction} → M x r → M y s → x ≼ y → r ≼ s

-- Every operand has a result.
abbrev pub Total : (Fraction → Fraction → Type 0) → Type 0
Total M = (x : Fraction) → (r : Fraction) × M x r

-- A monotone operation, and the one that makes the negative of its result from the negative operand.
pub data Mirrors : Unary → Unary → Type 0 where
  ceil_floor : Mirrors ceil floor
  floor_ceil : Mirrors floor ceil
  round_round : Mirrors round round
  even_even : Mirrors round_ties_even round_ties_even
  sign_sign : Mirrors sign sign
  trunc_trunc : Mirrors trunc trunc

-- The operations that leave every whole number as it is.
pub data Keeps : Unary → Type 0 where
  keeps_ceil : Keeps ceil
  keeps_floor : Keeps floor
  keeps_round : Keeps round
  keeps_even : Keeps round_ties_even
  keeps_trunc : Keeps trunc
