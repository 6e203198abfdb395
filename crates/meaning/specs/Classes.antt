-- The seven classes of intervals by the signs of their ends, as the crate's table of codes has them.
use Rattle.meaning.specs.Fraction.{Fraction, ◌≺◌, ◌≈◌, whole}
use Rattle.meaning.specs.Sets.{End, at, unbounded, Set, empty, span}

pub data Class : Type 0 where
  class_e class_m class_n0 class_n1 class_p0 class_p1 class_z : Class

pub data BelowZero : End → Type 0 where
  below_zero : {q : Fraction} → q ≺ whole 0 → BelowZero (at q)

pub data AtZero : End → Type 0 where
  at_zero : {q : Fraction} → q ≈ whole 0 → AtZero (at q)

pub data AboveZero : End → Type 0 where
  above_zero : {q : Fraction} → whole 0 ≺ q → AboveZero (at q)

-- A lower end below 0: a negative number, or none.
pub data LowerNegative : End → Type 0 where
  lower_number : {q : Fraction} → q ≺ whole 0 → LowerNegative (at q)
  lower_none : LowerNegative unbounded

-- An upper end above 0: a positive number, or none.
pub data UpperPositive : End → Type 0 where
  upper_number : {q : Fraction} → whole 0 ≺ q → UpperPositive (at q)
  upper_none : UpperPositive unbounded

-- E: empty. M: a < 0 < b. N0: a < 0 and b = 0. N1: b < 0. P0: a = 0 and 0 < b. P1: 0 < a. Z: a = b = 0.
pub data ClassOf : Set → Class → Type 0 where
  is_e : ClassOf empty class_e
  is_m : {a b : End} → LowerNegative a → UpperPositive b → ClassOf (span a b) class_m
  is_n0 : {a b : End} → LowerNegative a → AtZero b → ClassOf (span a b) class_n0
  is_n1 : {a b : End} → LowerNegative a → BelowZero b → ClassOf (span a b) class_n1
  is_p0 : {a b : End} → AtZero a → UpperPositive b → ClassOf (span a b) class_p0
  is_p1 : {a b : End} → AboveZero a → UpperPositive b → ClassOf (span a b) class_p1
  is_z : {a b : End} → AtZero a → AtZero b → ClassOf (span a b) class_z
