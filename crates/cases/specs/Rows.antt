-- One case of an operation on binary64, and what it is for the case to be right.
use Rattle.std.specs.Prelude.{Bool, ◌≡◌, List, [], ◌∷◌, ℕ}
use Rattle.patterns.specs.Format.{binary64}
use Rattle.meaning.specs.Points.{Unary, neg}
use Rattle.meaning.specs.Pairs.{Pair, set_of}
use Rattle.meaning.specs.Results.{point}
use Rattle.meaning.specs.Statement.{DecPair, given, Bare₁, Bare₂, Decorated₂}
use Rattle.meaning.specs.Exactness.{ExactPair, Exact₁, Exact₂}
use Rattle.meaning.specs.Overlap.{State, state_number, OverlapOf, BareOverlap}
use Rattle.meaning.specs.Comparisons.{Comparison, BareComparison}
use Rattle.theorem3.specs.Answer.{Arithmetic, binary}

-- Operands and the answer.
pub data Row : Type 0 where
  bare : Arithmetic → (x y z : Pair) → Row
  decorated : Arithmetic → (x y z : DecPair) → Row
  stepped : Unary → (x z : Pair) → Row
  state : (x y : Pair) → State → (number : ℕ) → Row
  exact : Arithmetic → (x y : Pair) → ExactPair → Row
  exact_neg : (x : Pair) → ExactPair → Row
  compared : Comparison → (x y : Pair) → Bool → Row

-- The endpoint conditions of the state hold, its number is this one, and it is the answer.
pub record RightState (x y : Pair) (s : State) (number : ℕ) : Type 0 where
  pub holds : OverlapOf (set_of binary64 x) (set_of binary64 y) s
  pub numbered : number ≡ state_number s
  pub answered : BareOverlap binary64 x y (given number)

-- The answer is the one that the operation's statement fixes.
abbrev pub Right : Row → Type 0
Right (bare op x y z) = Bare₂ binary64 (point (binary op)) x y (given z)
Right (decorated op x y z) = Decorated₂ binary64 (point (binary op)) x y (given z)
Right (stepped op x z) = Bare₁ binary64 op x (given z)
Right (state x y s n) = RightState x y s n
Right (exact op x y z) = Exact₂ binary64 (point (binary op)) x y (given z)
Right (exact_neg x z) = Exact₁ binary64 neg x (given z)
Right (compared c x y t) = BareComparison binary64 c x y (given t)

-- Every row is right.
pub data All (P : Row → Type 0) : List Row → Type 0 where
  none : All P []
  more : {row : Row} {rows : List Row} → P row → All P rows → All P (row ∷ rows)
