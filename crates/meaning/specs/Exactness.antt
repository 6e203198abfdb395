-- Which ends of an answer are exact. Ticket 2: "An end is exact if it is the true bound of all results, attained or not".
use Rattle.std.specs.Prelude.{Bool}
use Rattle.truth.specs.Answers.{Answers}
use Rattle.patterns.specs.Format.{Format}
use Rattle.meaning.specs.Fraction.{Fraction}
use Rattle.meaning.specs.Sets.{End, Set, empty, span, Member, Inside, mirror}
use Rattle.meaning.specs.Pairs.{Pair, set_of}
use Rattle.meaning.specs.Points.{Unary}
use Rattle.meaning.specs.Results.{Operation, Result₁, Result₂}
use Rattle.meaning.specs.Supremum.{Supremum, Mirrored}
use Rattle.meaning.specs.Statement.{Outcome, Answered₁, Answered₂, JudgedBare, HullOf}

-- The upper end of Z is exact for the results R: it is their true upper bound. "an infinite end only if the results are
-- unbounded there": no other infinite end is a `Supremum`. "Both ends of EMPTY are exact."
pub data ExactUpper (R : Fraction → Type 0) : Set → Type 0 where
  of_empty : ExactUpper R empty
  true_bound : {lower upper : End} → Supremum R upper → ExactUpper R (span lower upper)

-- The lower end, which is the upper end of the mirror image.
abbrev pub ExactLower : (Fraction → Type 0) → Set → Type 0
ExactLower R Z = ExactUpper (Mirrored R) (mirror Z)

-- A bare interval, and for each end whether it is exact.
pub record ExactPair : Type 0 where
  pub pair : Pair
  pub lower_exact : Bool
  pub upper_exact : Bool

-- The right answer for the results R: their hull, and each flag set exactly if its end is exact.
pub record ExactHullOf (F : Format) (R : Fraction → Type 0) (z : ExactPair) : Type 0 where
  pub answer : HullOf F R z.pair
  pub lower : Answers (ExactLower R (set_of F z.pair)) z.lower_exact
  pub upper : Answers (ExactUpper R (set_of F z.pair)) z.upper_exact

-- The hull of R in exact fractions, with no format: it holds all results, and every set between two ends that does contains it.
pub record ExactHull (R : Fraction → Type 0) (Z : Set) : Type 0 where
  pub holds : (r : Fraction) → R r → Member Z r
  pub narrowest : (W : Set) → ((r : Fraction) → R r → Member W r) → Inside Z W

-- The statement of each bare operation that reports this, of one and of two operands.
abbrev pub Exact₁ : Format → Unary → Pair → Outcome ExactPair → Type 0
Exact₁ F op x o = Answered₁ (JudgedBare F) (λ x z. ExactHullOf F (Result₁ op (set_of F x)) z) x o

abbrev pub Exact₂ : Format → Operation → Pair → Pair → Outcome ExactPair → Type 0
Exact₂ F op x y o = Answered₂ (JudgedBare F) (λ x y z. ExactHullOf F (Result₂ op (set_of F x) (set_of F y)) z) x y o
