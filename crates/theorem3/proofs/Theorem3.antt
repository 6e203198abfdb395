-- Demand 3, for any format: of all results on fractions in the operands, with no division by zero, the answer is empty
-- exactly if there is none; else it holds them all, and every interval with ends of the format that holds them all contains it.
use Rattle.patterns.specs.Format.{Format, binary64, binary32}
use Rattle.meaning.specs.Fraction.{Fraction}
use Rattle.meaning.specs.Pairs.{Pair, Bare, empty_pair, set_of}
use Rattle.meaning.specs.Points.{neg}
use Rattle.meaning.specs.Results.{point}
use Rattle.meaning.specs.Statement.{HullOf, given, right₁, right₂, bare_good, Bare₁, Bare₂}
use Rattle.meaning.proofs.PairLaws.{set_valid}
use Rattle.meaning.proofs.PatternHull.{pair_by, hull_of_ends, hull_of_none}
use Rattle.theorem3.specs.Answer.{Arithmetic, binary, Bounds, nothing, between, TrueBounds, no_results, some_results, bounds_of, bounds_of_neg}
use Rattle.theorem3.proofs.TrueBounds.{bounds_right, neg_bounds_right}
use Rattle.theorem3.proofs.Rounding.{rounded}

-- The answer: true bounds by the tables, rounded outward.
unfoldable pub answer : Format → Bounds → Pair
answer F nothing = empty_pair F
answer F (between l u) = pair_by F (rounded F l).0 (rounded F u).0

-- True bounds rounded outward are the hull.
pub answer_right : (F : Format) {R : Fraction → Type 0} {B : Bounds} → TrueBounds R B → HullOf F R (answer F B)
unfolding answer
answer_right F {R} (no_results none) = hull_of_none F R none
answer_right F {R} (some_results {l} {u} s m top bottom) = hull_of_ends F R top bottom (rounded F u).1 (rounded F l).1 s m

-- Sum, difference, product and quotient of two valid operands.
pub theorem3 : (F : Format) (op : Arithmetic) (x y : Pair) → Bare F x → Bare F y
    → Bare₂ F (point (binary op)) x y (given (answer F (bounds_of op (set_of F x) (set_of F y))))
theorem3 F op x y h k = right₂ (bare_good h) (bare_good k) (answer_right F (bounds_right op (set_valid F x h) (set_valid F y k)))

-- Negation.
pub theorem3_neg : (F : Format) (x : Pair) → Bare F x → Bare₁ F neg x (given (answer F (bounds_of_neg (set_of F x))))
theorem3_neg F x h = right₁ (bare_good h) (answer_right F (neg_bounds_right (set_valid F x h)))

pub theorem3_binary64 : (op : Arithmetic) (x y : Pair) → Bare binary64 x → Bare binary64 y
    → Bare₂ binary64 (point (binary op)) x y (given (answer binary64 (bounds_of op (set_of binary64 x) (set_of binary64 y))))
theorem3_binary64 = theorem3 binary64

pub theorem3_binary32 : (op : Arithmetic) (x y : Pair) → Bare binary32 x → Bare binary32 y
    → Bare₂ binary32 (point (binary op)) x y (given (answer binary32 (bounds_of op (set_of binary32 x) (set_of binary32 y))))
theorem3_binary32 = theorem3 binary32
