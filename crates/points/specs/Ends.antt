-- Upper ends in their order, and which ends the results of an operation have. A lower end is the mirror of an upper end.
use Rattle.meaning.specs.Fraction.{Fraction, ◌≼◌, negated, whole}
use Rattle.meaning.specs.Sets.{End, at, unbounded, Set, empty, span, Between}
use Rattle.meaning.specs.Points.{Unary, sign, Makes₁}
use Rattle.meaning.specs.Supremum.{Supremum, Mirrored}
use Rattle.points.specs.Functions.{Keeps}

infix 40 ◌⊑◌
-- The upper end u is not above the upper end v. Where there is no end, nothing is above.
pub data ◌⊑◌ : End → End → Type 0 where
  numbers : {b d : Fraction} → b ≼ d → at b ⊑ at d
  none_above : {u : End} → u ⊑ unbounded

-- w is the greater of two upper ends.
pub data Greater : End → End → End → Type 0 where
  greater_first : {u v : End} → v ⊑ u → Greater u v u
  greater_second : {u v : End} → u ⊑ v → Greater u v v

-- w is the lesser of two upper ends.
pub data Lesser : End → End → End → Type 0 where
  lesser_first : {u v : End} → u ⊑ v → Lesser u v u
  lesser_second : {u v : End} → v ⊑ u → Lesser u v v

-- The upper end of a monotone operation's results, from the upper end of its operand.
pub data EndMakes : Unary → End → End → Type 0 where
  of_number : {op : Unary} {b s : Fraction} → Makes₁ op b s → EndMakes op (at b) (at s)
  of_none : {op : Unary} → Keeps op → EndMakes op unbounded unbounded
  sign_of_none : EndMakes sign unbounded (at (whole 1))

-- m is the least magnitude between a and b: 0 where 0 is between them, and else that of the end nearer to 0.
pub data LeastMagnitude : End → End → Fraction → Type 0 where
  zero_between : {a b : End} → Between a b (whole 0) → LeastMagnitude a b (whole 0)
  lower_nearer : {a : Fraction} {b : End} → whole 0 ≼ a → LeastMagnitude (at a) b a
  upper_nearer : {a : End} {b : Fraction} → b ≼ whole 0 → LeastMagnitude a (at b) (negated b)

-- u is the upper end of the members of either set, of which one at least is not empty.
pub data EitherUpper : Set → Set → End → Type 0 where
  upper_of_both : {a b c d u : End} → Greater b d u → EitherUpper (span a b) (span c d) u
  upper_of_first : {a b : End} → EitherUpper (span a b) empty b
  upper_of_second : {c d : End} → EitherUpper empty (span c d) d

-- There are results, u is their true upper bound, and l is the true upper bound of their negatives.
pub record Bounds (R : Fraction → Type 0) (u l : End) : Type 0 where
  pub some : (r : Fraction) × R r
  pub top : Supremum R u
  pub bottom : Supremum (Mirrored R) l
