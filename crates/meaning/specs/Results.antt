-- The results of an operation on sets: what its point function makes of their members.
use Rattle.std.specs.Prelude.{◌⊎◌}
use Rattle.meaning.specs.Fraction.{Fraction}
use Rattle.meaning.specs.Sets.{Set, Member}
use Rattle.meaning.specs.Points.{Unary, Binary, Makes₁, Makes₂}

-- Some x in X makes r.
pub record Image₁ (M : Fraction → Fraction → Type 0) (X : Set) (r : Fraction) : Type 0 where
  pub x : Fraction
  pub in_x : Member X x
  pub makes : M x r

-- Some x in X and some y in Y make r.
pub record Image₂ (M : Fraction → Fraction → Fraction → Type 0) (X Y : Set) (r : Fraction) : Type 0 where
  pub x : Fraction
  pub y : Fraction
  pub in_x : Member X x
  pub in_y : Member Y y
  pub makes : M x y r

-- The operations of two operands whose answer is an interval: those with a point function, and the two on sets.
pub data Operation : Type 0 where
  point : Binary → Operation
  convex_hull intersection : Operation

abbrev pub Result₁ : Unary → Set → Fraction → Type 0
Result₁ op X r = Image₁ (Makes₁ op) X r

-- IEEE 1788-2015, 10.5.7: the convex hull is over the members of either set, the intersection over those of both.
abbrev pub Result₂ : Operation → Set → Set → Fraction → Type 0
Result₂ (point op) X Y r = Image₂ (Makes₂ op) X Y r
Result₂ convex_hull X Y r = Member X r ⊎ Member Y r
Result₂ intersection X Y r = Member X r × Member Y r
