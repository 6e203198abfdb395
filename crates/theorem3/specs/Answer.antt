-- The true bounds of an arithmetic operation's results, by the tables.
use Rattle.std.specs.Prelude.{Bool, true, false}
use Rattle.meaning.specs.Fraction.{Fraction}
use Rattle.meaning.specs.Sets.{End, Set, empty, span, mirror_end}
use Rattle.meaning.specs.Classes.{Class, class_e, class_m, class_n0, class_n1, class_p0, class_p1, class_z}
use Rattle.meaning.specs.Points.{Binary, add, sub, mul, div}
use Rattle.meaning.specs.Supremum.{Supremum, Mirrored}
use Rattle.theorem3.specs.declared.Kind.{Kind}
use Rattle.theorem3.specs.Ends.{sum_end}
use Rattle.theorem3.specs.Tables.{class_by, kind_of, mirror_kind, product_upper, quotient_upper}

-- The four operations of two operands that round.
pub data Arithmetic : Type 0 where
  adding subtracting multiplying dividing : Arithmetic

abbrev pub binary : Arithmetic → Binary
binary adding = add
binary subtracting = sub
binary multiplying = mul
binary dividing = div

-- No results, or results with these true bounds. The lower one is given as the upper bound of the mirror image.
pub data Bounds : Type 0 where
  nothing : Bounds
  between : (mirrored upper : End) → Bounds

-- B are the true bounds of R.
pub data TrueBounds (R : Fraction → Type 0) : Bounds → Type 0 where
  no_results : ((r : Fraction) → R r → ⊥) → TrueBounds R nothing
  some_results : {l u : End} (s : Fraction) → R s → Supremum R u → Supremum (Mirrored R) l → TrueBounds R (between l u)

-- Only class Z has nothing to divide by but 0.
abbrev pub is_zero : Class → Bool
is_zero class_e = false
is_zero class_m = false
is_zero class_n0 = false
is_zero class_n1 = false
is_zero class_p0 = false
is_zero class_p1 = false
is_zero class_z = true

-- "Z | ∅": there is no quotient by [0, 0].
abbrev pub unless : Bool → Bounds → Bounds
unless true B = nothing
unless false B = B

-- The bounds for [a, b], which is of kind m, and [c, d], of class k. The mirror image of a product or a quotient comes from
-- that of the first operand.
abbrev pub span_bounds : Arithmetic → Kind → Class → (a b c d : End) → Bounds
span_bounds adding m k a b c d = between (sum_end (mirror_end a) (mirror_end c)) (sum_end b d)
span_bounds subtracting m k a b c d = between (sum_end (mirror_end a) d) (sum_end b (mirror_end c))
span_bounds multiplying m k a b c d =
    between (product_upper (mirror_kind m) (kind_of k) (mirror_end b) (mirror_end a) c d) (product_upper m (kind_of k) a b c d)
span_bounds dividing m k a b c d =
    unless (is_zero k) (between (quotient_upper (mirror_kind m) k (mirror_end b) (mirror_end a) c d) (quotient_upper m k a b c d))

abbrev pub bounds_of : Arithmetic → Set → Set → Bounds
bounds_of op empty Y = nothing
bounds_of op (span a b) empty = nothing
bounds_of op (span a b) (span c d) = span_bounds op (kind_of (class_by (span a b))) (class_by (span c d)) a b c d

-- Negation has the ends exchanged.
abbrev pub bounds_of_neg : Set → Bounds
bounds_of_neg empty = nothing
bounds_of_neg (span a b) = between b (mirror_end a)
