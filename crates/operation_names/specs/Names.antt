-- The operations that the code's names stand for.
use Rattle.meaning.specs.Points as points
use Rattle.meaning.specs.Points.{neg, abs, add, sub, mul, div, max, min}
use Rattle.meaning.specs.Results.{Operation, point, convex_hull, intersection}
use Rattle.meaning.specs.Comparisons as comparisons
use Rattle.meaning.specs.Comparisons.{equal, subset, interior, disjoint, less, strict_less, precedes, strict_precedes}
use Rattle.wholes.specs.Made.{operation}
use Rattle.operation_names.specs.declared.names.Unary.{Unary}
use Rattle.operation_names.specs.declared.names.Binary.{Binary}
use Rattle.operation_names.specs.declared.names.Arithmetic.{Arithmetic}
use Rattle.operation_names.specs.declared.names.Comparison.{Comparison}

abbrev pub unary_of : Unary → points.Unary
unary_of Unary.Neg = neg
unary_of Unary.Abs = abs
unary_of (Unary.Whole f) = operation f

abbrev pub binary_of : Binary → Operation
binary_of Binary.Add = point add
binary_of Binary.Sub = point sub
binary_of Binary.Mul = point mul
binary_of Binary.Div = point div
binary_of Binary.ConvexHull = convex_hull
binary_of Binary.Intersection = intersection
binary_of Binary.Max = point max
binary_of Binary.Min = point min

abbrev pub arithmetic_of : Arithmetic → Operation
arithmetic_of Arithmetic.Add = point add
arithmetic_of Arithmetic.Sub = point sub
arithmetic_of Arithmetic.Mul = point mul
arithmetic_of Arithmetic.Div = point div

abbrev pub comparison_of : Comparison → comparisons.Comparison
comparison_of Comparison.Equal = equal
comparison_of Comparison.Subset = subset
comparison_of Comparison.Interior = interior
comparison_of Comparison.Disjoint = disjoint
comparison_of Comparison.Less = less
comparison_of Comparison.StrictLess = strict_less
comparison_of Comparison.Precedes = precedes
comparison_of Comparison.StrictPrecedes = strict_precedes
