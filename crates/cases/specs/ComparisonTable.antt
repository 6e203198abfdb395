-- Cases of comparisons: the crate's documented examples, and those beside them that tell a right version from a likely wrong one.
use Rattle.std.specs.Prelude.{true, false, List, [], ◌∷◌}
use Rattle.meaning.specs.Comparisons.{equal, subset, interior, disjoint, less, strict_less, precedes, strict_precedes}
use Rattle.cases.specs.Rows.{Row, compared}
use Rattle.cases.specs.Table.{pair, only, plus_inf, one, one_and_half, two, three, four, above_one, minus_one, minus_inf, minus_zero, plus_zero, entire, emptiness, nought}

abbrev pub comparison_table : List Row
comparison_table =
    compared equal (pair one two) (pair one two) true
    ∷ compared equal (pair one two) (pair one three) false
    ∷ compared equal nought (pair plus_zero minus_zero) true
    ∷ compared equal emptiness emptiness true
    ∷ compared equal emptiness entire false
    ∷ compared subset (pair one two) (pair one two) true
    ∷ compared subset (pair one three) (pair one two) false
    ∷ compared subset emptiness emptiness true
    ∷ compared subset emptiness entire true
    ∷ compared subset (only one) emptiness false
    ∷ compared subset entire entire true
    ∷ compared interior (pair above_one one_and_half) (pair one two) true
    ∷ compared interior (pair above_one two) (pair one two) false
    ∷ compared interior emptiness emptiness true
    ∷ compared interior entire entire true
    ∷ compared interior (pair one plus_inf) (pair minus_one plus_inf) true
    ∷ compared interior (pair one plus_inf) (pair one plus_inf) false
    ∷ compared disjoint (pair one two) (pair three four) true
    ∷ compared disjoint (pair one three) (pair three four) false
    ∷ compared disjoint (pair three four) (pair one two) true
    ∷ compared disjoint emptiness emptiness true
    ∷ compared disjoint emptiness entire true
    ∷ compared less (pair one three) (pair two four) true
    ∷ compared less (pair one four) (pair one four) true
    ∷ compared less (pair two three) (pair one four) false
    ∷ compared less emptiness emptiness true
    ∷ compared less emptiness entire false
    ∷ compared less entire emptiness false
    ∷ compared less entire entire true
    ∷ compared strict_less (pair one three) (pair two four) true
    ∷ compared strict_less (pair one four) (pair two four) false
    ∷ compared strict_less (pair one plus_inf) (pair two plus_inf) true
    ∷ compared strict_less (pair minus_inf one) (pair minus_inf two) true
    ∷ compared strict_less emptiness emptiness true
    ∷ compared strict_less emptiness entire false
    ∷ compared strict_less entire emptiness false
    ∷ compared strict_less entire entire true
    ∷ compared precedes (pair one three) (pair three four) true
    ∷ compared precedes (pair one three) (pair two four) false
    ∷ compared precedes emptiness emptiness true
    ∷ compared precedes emptiness entire true
    ∷ compared precedes entire emptiness true
    ∷ compared precedes entire entire false
    ∷ compared strict_precedes (pair one two) (pair three four) true
    ∷ compared strict_precedes (pair one three) (pair three four) false
    ∷ compared strict_precedes emptiness entire true
    ∷ []
