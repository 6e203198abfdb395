-- Every case of the table is right.
use mathlib.Core.Bool.{Bool, true}
use mathlib.Core.List.{List, [], ◌∷◌}
use lib.Dec.{T}
use Rattle.patterns.specs.Format.{binary64, infinity, sign_bit}
use Rattle.patterns.specs.Value.{value, magnitude, plus, minus, opposite}
use Rattle.meaning.specs.Fraction.{◌⊕◌, ◌⊗◌}
use Rattle.meaning.specs.Pairs.{both, minus_infinity, end_of, set_of}
use Rattle.meaning.proofs.PairLaws.{split}
use Rattle.theorem3.specs.Ends.{reciprocal, greater}
use Rattle.cases.specs.Rows.{Row, bare, decorated, stepped, state, exact, exact_neg, compared, Right, All, none, more}
use Rattle.cases.specs.Table.{table}
use Rattle.cases.specs.ExactTable.{exact_table}
use Rattle.cases.specs.ComparisonTable.{comparison_table}
use Rattle.cases.proofs.RowTests.{arithmetic_test, arithmetic_tested, step_test, step_tested}
use Rattle.cases.proofs.StateTests.{state_test, state_tested}
use Rattle.cases.proofs.DecoratedTests.{decorated_test, decorated_tested}
use Rattle.cases.proofs.ExactTests.{exact_test, exact_tested, exact_neg_test, exact_neg_tested}
use Rattle.cases.proofs.ComparisonTests.{compared_test, compared_tested}

abbrev passes : Row → Bool
passes (bare op x y z) = arithmetic_test binary64 op x y z
passes (decorated op x y z) = decorated_test binary64 op x y z
passes (stepped op x z) = step_test binary64 op x z
passes (state x y s n) = state_test binary64 x y s n
passes (exact op x y z) = exact_test binary64 op x y z
passes (exact_neg x z) = exact_neg_test binary64 x z
passes (compared c x y t) = compared_test binary64 c x y t

passed : (row : Row) → T (passes row) → Right row
passed (bare op x y z) t = arithmetic_tested binary64 op x y z t
passed (decorated op x y z) t = decorated_tested binary64 op x y z t
passed (stepped op x z) t = step_tested binary64 op x z t
passed (state x y s n) t = state_tested x y s n t
passed (exact op x y z) t = exact_tested binary64 op x y z t
passed (exact_neg x z) t = exact_neg_tested binary64 x z t
passed (compared c x y t) p = compared_tested binary64 c x y t p

abbrev all_pass : List Row → Bool
all_pass [] = true
all_pass (row ∷ rows) = both (passes row) (all_pass rows)

all_passed : (rows : List Row) → T (all_pass rows) → All Right rows
all_passed [] t = none
all_passed (row ∷ rows) t = let s = split (passes row) (all_pass rows) t in more (passed row s.0) (all_passed rows s.1)

-- The table's statement.
pub table_right : All Right table
unfolding infinity sign_bit value magnitude plus minus opposite ◌⊕◌ ◌⊗◌ minus_infinity end_of set_of reciprocal greater
table_right = all_passed table tt

-- The statement of the table of exactness.
pub exact_table_right : All Right exact_table
unfolding infinity sign_bit value magnitude plus minus opposite ◌⊕◌ ◌⊗◌ minus_infinity end_of set_of reciprocal greater
exact_table_right = all_passed exact_table tt

-- The statement of the table of comparisons.
pub comparison_table_right : All Right comparison_table
unfolding infinity sign_bit value magnitude plus minus opposite minus_infinity end_of set_of
comparison_table_right = all_passed comparison_table tt
