-- Cases of exactness: ticket 2's, and those beside them that tell a right version from a likely wrong one.
use Rattle.std.specs.Prelude.{Bool, true, false, List, [], ◌∷◌, ℕ}
use Rattle.meaning.specs.Pairs.{Pair}
use Rattle.meaning.specs.Exactness.{ExactPair}
use Rattle.theorem3.specs.Answer.{adding, multiplying, dividing}
use Rattle.cases.specs.Rows.{Row, exact, exact_neg}
use Rattle.cases.specs.Table.{pair, only, minus_zero, plus_inf, smallest, largest, quarter, one, two, three, four, minus_one, minus_two, tiny, above_one, entire, emptiness, nought}

-- An answer, and whether its lower and its upper end are exact.
abbrev pub flagged : Pair → (lower upper : Bool) → ExactPair
flagged p s t = record { pair = p; lower_exact = s; upper_exact = t }

-- (1 + 2^-52) times 2 * (1 - 2^-52) is no double, and rounds upward to 2.
abbrev pub below_two : ℕ
below_two = 0x3FFFFFFFFFFFFFFE

abbrev pub minus_below_two : ℕ
minus_below_two = 0xBFFFFFFFFFFFFFFE

abbrev pub minus_above_one : ℕ
minus_above_one = 0xBFF0000000000001

abbrev pub exact_table : List Row
exact_table =
    exact dividing (only one) (pair one plus_inf) (flagged (pair minus_zero one) true true)
    ∷ exact adding (only largest) (only largest) (flagged (pair largest plus_inf) false false)
    ∷ exact dividing (pair one two) (pair minus_zero four) (flagged (pair quarter plus_inf) true true)
    ∷ exact dividing (only one) (only three) (flagged (pair 0x3FD5555555555555 0x3FD5555555555556) false false)
    ∷ exact multiplying nought entire (flagged nought true true)
    ∷ exact adding emptiness (pair one two) (flagged emptiness true true)
    ∷ exact multiplying (only smallest) (only smallest) (flagged (pair minus_zero smallest) false false)
    ∷ exact adding (pair one two) (only tiny) (flagged (pair one 0x4000000000000001) false false)
    ∷ exact adding (pair one two) (pair minus_zero tiny) (flagged (pair one 0x4000000000000001) true false)
    ∷ exact multiplying (pair minus_one above_one) (pair minus_two below_two) (flagged (pair 0xC000000000000001 two) true true)
    ∷ exact multiplying (pair minus_above_one one) (pair minus_below_two two) (flagged (pair 0xC000000000000001 two) true true)
    ∷ exact_neg (pair minus_two one) (flagged (pair minus_one two) true true)
    ∷ exact_neg emptiness (flagged emptiness true true)
    ∷ []
