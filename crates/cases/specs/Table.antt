-- The cases of document 01 that are marked P.
use Rattle.std.specs.Prelude.{List, [], ◌∷◌, ℕ}
use Rattle.meaning.specs.Points.{round, round_ties_even}
use Rattle.meaning.specs.Pairs.{Pair}
use Rattle.meaning.specs.Decorations.{Decoration, Com, Dac}
use Rattle.meaning.specs.Statement.{DecPair}
use Rattle.meaning.specs.Overlap.{meets, finished_by}
use Rattle.theorem3.specs.Answer.{adding, multiplying, dividing}
use Rattle.cases.specs.Rows.{Row, bare, decorated, stepped, state}

abbrev pub pair : ℕ → ℕ → Pair
pair a b = record { lower = a; upper = b }

-- The interval of one number.
abbrev pub only : ℕ → Pair
only a = pair a a

abbrev pub decorated_by : Pair → Decoration → DecPair
decorated_by p d = record { pair = p; decoration = d }

-- Doubles as bit patterns.
abbrev pub minus_zero : ℕ
minus_zero = 0x8000000000000000

abbrev pub plus_zero : ℕ
plus_zero = 0x0000000000000000

abbrev pub plus_inf : ℕ
plus_inf = 0x7FF0000000000000

abbrev pub minus_inf : ℕ
minus_inf = 0xFFF0000000000000

abbrev pub smallest : ℕ
smallest = 0x0000000000000001

abbrev pub largest : ℕ
largest = 0x7FEFFFFFFFFFFFFF

abbrev pub quarter : ℕ
quarter = 0x3FD0000000000000

abbrev pub one_half : ℕ
one_half = 0x3FE0000000000000

abbrev pub one : ℕ
one = 0x3FF0000000000000

abbrev pub one_and_half : ℕ
one_and_half = 0x3FF8000000000000

abbrev pub two : ℕ
two = 0x4000000000000000

abbrev pub three : ℕ
three = 0x4008000000000000

abbrev pub four : ℕ
four = 0x4010000000000000

abbrev pub eight : ℕ
eight = 0x4020000000000000

abbrev pub minus_one : ℕ
minus_one = 0xBFF0000000000000

abbrev pub minus_two : ℕ
minus_two = 0xC000000000000000

abbrev pub minus_three : ℕ
minus_three = 0xC008000000000000

abbrev pub minus_six : ℕ
minus_six = 0xC018000000000000

abbrev pub tiny : ℕ
tiny = 0x3C30000000000000

abbrev pub above_one : ℕ
above_one = 0x3FF0000000000001

-- ENTIRE, EMPTY and [0, 0] as the bytes have them.
abbrev pub entire : Pair
entire = pair minus_inf plus_inf

abbrev pub emptiness : Pair
emptiness = pair plus_inf minus_inf

abbrev pub nought : Pair
nought = pair minus_zero plus_zero

abbrev pub table : List Row
table =
    bare dividing (only one) (only three) (pair 0x3FD5555555555555 0x3FD5555555555556)
    ∷ bare adding (only one) (only tiny) (pair 0x3FF0000000000000 0x3FF0000000000001)
    ∷ bare multiplying (only above_one) (only above_one) (pair 0x3FF0000000000002 0x3FF0000000000003)
    ∷ bare multiplying (only smallest) (only smallest) (pair minus_zero smallest)
    ∷ bare adding (only largest) (only largest) (pair largest plus_inf)
    ∷ decorated adding (decorated_by (only largest) Com) (decorated_by (only largest) Com) (decorated_by (pair largest plus_inf) Dac)
    ∷ bare multiplying (pair minus_one two) (pair minus_three four) (pair minus_six eight)
    ∷ bare multiplying nought entire nought
    ∷ bare dividing (pair one two) (pair minus_zero four) (pair quarter plus_inf)
    ∷ bare dividing (pair minus_one one) nought emptiness
    ∷ bare dividing nought (pair minus_one one) nought
    ∷ state (pair one two) (only two) finished_by 10
    ∷ state (pair one two) (pair two three) meets 4
    ∷ stepped round_ties_even (pair one_half one_and_half) (pair minus_zero two)
    ∷ stepped round (pair one_half one_and_half) (pair one two)
    ∷ []
