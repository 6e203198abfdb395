-- Requests and codecs on bytes, by document 01: "A request is one operation number and two operands, big endian".
use Rattle.std.specs.Prelude.{Bool, true, false, ◌≡◌, List, [], ◌∷◌, ℕ, zero, suc, ◌+◌, ◌-◌, length, take, drop, get_or}
use Rattle.truth.specs.Answers.{Answers}
use Rattle.meaning.specs.Refusals.{Refusal}
use Rattle.patterns.specs.Format.{Format}
use Rattle.meaning.specs.Sets.{Set}
use Rattle.meaning.specs.Pairs.{set_of}
use Rattle.meaning.specs.Points.{Unary, neg, abs, ceil, floor, round, round_ties_even, sign, trunc, add, sub, mul, div, max, min}
use Rattle.meaning.specs.Results.{Operation, point, convex_hull, intersection, Result₁, Result₂}
use Rattle.meaning.specs.Statement.{DecPair, Outcome, Answered₁, Answered₂, HullOf, RightDec₁, RightDec₂}
use Rattle.meaning.specs.Calls.{Test, Called}
use Rattle.meaning.specs.Overlap.{OverlapNumber, DecoratedOverlap}
use Rattle.meaning.specs.Comparisons.{Comparison, equal, subset, interior, disjoint, less, strict_less, precedes, strict_precedes, PairsCompare}
use Rattle.meaning.specs.Bytes.{ByteOrder, big_endian, read_pair, write_pair, write_decorated, Written, JudgedBytes, JudgedDecBytes, ReadDecorated}
use Rattle.meaning.specs.Forms.{Form, bare_form, decorated_form, size_of, JudgedIn, ReadsAs, write}

-- What a request asks for: an operation of one operand, of two, overlap, or a comparison.
pub data Asked : Type 0 where
  unary : Unary → Asked
  binary : Operation → Asked
  overlap : Asked
  comparison : Comparison → Asked

-- "Numbers: 1 neg, 2 add, 3 sub, 4 mul, 5 div, 6 convex_hull, 7 intersection, 8 max, 9 min, 10 abs, 11 ceil, 12 floor,
-- 13 round, 14 round_ties_even, 15 sign, 16 trunc, 17 overlap." Ticket 3: "Add operation numbers 18 to 25", in the order of its list.
abbrev pub operation_number : Asked → ℕ
operation_number (unary neg) = 1
operation_number (binary (point add)) = 2
operation_number (binary (point sub)) = 3
operation_number (binary (point mul)) = 4
operation_number (binary (point div)) = 5
operation_number (binary convex_hull) = 6
operation_number (binary intersection) = 7
operation_number (binary (point max)) = 8
operation_number (binary (point min)) = 9
operation_number (unary abs) = 10
operation_number (unary ceil) = 11
operation_number (unary floor) = 12
operation_number (unary round) = 13
operation_number (unary round_ties_even) = 14
operation_number (unary sign) = 15
operation_number (unary trunc) = 16
operation_number overlap = 17
operation_number (comparison equal) = 18
operation_number (comparison subset) = 19
operation_number (comparison interior) = 20
operation_number (comparison disjoint) = 21
operation_number (comparison less) = 22
operation_number (comparison strict_less) = 23
operation_number (comparison precedes) = 24
operation_number (comparison strict_precedes) = 25

-- count zero bytes.
abbrev pub zeros : ℕ → List ℕ
zeros zero = []
zeros (suc count) = 0 ∷ zeros count

-- "33 bytes bare (answer 16), 35 decorated (answer 17)"
abbrev pub bare_size : ℕ
bare_size = size_of bare_form

abbrev pub decorated_size : ℕ
decorated_size = size_of decorated_form

-- "Overlap answers its state number, then zero bytes."
abbrev pub write_state : (size : ℕ) → ℕ → List ℕ
write_state size n = n ∷ zeros (size - 1)

-- A truth value as a byte: 1 for yes, and 0 for no.
abbrev pub flag_byte : Bool → ℕ
flag_byte true = 1
flag_byte false = 0

-- A comparison: "the answer's first byte is 0 or 1, then zeros".
abbrev pub write_truth : (size : ℕ) → Bool → List ℕ
write_truth size t = write_state size (flag_byte t)

-- The outcome of a comparison in either form, by the pairs that its operands' bytes are read as.
abbrev pub ComparisonOutcome : Format → Form → Comparison → (first second : List ℕ) → Outcome (List ℕ) → Type 0
ComparisonOutcome F f c first second o =
    Answered₂ (JudgedIn F f big_endian)
    (λ x y out. Written (write_truth (size_of f)) (Answers (PairsCompare F c (read_pair big_endian x) (read_pair big_endian y))) out) first second o

-- The pair that bytes are read as, and the set that it stands for.
abbrev pub set_read : Format → List ℕ → Set
set_read F bs = set_of F (read_pair big_endian bs)

-- The outcome of a bare operation on the bytes of its operands. "One-operand operations don't read the second operand."
abbrev pub BareOutcome : Format → Asked → (first second : List ℕ) → Outcome (List ℕ) → Type 0
BareOutcome F (unary op) first second o =
    Answered₁ (JudgedBytes F big_endian) (λ x out. Written (write_pair big_endian) (HullOf F (Result₁ op (set_read F x))) out) first o
BareOutcome F (binary op) first second o =
    Answered₂ (JudgedBytes F big_endian)
    (λ x y out. Written (write_pair big_endian) (HullOf F (Result₂ op (set_read F x) (set_read F y))) out) first second o
BareOutcome F overlap first second o =
    Answered₂ (JudgedBytes F big_endian)
    (λ x y out. Written (write_state bare_size) (OverlapNumber (set_read F x) (set_read F y)) out) first second o
BareOutcome F (comparison c) first second o = ComparisonOutcome F bare_form c first second o

-- A right answer to decorated operands as their bytes are read.
pub record Read₁ (Right : DecPair → List ℕ → Type 0) (first out : List ℕ) : Type 0 where
  pub x : DecPair
  pub read_x : ReadDecorated big_endian first x
  pub right : Right x out

pub record Read₂ (Right : DecPair → DecPair → List ℕ → Type 0) (first second out : List ℕ) : Type 0 where
  pub x : DecPair
  pub y : DecPair
  pub read_x : ReadDecorated big_endian first x
  pub read_y : ReadDecorated big_endian second y
  pub right : Right x y out

-- The outcome of a decorated operation on the bytes of its operands.
abbrev pub DecoratedOutcome : Format → Asked → (first second : List ℕ) → Outcome (List ℕ) → Type 0
DecoratedOutcome F (unary op) first second o =
    Answered₁ (JudgedDecBytes F big_endian) (Read₁ (λ x. Written (write_decorated big_endian) (RightDec₁ F op x))) first o
DecoratedOutcome F (binary op) first second o =
    Answered₂ (JudgedDecBytes F big_endian) (Read₂ (λ x y. Written (write_decorated big_endian) (RightDec₂ F op x y))) first second o
DecoratedOutcome F overlap first second o =
    Answered₂ (JudgedDecBytes F big_endian) (Read₂ (λ x y. Written (write_state decorated_size) (DecoratedOverlap F x y))) first second o
DecoratedOutcome F (comparison c) first second o = ComparisonOutcome F decorated_form c first second o

-- The outcome of an operation on the bytes of its operands, in either form.
abbrev pub OutcomeIn : Format → Form → Asked → (first second : List ℕ) → Outcome (List ℕ) → Type 0
OutcomeIn F bare_form q first second o = BareOutcome F q first second o
OutcomeIn F decorated_form q first second o = DecoratedOutcome F q first second o

-- The operation number, and the two operands of a given size behind it.
pub record Asks (input : List ℕ) (q : Asked) : Type 0 where
  pub is : get_or input 0 0 ≡ operation_number q

pub record Known (input : List ℕ) : Type 0 where
  pub asked : Asked
  pub asks : Asks input asked

abbrev pub first_operand : (size : ℕ) → List ℕ → List ℕ
first_operand size input = take size (drop 1 input)

abbrev pub second_operand : (size : ℕ) → List ℕ → List ℕ
second_operand size input = take size (drop (1 + size) input)

pub record Requested (size : ℕ) (Outcomes : Asked → (first second : List ℕ) → Outcome (List ℕ) → Type 0) (input : List ℕ) (o : Outcome (List ℕ)) : Type 0 where
  pub asked : Asked
  pub asks : Asks input asked
  pub outcome : Outcomes asked (first_operand size input) (second_operand size input) o

-- 1: "the input's length isn't the one fixed for the call".
abbrev pub input_of : (size : ℕ) → Test (List ℕ)
input_of size = record { Holds = λ input before. length input ≡ size; number = 1 }

-- 2: "the output's length isn't exactly that of the answer".
abbrev pub output_of : (size : ℕ) → Test (List ℕ)
output_of size = record { Holds = λ input before. length before ≡ size; number = 2 }

-- 3: "Refusal 3 is now for numbers other than 1 to 25."
abbrev pub numbered : Test (List ℕ)
numbered = record { Holds = λ input before. Known input; number = 3 }

-- The tests of a request on intervals of a size, by the size of its answer and the test of its operation number.
abbrev pub tests_by : (size answer : ℕ) → Test (List ℕ) → List (Test (List ℕ))
tests_by size answer number = input_of (1 + size + size) ∷ output_of answer ∷ number ∷ []

-- The tests of a request, and those of a codec.
abbrev pub request_tests : (size : ℕ) → List (Test (List ℕ))
request_tests size = tests_by size size numbered

abbrev pub codec_tests : (size : ℕ) → List (Test (List ℕ))
codec_tests size = input_of size ∷ output_of size ∷ []

-- The statement of a request call in either form, and those of the two.
abbrev pub Request : Format → Form → (input before : List ℕ) (refusal : Refusal) (after : List ℕ) → Type 0
Request F f input before refusal after = Called (request_tests (size_of f)) (Requested (size_of f) (OutcomeIn F f)) input before refusal after

abbrev pub BareRequest : Format → (input before : List ℕ) (refusal : Refusal) (after : List ℕ) → Type 0
BareRequest F input before refusal after = Called (request_tests bare_size) (Requested bare_size (BareOutcome F)) input before refusal after

abbrev pub DecoratedRequest : Format → (input before : List ℕ) (refusal : Refusal) (after : List ℕ) → Type 0
DecoratedRequest F input before refusal after =
    Called (request_tests decorated_size) (Requested decorated_size (DecoratedOutcome F)) input before refusal after

-- "a codec (bare or decorated) reads one interval in one byte order and writes it in the other, place 1 with 4 to 6"
abbrev pub Recoded : Format → Form → (from to : ByteOrder) → List ℕ → Outcome (List ℕ) → Type 0
Recoded F f from to bs o = Answered₁ (JudgedIn F f from) (λ x out. Written (write f to) (ReadsAs f from x) out) bs o

abbrev pub Codec : Format → Form → (from to : ByteOrder) (input before : List ℕ) (refusal : Refusal) (after : List ℕ) → Type 0
Codec F f from to input before refusal after = Called (codec_tests (size_of f)) (Recoded F f from to) input before refusal after
