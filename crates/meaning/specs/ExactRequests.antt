-- The bare request that reports which ends are exact: "the bare request for operations 1 to 5 with 18 bytes out: the answer's 16
-- bytes, then 1 or 0 for the lower and for the upper end".
use Rattle.std.specs.Prelude.{List, [], ◌∷◌, ◌++◌, ℕ, ◌≤◌, get_or}
use Rattle.meaning.specs.Refusals.{Refusal}
use Rattle.patterns.specs.Format.{Format}
use Rattle.meaning.specs.Results.{Result₁, Result₂}
use Rattle.meaning.specs.Statement.{Outcome, Answered₁, Answered₂}
use Rattle.meaning.specs.Exactness.{ExactPair, ExactHullOf}
use Rattle.meaning.specs.Calls.{Test, Called}
use Rattle.meaning.specs.Bytes.{big_endian, write_pair, Written, JudgedBytes}
use Rattle.meaning.specs.Requests.{Asked, unary, binary, overlap, comparison, flag_byte, bare_size, set_read, tests_by, Requested}

abbrev pub exact_size : ℕ
exact_size = 18

abbrev pub write_exact : ExactPair → List ℕ
write_exact z = write_pair big_endian z.pair ++ flag_byte z.lower_exact ∷ flag_byte z.upper_exact ∷ []

-- The outcome of an operation on the bytes of its operands. What answers no interval has no ends, and no number from 1 to 5.
abbrev pub ExactOutcome : Format → Asked → (first second : List ℕ) → Outcome (List ℕ) → Type 0
ExactOutcome F (unary op) first second o =
    Answered₁ (JudgedBytes F big_endian) (λ x out. Written write_exact (ExactHullOf F (Result₁ op (set_read F x))) out) first o
ExactOutcome F (binary op) first second o =
    Answered₂ (JudgedBytes F big_endian)
    (λ x y out. Written write_exact (ExactHullOf F (Result₂ op (set_read F x) (set_read F y))) out) first second o
ExactOutcome F overlap first second o = ⊥
ExactOutcome F (comparison c) first second o = ⊥

-- "3 for an operation other than 1 to 5"
abbrev pub arithmetic : Test (List ℕ)
arithmetic = record { Holds = λ input before. (1 ≤ get_or input 0 0) × (get_or input 0 0 ≤ 5); number = 3 }

-- "Refusals as for the bare request": the same tests in the same order, and the same verdicts on operands.
abbrev pub ExactRequest : Format → (input before : List ℕ) (refusal : Refusal) (after : List ℕ) → Type 0
ExactRequest F input before refusal after =
    Called (tests_by bare_size exact_size arithmetic) (Requested bare_size (ExactOutcome F)) input before refusal after
