-- Operation numbers, and what they ask for.
use Rattle.std.specs.Prelude.{◌≡◌, ℕ, ◌≤◌, Result, Ok, Err}
use Rattle.meaning.specs.Points.{neg}
use Rattle.meaning.specs.Requests as requests
use Rattle.meaning.specs.Requests.{unary, binary, overlap, comparison, operation_number}
use Rattle.refusals.specs.declared.Refusal.{Refusal}
use Rattle.operation_names.specs.Names.{unary_of, binary_of, arithmetic_of, comparison_of}
use Rattle.operation_names.specs.declared.numbers.Asked.{Asked}
use Rattle.operation_names.specs.declared.numbers.AskedExact.{AskedExact}

-- What the code asks for, in the terms of document 01.
abbrev pub asked_of : Asked → requests.Asked
asked_of (Asked.One f) = unary (unary_of f)
asked_of (Asked.Two o) = binary (binary_of o)
asked_of Asked.Overlap = overlap
asked_of (Asked.Comparison c) = comparison (comparison_of c)

abbrev pub asked_exact_of : AskedExact → requests.Asked
asked_exact_of AskedExact.Neg = unary neg
asked_exact_of (AskedExact.Two o) = binary (arithmetic_of o)

-- The number is that of the operation, or of none.
abbrev pub AskedBy : ℕ → Result Asked Refusal → Type 0
AskedBy n (Ok asked) = n ≡ operation_number (asked_of asked)
AskedBy n (Err refusal) = (refusal ≡ Refusal.UnknownOperation) × ((q : requests.Asked) → n ≡ operation_number q → ⊥)

-- The number is that of the arithmetic operation, or it is not one from 1 to 5.
abbrev pub AskedExactBy : ℕ → Result AskedExact Refusal → Type 0
AskedExactBy n (Ok asked) = n ≡ operation_number (asked_exact_of asked)
AskedExactBy n (Err refusal) = (refusal ≡ Refusal.UnknownOperation) × ((1 ≤ n) × (n ≤ 5) → ⊥)
