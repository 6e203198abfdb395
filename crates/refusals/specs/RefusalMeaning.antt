-- What the code's refusals and results are in the terms of document 01: "For an answer that is an enum, a definition gives this paper's
-- number and values for each of its cases."
use Rattle.std.specs.Prelude.{ℕ, Result, Ok, Err}
use Rattle.meaning.specs.Refusals as meant
use Rattle.meaning.specs.Statement.{Outcome, refused, given, refusal_at, no_refusal}
use Rattle.refusals.specs.declared.Fault.{Fault}
use Rattle.refusals.specs.declared.Place.{Place}
use Rattle.refusals.specs.declared.Refusal.{Refusal}

-- "4 the byte of a decoration is none", "5 the ends are neither a proper pair, nor EMPTY's, ..", "6 decoration against ends".
abbrev pub number_of : Fault → ℕ
number_of Fault.BadByte = 4
number_of Fault.BadEnds = 5
number_of Fault.BadDecoration = 6

-- "place 1 or 2".
abbrev pub place_of : Place → ℕ
place_of Place.First = 1
place_of Place.Second = 2

abbrev pub refusal_of : Refusal → meant.Refusal
refusal_of Refusal.WrongLength = refusal_at 1 0
refusal_of Refusal.WrongRoom = refusal_at 2 0
refusal_of Refusal.UnknownOperation = refusal_at 3 0
refusal_of (Refusal.Operand place fault) = refusal_at (number_of fault) (place_of place)

-- The outcome of a call whose values mean what `meaning` says.
abbrev pub outcome_of : {A B : Type 0} (meaning : A → B) → Result A Refusal → Outcome B
outcome_of meaning (Ok x) = given (meaning x)
outcome_of meaning (Err refusal) = refused (refusal_of refusal)

-- The outcome of a call whose values are those of document 01 themselves.
abbrev pub outcome : {A : Type 0} → Result A Refusal → Outcome A
outcome r = outcome_of (λ value. value) r

-- The outcome of a call with one operand, which is the first.
abbrev pub first_outcome : {A B : Type 0} (meaning : A → B) → Result A Fault → Outcome B
first_outcome meaning (Ok x) = given (meaning x)
first_outcome meaning (Err fault) = refused (refusal_at (number_of fault) 1)

-- What is found of an operand before anything is done with it.
abbrev pub verdict_of : Result (Unit {0}) Fault → Outcome (Unit {0})
verdict_of found = first_outcome (λ nothing. nothing) found

-- What a call on lent output says: its refusal, or "0: accepted".
abbrev pub said : Result (Unit {0}) Refusal → meant.Refusal
said (Ok _) = no_refusal
said (Err refusal) = refusal_of refusal
