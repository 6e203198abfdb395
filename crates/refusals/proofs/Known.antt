-- Each result of the code is known by its outcome.
use mathlib.Core.Path.{◌≡◌, refl, sym, ◌∙◌, ap}
use Rattle.std.specs.Prelude.{ℕ, ◌==◌, if◌then◌else◌, Result, Ok, Err}
use Rattle.meaning.specs.Refusals as meant
use Rattle.meaning.specs.Statement.{Outcome, refused, given}
use Rattle.refusals.specs.RefusalMeaning.{refusal_of, outcome, outcome_of, said}
use Rattle.refusals.specs.declared.Fault.{Fault}
use Rattle.refusals.specs.declared.Place.{Place}
use Rattle.refusals.specs.declared.Refusal.{Refusal}

-- What has a left inverse tells its arguments apart.
pub injective : {A B : Type 0} {f : A → B} (g : B → A) → ((a : A) → g (f a) ≡ a) → {a b : A} → f a ≡ f b → a ≡ b
injective g back {a} {b} e = sym (back a) ∙ ap g e ∙ back b

fault_of : ℕ → Fault
fault_of number = if number == 4 then Fault.BadByte else if number == 5 then Fault.BadEnds else Fault.BadDecoration

operand_of : meant.Refusal → Refusal
operand_of r = Refusal.Operand (if r.place == 1 then Place.First else Place.Second) (fault_of r.number)

code_of : meant.Refusal → Refusal
code_of r = if r.number == 1 then Refusal.WrongLength else if r.number == 2 then Refusal.WrongRoom else if r.number == 3 then Refusal.UnknownOperation else operand_of r

code_back : (r : Refusal) → code_of (refusal_of r) ≡ r
unfolding code_of operand_of fault_of
code_back Refusal.WrongLength = refl
code_back Refusal.WrongRoom = refl
code_back Refusal.UnknownOperation = refl
code_back (Refusal.Operand Place.First Fault.BadByte) = refl
code_back (Refusal.Operand Place.First Fault.BadEnds) = refl
code_back (Refusal.Operand Place.First Fault.BadDecoration) = refl
code_back (Refusal.Operand Place.Second Fault.BadByte) = refl
code_back (Refusal.Operand Place.Second Fault.BadEnds) = refl
code_back (Refusal.Operand Place.Second Fault.BadDecoration) = refl

module _ {A B : Type 0} {meaning : A → B} (value_of : B → A) (back : (x : A) → value_of (meaning x) ≡ x) where
  result_of : Outcome B → Result A Refusal
  result_of (given z) = Ok (value_of z)
  result_of (refused r) = Err (code_of r)

  result_back : (r : Result A Refusal) → result_of (outcome_of meaning r) ≡ r
  unfolding result_of
  result_back (Ok x) = ap Ok (back x)
  result_back (Err r) = ap Err (code_back r)

  -- Two results with the same outcome are equal.
  pub result_known : {r s : Result A Refusal} → outcome_of meaning r ≡ outcome_of meaning s → r ≡ s
  result_known = injective result_of result_back

-- Two results whose values are document 01's own.
pub same_known : {A : Type 0} {r s : Result A Refusal} → outcome r ≡ outcome s → r ≡ s
same_known {A} = result_known (λ (x : A). x) (λ x. refl)

said_by : meant.Refusal → Result (Unit {0}) Refusal
said_by r = if r.number == 0 then Ok tt else Err (code_of r)

said_back : (r : Result (Unit {0}) Refusal) → said_by (said r) ≡ r
unfolding said_by code_of operand_of fault_of
said_back (Ok u) = refl
said_back (Err Refusal.WrongLength) = refl
said_back (Err Refusal.WrongRoom) = refl
said_back (Err Refusal.UnknownOperation) = refl
said_back (Err (Refusal.Operand Place.First Fault.BadByte)) = refl
said_back (Err (Refusal.Operand Place.First Fault.BadEnds)) = refl
said_back (Err (Refusal.Operand Place.First Fault.BadDecoration)) = refl
said_back (Err (Refusal.Operand Place.Second Fault.BadByte)) = refl
said_back (Err (Refusal.Operand Place.Second Fault.BadEnds)) = refl
said_back (Err (Refusal.Operand Place.Second Fault.BadDecoration)) = refl

-- Two results of a call on lent output that say the same are equal.
pub said_known : {r s : Result (Unit {0}) Refusal} → said r ≡ said s → r ≡ s
said_known = injective said_by said_back
