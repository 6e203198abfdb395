-- What a codec leaves of an interval that was read, in either form: its bytes in the other order, or its refusal.
use mathlib.Core.Path.{◌≡◌, refl, subst}
use mathlib.Core.List.{List}
use Prim.Native.Nat.{ℕ}
use native.Mathlib.Nat.{le_of_eq}
use lib.ListN.{length, take}
use lib.Seq.{take_all}
use Rattle.std.specs.Prelude.{Result, Ok, Err, IsErrAnd}
use Rattle.patterns.specs.Format.{Format}
use Rattle.meaning.specs.Statement.{Outcome, no_refusal}
use Rattle.meaning.specs.Bytes.{ByteOrder}
use Rattle.meaning.specs.Forms.{Form, size_of, Value, Reading, write}
use Rattle.meaning.specs.Requests.{Codec}
use Rattle.meaning.proofs.CalledLaws.{pass, written}
use Rattle.refusals.specs.RefusalMeaning.{first_outcome, said}
use Rattle.refusals.specs.declared.Fault.{Fault}
use Rattle.refusals.specs.declared.Place.{Place}
use Rattle.refusals.specs.declared.Refusal.{Refusal}
use Rattle.refusals.proofs.FoundLaws.{passed_on}
use Rattle.request_laws.proofs.ReadLaws.{found₁, after₁, refused₁, refusing_said}

-- The part that is read is the whole input.
whole : (F : Format) (f : Form) (from : ByteOrder) {input : List ℕ} {o : Outcome (Value f)} → length input ≡ size_of f
    → Reading F f from (take (size_of f) input) o → Reading F f from input o
whole F f from {input} {o} long = subst (λ (bs : List ℕ). Reading F f from bs o) (take_all (size_of f) input (le_of_eq long))

module _ (F : Format) (f : Form) (from to : ByteOrder) {input before : List ℕ} {A : Type 0} (meaning : A → Value f) {r : Result A Fault}
    (long : length input ≡ size_of f) (room : length before ≡ size_of f) (read : Reading F f from (take (size_of f) input) (first_outcome meaning r)) where
  pub recoded : {x : A} {after : List ℕ} → r ≡ Ok x → after ≡ write f to (meaning x) → Codec F f from to input before no_refusal after
  recoded is e =
      pass long (pass room
      (written (after₁ (found₁ (first_outcome meaning) (whole F f from long read) is) (λ r. record { answer = _; right = r; written = refl })) e))

  pub not_recoded : {fault : Fault} (s : Result (Unit {0}) Refusal) → r ≡ Err fault → IsErrAnd s (λ e. e ≡ Refusal.Operand Place.First fault)
      → Codec F f from to input before (said s) before
  not_recoded s is h = pass long (pass room (refusing_said s (passed_on s h) (refused₁ (found₁ (first_outcome meaning) (whole F f from long read) is))))
