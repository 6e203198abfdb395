-- What a request leaves behind its tests, in either form, by what it asks for.
use mathlib.Core.Bool.{Bool}
use mathlib.Core.Path.{◌≡◌, ◌∙◌, ap, subst, subst⁻¹}
use mathlib.Core.List.{List, [], ◌∷◌}
use lib.ListN.{get_or}
use Prim.Native.Nat.{ℕ}
use Rattle.std.specs.Prelude.{Result, Ok, Err, IsErrAnd}
use Rattle.truth.specs.Answers.{Answers}
use Rattle.meaning.specs.Refusals as meant
use Rattle.patterns.specs.Format.{binary64}
use Rattle.meaning.specs.Points.{Unary}
use Rattle.meaning.specs.Results.{Operation}
use Rattle.meaning.specs.Comparisons.{Comparison}
use Rattle.meaning.specs.Statement.{refused, given, no_refusal}
use Rattle.meaning.specs.Bytes.{big_endian}
use Rattle.meaning.specs.Forms.{Form, size_of, Value, write}
use Rattle.meaning.specs.FormStatements.{Right₁, Right₂, FormsCompare, StateNumber}
use Rattle.meaning.specs.Requests.{Asked, unary, binary, overlap, comparison, first_operand, second_operand, write_state, write_truth, OutcomeIn, Requested, numbered}
use Rattle.meaning.specs.Calls.{Called}
use Rattle.meaning.proofs.CalledLaws.{written, stop}
use Rattle.refusals.specs.RefusalMeaning.{refusal_of, outcome_of, first_outcome, said}
use Rattle.refusals.specs.declared.Fault.{Fault}
use Rattle.refusals.specs.declared.Place.{Place}
use Rattle.refusals.specs.declared.Refusal.{Refusal}
use Rattle.refusals.proofs.FoundLaws.{passed_on}
use Rattle.operation_names.specs.Numbers.{asked_of, AskedBy}
use Rattle.operation_names.specs.declared.numbers.Asked as code
use Rattle.request_laws.specs.Reads.{OnOperands}
use Rattle.request_laws.proofs.RequestedLaws.{requested}
use Rattle.request_laws.proofs.ReadLaws.{found₁, found₂, refusing_said}
use Rattle.request_operands.specs.OperandMeaning.{both_of}
use Rattle.request_operands.proofs.OperandLaws.{ReadOne, ReadTwo, unary_outcome, unary_refused, binary_outcome, binary_refused, overlap_outcome, overlap_refused, comparison_outcome, comparison_refused}

-- What the operands of a request leave, if it asks for q.
abbrev pub LeavesBy : (f : Form) → Asked → (input before : List ℕ) (r : meant.Refusal) (after : List ℕ) → Type 0
LeavesBy f q input before r after = Called [] (OnOperands (size_of f) (OutcomeIn binary64 f) q) input before r after

-- The operands of a request.
abbrev pub first : Form → List ℕ → List ℕ
first f input = first_operand (size_of f) input

abbrev pub second : Form → List ℕ → List ℕ
second f input = second_operand (size_of f) input

module _ (f : Form) {input before : List ℕ} {q asked : Asked} (is : asked ≡ q) where
  answered : {out after : List ℕ} → OnOperands (size_of f) (OutcomeIn binary64 f) q input (given out) → after ≡ out → LeavesBy f asked input before no_refusal after
  answered {after = after} right e = subst⁻¹ (λ (p : Asked). LeavesBy f p input before no_refusal after) is (written right e)

  not_answered : (e : Refusal) (s : Result (Unit {0}) Refusal) → IsErrAnd s (λ r. r ≡ e)
      → OnOperands (size_of f) (OutcomeIn binary64 f) q input (refused (refusal_of e)) → LeavesBy f asked input before (said s) before
  not_answered e s h right = subst⁻¹ (λ (p : Asked). LeavesBy f p input before (said s) before) is (refusing_said s (passed_on s h) right)

-- An operation of one operand.
module _ (f : Form) {A : Type 0} (meaning : A → Value f) {input before : List ℕ} {asked : Asked} {op : Unary} {r : Result A Fault}
    (is : asked ≡ unary op) (read : ReadOne f (first f input) (first_outcome meaning r)) where
  pub one_answered : {x : A} (z : Value f) {after : List ℕ} → r ≡ Ok x → Right₁ binary64 f op (meaning x) z → after ≡ write f big_endian z
      → LeavesBy f asked input before no_refusal after
  one_answered z ok right =
      answered f is (unary_outcome (first f input) (second f input) f op z (found₁ (first_outcome meaning) read ok) right)

  pub one_refused : {fault : Fault} (s : Result (Unit {0}) Refusal) → r ≡ Err fault → IsErrAnd s (λ e. e ≡ Refusal.Operand Place.First fault)
      → LeavesBy f asked input before (said s) before
  one_refused s err h =
      not_answered f is _ s h (unary_refused (first f input) (second f input) f op (found₁ (first_outcome meaning) read err))

-- What asks for two operands.
pub two_read : (f : Form) {A : Type 0} (meaning : A → Value f) {one two : List ℕ} {r : Result (A × A) Refusal} → ReadTwo f one two (outcome_of (both_of meaning) r)
    → {x y : A} → r ≡ Ok (x, y) → ReadTwo f one two (given (meaning x, meaning y))
two_read f meaning read ok = found₂ (outcome_of (both_of meaning)) read ok

module _ (f : Form) {A : Type 0} (meaning : A → Value f) {input before : List ℕ} {asked : Asked} {r : Result (A × A) Refusal}
    (read : ReadTwo f (first f input) (second f input) (outcome_of (both_of meaning) r)) where
  pub two_answered : {op : Operation} {x y : A} (z : Value f) {after : List ℕ} → asked ≡ binary op → r ≡ Ok (x, y)
      → Right₂ binary64 f op (meaning x) (meaning y) z → after ≡ write f big_endian z → LeavesBy f asked input before no_refusal after
  two_answered {op} z is ok right = answered f is (binary_outcome (first f input) (second f input) f op z (two_read f meaning read ok) right)

  pub state_answered : {x y : A} (n : ℕ) {after : List ℕ} → asked ≡ overlap → r ≡ Ok (x, y) → StateNumber binary64 f (meaning x) (meaning y) n
      → after ≡ write_state (size_of f) n → LeavesBy f asked input before no_refusal after
  state_answered n is ok right = answered f is (overlap_outcome (first f input) (second f input) f n (two_read f meaning read ok) right)

  pub comparison_answered : {c : Comparison} {x y : A} {t : Bool} {after : List ℕ} → asked ≡ comparison c → r ≡ Ok (x, y)
      → Answers (FormsCompare binary64 f c (meaning x) (meaning y)) t → after ≡ write_truth (size_of f) t → LeavesBy f asked input before no_refusal after
  comparison_answered {c} is ok right = answered f is (comparison_outcome (first f input) (second f input) f c (two_read f meaning read ok) right)

  pub two_refused : {op : Operation} {e : Refusal} (s : Result (Unit {0}) Refusal) → asked ≡ binary op → r ≡ Err e → IsErrAnd s (λ r. r ≡ e)
      → LeavesBy f asked input before (said s) before
  two_refused {op} s is err h = not_answered f is _ s h (binary_refused (first f input) (second f input) f op (found₂ (outcome_of (both_of meaning)) read err))

  pub state_refused : {e : Refusal} (s : Result (Unit {0}) Refusal) → asked ≡ overlap → r ≡ Err e → IsErrAnd s (λ r. r ≡ e)
      → LeavesBy f asked input before (said s) before
  state_refused s is err h = not_answered f is _ s h (overlap_refused (first f input) (second f input) f (found₂ (outcome_of (both_of meaning)) read err))

  pub comparison_not_answered : {c : Comparison} {e : Refusal} (s : Result (Unit {0}) Refusal) → asked ≡ comparison c → r ≡ Err e → IsErrAnd s (λ r. r ≡ e)
      → LeavesBy f asked input before (said s) before
  comparison_not_answered {c} s is err h = not_answered f is _ s h (comparison_refused (first f input) (second f input) f c (found₂ (outcome_of (both_of meaning)) read err))

-- What is asked for by its number.
module _ (f : Form) {input before : List ℕ} {r : Result code.Asked Refusal} (by : AskedBy (get_or input 0 0) r) where
  pub asked_for : {a : code.Asked} {left : meant.Refusal} {after : List ℕ} → r ≡ Ok a → LeavesBy f (asked_of a) input before left after
      → Called (numbered ∷ []) (Requested (size_of f) (OutcomeIn binary64 f)) input before left after
  asked_for {a} ok h = requested (asked_of a) (subst (AskedBy (get_or input 0 0)) ok by) h

  pub nothing_asked : {e : Refusal} (s : Result (Unit {0}) Refusal) → r ≡ Err e → IsErrAnd s (λ t. t ≡ e)
      → Called (numbered ∷ []) (Requested (size_of f) (OutcomeIn binary64 f)) input before (said s) before
  nothing_asked s err h =
      let none = subst (AskedBy (get_or input 0 0)) err by in
      subst⁻¹ (λ (t : Result (Unit {0}) Refusal). Called (numbered ∷ []) (Requested (size_of f) (OutcomeIn binary64 f)) input before (said t) before)
      (passed_on s h ∙ ap Err none.0) (stop (λ k. none.1 k.asked k.asks.is))
