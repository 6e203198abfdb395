-- A number of no arithmetic operation is refused.
use mathlib.Core.Path.{◌≡◌, ◌∙◌, ap, subst, subst⁻¹}
use mathlib.Core.List.{List, [], ◌∷◌}
use Prim.Native.Nat.{ℕ}
use lib.ListN.{get_or}
use Rattle.std.specs.Prelude.{Result, Err, IsErrAnd}
use Rattle.patterns.specs.Format.{binary64}
use Rattle.meaning.specs.Calls.{Called}
use Rattle.meaning.specs.Requests.{Requested, bare_size}
use Rattle.meaning.specs.ExactRequests.{arithmetic, ExactOutcome}
use Rattle.meaning.proofs.CalledLaws.{stop}
use Rattle.refusals.specs.RefusalMeaning.{said}
use Rattle.refusals.specs.declared.Refusal.{Refusal}
use Rattle.refusals.proofs.FoundLaws.{passed_on}
use Rattle.operation_names.specs.Numbers.{AskedExactBy}
use Rattle.operation_names.specs.declared.numbers.AskedExact.{AskedExact}

pub nothing_asked : {input before : List ℕ} {r : Result AskedExact Refusal} {e : Refusal} → AskedExactBy (get_or input 0 0) r → (s : Result (Unit {0}) Refusal)
    → r ≡ Err e → IsErrAnd s (λ t. t ≡ e) → Called (arithmetic ∷ []) (Requested bare_size (ExactOutcome binary64)) input before (said s) before
nothing_asked {input} {before} by s err h =
    let none = subst (AskedExactBy (get_or input 0 0)) err by in
    subst⁻¹ (λ (t : Result (Unit {0}) Refusal). Called (arithmetic ∷ []) (Requested bare_size (ExactOutcome binary64)) input before (said t) before)
    (passed_on s h ∙ ap Err none.0) (stop none.1)
