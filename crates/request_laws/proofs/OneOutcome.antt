-- Two outcomes that satisfy the statement of a request or a codec are equal: the refusal and the whole output.
use mathlib.Core.Path.{◌≡◌, ap}
use mathlib.Core.List.{List}
use Prim.Native.Nat.{ℕ}
use Rattle.std.specs.Prelude.{Result}
use Rattle.patterns.specs.Format.{Format}
use Rattle.meaning.specs.Bytes.{ByteOrder}
use Rattle.meaning.specs.Forms.{Form}
use Rattle.meaning.specs.Requests.{BareRequest, DecoratedRequest, Codec}
use Rattle.meaning.specs.ExactRequests.{ExactRequest}
use Rattle.meaning.proofs.Unique.{one_answer₁, written_once}
use Rattle.uniqueness.proofs.VerdictLaws.{judged_in_once}
use Rattle.uniqueness.proofs.ReadingLaws.{reads_once}
use Rattle.meaning.specs.Calls.{Left}
use Rattle.refusals.specs.RefusalMeaning.{said}
use Rattle.refusals.specs.declared.Refusal.{Refusal}
use Rattle.refusals.proofs.Known.{said_known}
use Rattle.request_laws.specs.Calls.{Statement, Leaves}
use Rattle.meaning.proofs.CalledLaws.{called_once}
use Rattle.request_laws.proofs.OutcomeLaws.{bare_outcome_once, exact_outcome_once, decorated_outcome_once, requested_once}

-- A statement of what a call leaves, for any input and any lent output, allows one thing.
abbrev pub OneLeft : Statement → Type 0
OneLeft S = (input before : List ℕ) (l m : Left) → Leaves S input before l → Leaves S input before m → l ≡ m

-- It allows one result of the code, and one output after it.
abbrev pub OneResult : Statement → Type 0
OneResult S = (input before : List ℕ) (r s : Result (Unit {0}) Refusal) (after after' : List ℕ)
    → S input before (said r) after → S input before (said s) after' → (r ≡ s) × (after ≡ after')

-- So it is of each statement below, as the contracts of the calls have them.
pub one_result : (S : Statement) → OneLeft S → OneResult S
one_result S once input before r s after after' h k =
    let same : record { refusal = said r; after = after } ≡ record { refusal = said s; after = after' } = once input before (record { refusal = said r; after = after }) (record { refusal = said s; after = after' }) h k in
    (said_known (ap (λ (l : Left). l.refusal) same), ap (λ (l : Left). l.after) same)

module _ (F : Format) where
  pub bare_request_once : OneLeft (BareRequest F)
  bare_request_once input before = called_once (requested_once (bare_outcome_once F))

  pub exact_request_once : OneLeft (ExactRequest F)
  exact_request_once input before = called_once (requested_once (exact_outcome_once F))

  pub decorated_request_once : OneLeft (DecoratedRequest F)
  decorated_request_once input before = called_once (requested_once (decorated_outcome_once F))

  pub codec_once : (f : Form) (from to : ByteOrder) → OneLeft (Codec F f from to)
  codec_once f from to input before =
      called_once (λ o p. one_answer₁ (judged_in_once F from input f) (written_once (reads_once f from input)))
