-- A call on columns leaves one number and one column of answers.
use mathlib.Core.List.{List}
use mathlib.Core.Path.{◌≡◌, sym, ◌∙◌, ap, subst}
use Prim.Native.Nat.{ℕ, ◌<◌}
use lib.ListN.{length}
use lib.Seq.{ext_get_or}
use Rattle.patterns.specs.Format.{binary64}
use Rattle.meaning.specs.Statement.{given, refusal_at}
use Rattle.meaning.specs.Calls.{Left}
use Rattle.meaning.proofs.Unique.{One}
use Rattle.meaning.proofs.CalledLaws.{called_once}
use Rattle.patterns.proofs.UpLaws.{up_unique}
use Rattle.rounding_runs.specs.declared.roundings.Operation.{Operation}
use Rattle.rounding_exports.specs.Columns.{Filled, FilledBy, filled_by, FilledOrRefused}

module _ {o : Operation} {a b : List ℕ} where
  -- Upward rounding has one answer in each row.
  rows_once : {after after' : List ℕ} → Filled o a b after → Filled o a b after' → after ≡ after'
  rows_once {after} {after'} f f' =
      ext_get_or 0 after after' (f.answers ∙ sym f'.answers)
      (λ k less.
      let row : k < length a = subst (λ (n : ℕ). k < n) f.answers less in
      up_unique binary64 (f.rounded k row) (f'.rounded k row))

  filled_by_once : One (FilledBy o (record { first = a; second = b }))
  filled_by_once p q (filled_by f) (filled_by f') = ap given (rows_once f f')

  -- Two outcomes of a call are equal.
  pub filled_once : {before : List ℕ} (n n' : ℕ) (after after' : List ℕ) → FilledOrRefused o a b before n after → FilledOrRefused o a b before n' after'
      → (n ≡ n') × (after ≡ after')
  filled_once n n' after after' h k =
      let same = called_once filled_by_once (record { refusal = refusal_at n 0; after = after }) (record { refusal = refusal_at n' 0; after = after' }) h k in
      (ap (λ (l : Left). l.refusal.number) same, ap (λ (l : Left). l.after) same)
