-- From the outcome of an operation to that of a request.
use mathlib.Core.Path.{◌≡◌}
use mathlib.Core.List.{List, [], ◌∷◌}
use Prim.Native.Nat.{ℕ}
use lib.ListN.{get_or}
use Rattle.meaning.specs.Refusals.{Refusal}
use Rattle.meaning.specs.Statement.{Outcome}
use Rattle.meaning.specs.Requests.{Asked, operation_number, Requested, numbered}
use Rattle.meaning.specs.Calls.{Test, passed, Called}
use Rattle.request_laws.specs.Reads.{OnOperands}

module _ {size : ℕ} {Outcomes : Asked → (first second : List ℕ) → Outcome (List ℕ) → Type 0} {input before after : List ℕ} {r : Refusal}
    (q : Asked) (is : get_or input 0 0 ≡ operation_number q) (h : Called [] (OnOperands size Outcomes q) input before r after) where
  -- What the operation that was asked for leaves, the request leaves that has passed its last test.
  pub requested_by : (last : Test (List ℕ)) → last.Holds input before → Called (last ∷ []) (Requested size Outcomes) input before r after
  requested_by last holds =
      record {
        outcome = h.outcome;
        chain = passed holds (record { asked = q; asks = record { is = is }; outcome = h.chain });
        leaves = h.leaves;
      }

  pub requested : Called (numbered ∷ []) (Requested size Outcomes) input before r after
  requested = requested_by numbered (record { asked = q; asks = record { is = is } })
