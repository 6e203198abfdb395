-- "One-operand operations don't read the second operand": what a request leaves does not depend on it.
use mathlib.Core.Logic.{◌↔◌}
use mathlib.Core.Path.{◌≡◌, sym, ◌∙◌, subst}
use mathlib.Core.List.{List}
use Prim.Native.Nat.{ℕ, ◌≤◌}
use lib.ListN.{length}
use Rattle.meaning.specs.Refusals.{Refusal}
use Rattle.patterns.specs.Format.{Format}
use Rattle.meaning.specs.Points.{Unary}
use Rattle.meaning.specs.Statement.{Outcome}
use Rattle.meaning.specs.Requests.{Asked, unary, Asks, Known, Requested, first_operand, second_operand, numbered, tests_by, bare_size, decorated_size, BareRequest, DecoratedRequest}
use Rattle.meaning.specs.ExactRequests.{exact_size, arithmetic, ExactRequest}
use Rattle.meaning.specs.Calls.{Left, Test, failed, passed, Chain, Called}
use Rattle.request_laws.specs.Calls.{Statement, Leaves, Call, Meets}
use Rattle.meaning.proofs.OperationNumbers.{asks_once}
use Rattle.request_laws.proofs.OneOutcome.{bare_request_once, exact_request_once, decorated_request_once}

-- Two inputs of one length that ask for the same operation of one operand, on the same first operand.
pub record SameFirst (size : ℕ) (op : Unary) (input other : List ℕ) : Type 0 where
  pub asks : Asks input (unary op)
  pub asks_too : Asks other (unary op)
  pub first : first_operand size input ≡ first_operand size other
  pub long : length input ≡ length other

known : {input : List ℕ} {op : Unary} → Asks input (unary op) → Known input
known {op = op} h = record { asked = unary op; asks = h }

-- Both pass the test of their number, or neither does.
both_known : {size : ℕ} {op : Unary} {input other : List ℕ} → SameFirst size op input other → List ℕ → Known input ↔ Known other
both_known same before = (λ k. known same.asks_too, λ k. known same.asks)

both_arithmetic : {size : ℕ} {op : Unary} {input other : List ℕ} → SameFirst size op input other → (before : List ℕ)
    → arithmetic.Holds input before ↔ arithmetic.Holds other before
both_arithmetic same before =
    let is = same.asks.is ∙ sym same.asks_too.is in
    (subst (λ (n : ℕ). (1 ≤ n) × (n ≤ 5)) is, subst (λ (n : ℕ). (1 ≤ n) × (n ≤ 5)) (sym is))

module _ {size : ℕ} {op : Unary} {input other : List ℕ} (same : SameFirst size op input other)
    {Outcomes : Asked → (first second : List ℕ) → Outcome (List ℕ) → Type 0}
    (unread : (first second third : List ℕ) (o : Outcome (List ℕ)) → Outcomes (unary op) first second o → Outcomes (unary op) first third o) where
  moved : (o : Outcome (List ℕ)) → Requested size Outcomes input o → Requested size Outcomes other o
  moved o r =
      let is = subst (λ (q : Asked). Outcomes q (first_operand size input) (second_operand size input) o) (asks_once r.asks same.asks) r.outcome in
      record {
        asked = unary op;
        asks = same.asks_too;
        outcome =
            subst (λ (first : List ℕ). Outcomes (unary op) first (second_operand size other) o) same.first
            (unread (first_operand size input) (second_operand size input) (second_operand size other) o is);
      }

  -- Answers of any size, and any test of the number that both pass or both fail.
  module _ (answer : ℕ) (number : Test (List ℕ)) (alike : (before : List ℕ) → number.Holds input before ↔ number.Holds other before) where
    chain_moved : (before : List ℕ) (o : Outcome (List ℕ)) → Chain (tests_by size answer number) (Requested size Outcomes) input before o
        → Chain (tests_by size answer number) (Requested size Outcomes) other before o
    chain_moved before o (failed h) = failed (λ e. h (same.long ∙ e))
    chain_moved before o (passed h (failed k)) = passed (sym same.long ∙ h) (failed k)
    chain_moved before o (passed h (passed k (failed l))) = passed (sym same.long ∙ h) (passed k (failed (λ m. l ((alike before).1 m))))
    chain_moved before o (passed h (passed k (passed l r))) = passed (sym same.long ∙ h) (passed k (passed ((alike before).0 l) (moved o r)))

    call-moved : {before : List ℕ} {r : Refusal} {after : List ℕ}
        → Called (tests_by size answer number) (Requested size Outcomes) input before r after
        → Called (tests_by size answer number) (Requested size Outcomes) other before r after
    call-moved {before} h = record { outcome = h.outcome; chain = chain_moved before h.outcome h.chain; leaves = h.leaves }

-- The requests leave the same.
abbrev pub SecondUnread : (size : ℕ) → Statement → Type 0
SecondUnread size S =
    (op : Unary) (input other before : List ℕ) (l m : Left) → SameFirst size op input other
    → Leaves S input before l → Leaves S other before m → l ≡ m

pub bare_second_unread : (F : Format) → SecondUnread bare_size (BareRequest F)
bare_second_unread F op input other before l m same h k = bare_request_once F other before l m (call-moved same (λ first second third o r. r) bare_size numbered (both_known same) h) k

pub exact_second_unread : (F : Format) → SecondUnread bare_size (ExactRequest F)
exact_second_unread F op input other before l m same h k =
    exact_request_once F other before l m (call-moved same (λ first second third o r. r) exact_size arithmetic (both_arithmetic same) h) k

pub decorated_second_unread : (F : Format) → SecondUnread decorated_size (DecoratedRequest F)
decorated_second_unread F op input other before l m same h k =
    decorated_request_once F other before l m (call-moved same (λ first second third o r. r) decorated_size numbered (both_known same) h) k

-- So a version that meets the statement leaves the same whatever the second operand is.
pub no_second_read : {size : ℕ} (S : Statement) → SecondUnread size S → (call : Call) → Meets S call → (op : Unary) (input other before : List ℕ)
    → SameFirst size op input other → call input before ≡ call other before
no_second_read S unread call meets op input other before same =
    unread op input other before (call input before) (call other before) same (meets input before) (meets other before)
