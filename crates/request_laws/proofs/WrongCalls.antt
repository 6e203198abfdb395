-- Wrong versions of a call on lent bytes: what its statement says of them, once for all calls.
use mathlib.Core.Bool.{false}
use mathlib.Core.Path.{◌≡◌, refl, sym, ◌∙◌, ap}
use mathlib.Core.List.{List}
use Prim.Native.Nat.{ℕ}
use borrow.Author.Tests.{eqb-false}
use lib.Dec.{eqb}
use lib.ListN.{take, get_or}
use Rattle.meaning.specs.Statement.{refusal_at, no_refusal}
use Rattle.meaning.specs.Bytes.{ByteOrder, write_pair}
use Rattle.meaning.specs.Calls.{Left}
use Rattle.meaning.specs.Requests.{bare_size}
use Rattle.cases.specs.Table.{entire, emptiness}
use Rattle.request_laws.specs.Calls.{Statement, Call, Meets, Packed}
use Rattle.request_laws.proofs.OneOutcome.{OneLeft}
use Rattle.request_laws.proofs.SmallLaws.{packed_once}

-- The bytes of an interval's ends in an answer or an operand.
abbrev ends : List ℕ → List ℕ
ends l = take bare_size l

-- The inspector's versions of a call that answers in a byte order, and whose first operand `first` finds: one that never writes its
-- output; one that refuses everything; one that answers ENTIRE, or EMPTY, always; one that hands back the first operand.
pub data WrongCall (order : ByteOrder) (first : List ℕ → List ℕ) (input before : List ℕ) (l : Left) : Type 0 where
  never_writes : l.after ≡ before → WrongCall order first input before l
  refuses_all : (l.refusal.number ≡ 0 → ⊥) → WrongCall order first input before l
  answers_entire : ends l.after ≡ write_pair order entire → WrongCall order first input before l
  answers_empty : ends l.after ≡ write_pair order emptiness → WrongCall order first input before l
  hands_back : ends l.after ≡ ends (first input) → WrongCall order first input before l

-- An input that a statement answers, and a lent output, on which none of them is right.
pub record Shown (S : Statement) (order : ByteOrder) (first : List ℕ → List ℕ) : Type 0 where
  pub input : List ℕ
  pub before : List ℕ
  pub out : List ℕ
  pub right : S input before no_refusal out
  pub changes : out ≡ before → ⊥
  pub not_entire : ends out ≡ write_pair order entire → ⊥
  pub not_empty : ends out ≡ write_pair order emptiness → ⊥
  pub not_first : ends out ≡ ends (first input) → ⊥

-- Bytes that differ at a place differ.
apart : (k : ℕ) (l m : List ℕ) → eqb (get_or l k 0) (get_or m k 0) ≡ false → l ≡ m → ⊥
apart k l m differ e = eqb-false (get_or l k 0) (get_or m k 0) differ (ap (λ (l : List ℕ). get_or l k 0) e)

-- An answer whose byte at a place is that of none of them.
pub shown_at : (k : ℕ) {S : Statement} {order : ByteOrder} {first : List ℕ → List ℕ} (input before out : List ℕ) → S input before no_refusal out
    → eqb (get_or out k 0) (get_or before k 0) ≡ false → eqb (get_or (ends out) k 0) (get_or (write_pair order entire) k 0) ≡ false
    → eqb (get_or (ends out) k 0) (get_or (write_pair order emptiness) k 0) ≡ false → eqb (get_or (ends out) k 0) (get_or (ends (first input)) k 0) ≡ false
    → Shown S order first
shown_at k {S} {order} {first} input before out right changes not_entire not_empty not_first =
    record {
      input = input;
      before = before;
      out = out;
      right = right;
      changes = apart k out before changes;
      not_entire = apart k (ends out) (write_pair order entire) not_entire;
      not_empty = apart k (ends out) (write_pair order emptiness) not_empty;
      not_first = apart k (ends out) (ends (first input)) not_first;
    }

-- No version that is wrong in one of these ways meets the statement, called or exported.
pub record NoneWrong (S : Statement) (order : ByteOrder) (first : List ℕ → List ℕ) : Type 0 where
  pub called : (call : Call) → ((input before : List ℕ) → WrongCall order first input before (call input before)) → Meets S call → ⊥
  pub exported : (result : (input before : List ℕ) → ℕ) (after : (input before : List ℕ) → List ℕ)
      → ((input before : List ℕ) → WrongCall order first input before (record { refusal = refusal_at (result input before) 0; after = after input before }))
      → ((input before : List ℕ) → Packed S input before (result input before) (after input before)) → ⊥

module _ {S : Statement} {order : ByteOrder} {first : List ℕ → List ℕ} (once : OneLeft S) (shown : Shown S order first) where
  abbrev right_left : Left
  right_left = record { refusal = no_refusal; after = shown.out }

  not_wrong : {l : Left} → l ≡ right_left → WrongCall order first shown.input shown.before l → ⊥
  not_wrong e (never_writes h) = shown.changes (sym (ap (λ (l : Left). l.after) e) ∙ h)
  not_wrong e (refuses_all refuses) = refuses (ap (λ (l : Left). l.refusal.number) e)
  not_wrong e (answers_entire h) = shown.not_entire (sym (ap (λ (l : Left). ends l.after) e) ∙ h)
  not_wrong e (answers_empty h) = shown.not_empty (sym (ap (λ (l : Left). ends l.after) e) ∙ h)
  not_wrong e (hands_back h) = shown.not_first (sym (ap (λ (l : Left). ends l.after) e) ∙ h)

  -- Nor does one that is like one of them on some inputs and like another on others.
  pub none_wrong : NoneWrong S order first
  none_wrong =
      let input = shown.input in
      let before = shown.before in
      let right : Packed S input before 0 shown.out = record { refusal = no_refusal; is = refl; called = shown.right } in
      record {
        called =
            λ call wrong meets.
            not_wrong (once input before (call input before) right_left (meets input before) shown.right) (wrong input before);
        exported =
            λ result after wrong meets.
            let (number, output) = packed_once once input before (meets input before) right in
            not_wrong (λ i. record { refusal = refusal_at (number i) 0; after = output i }) (wrong input before);
      }
