-- From operands that were read to the outcome of a call, whatever is read and whatever is right.
use mathlib.Core.Path.{◌≡◌, ap, subst, subst⁻¹}
use mathlib.Core.List.{List, []}
use Prim.Native.Nat.{ℕ}
use Rattle.std.specs.Prelude.{Result, Ok, Err, IsErrAnd, MatchResult}
use Rattle.meaning.specs.Refusals.{Refusal}
use Rattle.meaning.specs.Statement.{Outcome, refused, given, Verdict, Answered₁, first₁, right₁, Answered₂, first₂, second₂, right₂}
use Rattle.meaning.specs.Calls.{Called}
use Rattle.meaning.proofs.CalledLaws.{refusing}
use Rattle.refusals.specs.RefusalMeaning.{refusal_of, outcome_of, first_outcome, said}
use Rattle.refusals.specs.declared.Fault.{Fault}
use Rattle.refusals.specs.declared.Place.{Place}
use Rattle.refusals.specs.declared.Refusal as code
use Rattle.refusals.proofs.FoundLaws.{passed_on}
use Rattle.request_laws.specs.Reads.{BothRead}

-- What is said of the code's answer is said of the case that it was found to be.
pub found₁ : {A B C : Type 0} {Judged : A → Verdict → Type 0} {Read : A → B → Type 0} (outcome : C → Outcome B) {x : A} {r s : C}
    → Answered₁ Judged Read x (outcome r) → r ≡ s → Answered₁ Judged Read x (outcome s)
found₁ {B = B} {Judged = Judged} {Read = Read} outcome {x} h e = subst (λ (o : Outcome B). Answered₁ Judged Read x o) (ap outcome e) h

pub found₂ : {A B C : Type 0} {Judged : A → Verdict → Type 0} {Read : A → A → B → Type 0} (outcome : C → Outcome B) {x y : A} {r s : C}
    → Answered₂ Judged Read x y (outcome r) → r ≡ s → Answered₂ Judged Read x y (outcome s)
found₂ {B = B} {Judged = Judged} {Read = Read} outcome {x} {y} h e = subst (λ (o : Outcome B). Answered₂ Judged Read x y o) (ap outcome e) h

module _ {A B C : Type 0} {Judged : A → Verdict → Type 0} {Read : A → B → Type 0} where
  pub after₁ : {Right : A → C → Type 0} {x : A} {z : B} {w : C} → Answered₁ Judged Read x (given z) → (Read x z → Right x w) → Answered₁ Judged Right x (given w)
  after₁ (right₁ j r) next = right₁ j (next r)

  -- A refusal is the same whatever would be right.
  pub refused₁ : {Right : A → C → Type 0} {x : A} {r : Refusal} → Answered₁ Judged Read x (refused r) → Answered₁ Judged Right x (refused r)
  refused₁ (first₁ j) = first₁ j

module _ {A B C : Type 0} {Judged : A → Verdict → Type 0} {Read : A → A → B → Type 0} where
  pub after₂ : {Right : A → A → C → Type 0} {x y : A} {z : B} {w : C} → Answered₂ Judged Read x y (given z) → (Read x y z → Right x y w)
      → Answered₂ Judged Right x y (given w)
  after₂ (right₂ j k r) next = right₂ j k (next r)

  pub refused₂ : {Right : A → A → C → Type 0} {x y : A} {r : Refusal} → Answered₂ Judged Read x y (refused r) → Answered₂ Judged Right x y (refused r)
  refused₂ (first₂ j) = first₂ j
  refused₂ (second₂ j k) = second₂ j k

-- Two operands are read in turn.
module _ {A B : Type 0} {Judged : A → Verdict → Type 0} {Read : A → B → Type 0} {x y : A} where
  pub both : {z w : B} → Answered₁ Judged Read x (given z) → Answered₁ Judged Read y (given w) → Answered₂ Judged (BothRead Read) x y (given (z, w))
  both (right₁ j r) (right₁ k s) = right₂ j k (r, s)

  pub wrong_first : {r : Refusal} → Answered₁ Judged Read x (refused r) → Answered₂ Judged (BothRead Read) x y (refused r)
  wrong_first (first₁ j) = first₂ j

  pub wrong_second : {z : B} {r : Refusal} → Answered₁ Judged Read x (given z) → Answered₁ Judged Read y (refused r)
      → Answered₂ Judged (BothRead Read) x y (refused (record { number = r.number; place = 2; index = r.index }))
  wrong_second (right₁ j r) (first₁ k) = second₂ j k

-- A refusal that was found of two operands is handed on by `?`.
pub handed_on₂ : {A B C D E : Type 0} {Judged : A → Verdict → Type 0} {Read : A → A → C → Type 0} {Right : A → A → B → Type 0} (before : D → C) (after : E → B)
    {x y : A} {v : Result D code.Refusal} {e : code.Refusal} (s : Result E code.Refusal) → Answered₂ Judged Read x y (outcome_of before v) → v ≡ Err e
    → IsErrAnd s (λ r. r ≡ e) → Answered₂ Judged Right x y (outcome_of after s)
handed_on₂ {A} {B} {C} {D} {E} {Judged} {Read} {Right} before after {x} {y} s a is h =
    subst⁻¹ (λ (t : Result E code.Refusal). Answered₂ Judged Right x y (outcome_of after t)) (passed_on s h) (refused₂ (found₂ (outcome_of before) a is))

-- A first operand that is wrong is refused, whatever the second is.
pub read_wrong : {A B D E : Type 0} {Judged : D → Verdict → Type 0} {Read : D → B → Type 0} (meaning : A → B) (after : E → B × B) {x y : D} {r : Result A Fault}
    {fault : Fault} (s : Result E code.Refusal) → Answered₁ Judged Read x (first_outcome meaning r) → r ≡ Err fault
    → IsErrAnd s (λ e. e ≡ code.Refusal.Operand Place.First fault) → Answered₂ Judged (BothRead Read) x y (outcome_of after s)
read_wrong {E = E} {Judged = Judged} {Read = Read} meaning after {x} {y} s h is e =
    subst⁻¹ (λ (t : Result E code.Refusal). Answered₂ Judged (BothRead Read) x y (outcome_of after t)) (passed_on s e)
    (wrong_first (found₁ (first_outcome meaning) h is))

-- What the second operand is refused with, where it is.
abbrev pub Second : {A : Type 0} → Result A Fault → Result A code.Refusal → Type 0
Second r s = MatchResult r (λ x. s ≡ Ok x) (λ fault. IsErrAnd s (λ e. e ≡ code.Refusal.Operand Place.Second fault))

-- The second operand is read once the first was.
pub read_second : {A B D : Type 0} {Judged : D → Verdict → Type 0} {Read : D → B → Type 0} (meaning : A → B) {x y : D} {z : B} (r : Result A Fault)
    (s : Result A code.Refusal) → Answered₁ Judged Read x (given z) → Answered₁ Judged Read y (first_outcome meaning r) → Second r s
    → Answered₂ Judged (BothRead Read) x y (outcome_of (λ w. (z, meaning w)) s)
read_second {A} {B} {D} {Judged} {Read} meaning {x} {y} {z} (Ok w) s h k e =
    subst⁻¹ (λ (t : Result A code.Refusal). Answered₂ Judged (BothRead Read) x y (outcome_of (λ w. (z, meaning w)) t)) e (both h k)
read_second {A} {B} {D} {Judged} {Read} meaning {x} {y} {z} (Err fault) s h k e =
    subst⁻¹ (λ (t : Result A code.Refusal). Answered₂ Judged (BothRead Read) x y (outcome_of (λ w. (z, meaning w)) t)) (passed_on s e) (wrong_second h k)

-- A call that says its refusal leaves the lent output as it was.
pub refusing_said : {I : Type 0} {Outcomes : I → Outcome (List ℕ) → Type 0} {input : I} {before : List ℕ} {e : code.Refusal} (s : Result (Unit {0}) code.Refusal)
    → s ≡ Err e → Outcomes input (refused (refusal_of e)) → Called [] Outcomes input before (said s) before
refusing_said {Outcomes = Outcomes} {input = input} {before = before} s is right =
    subst⁻¹ (λ (t : Result (Unit {0}) code.Refusal). Called [] Outcomes input before (said t) before) is (refusing right)
