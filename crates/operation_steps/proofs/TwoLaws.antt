-- What is found of two operands is what is found of each, the first before the second. From what was found of them to the statement of
-- the answer: `?` refuses what is wrong, and what is sound is answered.
use mathlib.Core.Path.{◌≡◌, subst, subst⁻¹}
use Rattle.std.specs.Prelude.{Result, Ok, Err, IsErrAnd}
use Rattle.std.specs.Result.{MatchResult}
use Rattle.meaning.specs.Refusals as meant
use Rattle.meaning.specs.Statement.{Verdict, sound, refused, given, refusal_at, Found₁, first₁, right₁, Found₂, Answered₂, first₂, second₂, right₂}
use Rattle.refusals.specs.RefusalMeaning.{number_of, verdict_of, outcome, outcome_of}
use Rattle.refusals.specs.declared.Fault.{Fault}
use Rattle.refusals.specs.declared.Place.{Place}
use Rattle.refusals.specs.declared.Refusal.{Refusal}
use Rattle.refusals.proofs.FoundLaws.{passed_on}

module _ {A : Type 0} {Judged : A → Verdict → Type 0} {x y : A} where
  pub first_wrong : {v : Result (Unit {0}) Fault} {fault : Fault} → Found₁ Judged x (verdict_of v) → v ≡ Err fault
      → (s : Result (Unit {0}) Refusal) → IsErrAnd s (λ e. e ≡ Refusal.Operand Place.First fault) → Found₂ Judged x y (outcome s)
  first_wrong {v} {fault} found e s h =
      subst⁻¹ (λ (t : Result (Unit {0}) Refusal). Found₂ Judged x y (outcome t)) (passed_on s h)
      (go (subst (λ (v : Result (Unit {0}) Fault). Found₁ Judged x (verdict_of v)) e found))
    where
      go : Found₁ Judged x (refused (refusal_at (number_of fault) 1)) → Found₂ Judged x y (refused (refusal_at (number_of fault) 1))
      go (first₁ j) = first₂ j

  pub second_found : Judged x sound → (w : Result (Unit {0}) Fault) → Found₁ Judged y (verdict_of w) → (s : Result (Unit {0}) Refusal)
      → MatchResult w (λ u. s ≡ Ok u) (λ fault. IsErrAnd s (λ e. e ≡ Refusal.Operand Place.Second fault)) → Found₂ Judged x y (outcome s)
  second_found j (Ok u) (right₁ k _) s h = subst⁻¹ (λ (t : Result (Unit {0}) Refusal). Found₂ Judged x y (outcome t)) h (right₂ j k tt)
  second_found j (Err fault) (first₁ k) s h = subst⁻¹ (λ (t : Result (Unit {0}) Refusal). Found₂ Judged x y (outcome t)) (passed_on s h) (second₂ j k)

module _ {A : Type 0} {Judged : A → Verdict → Type 0} {x y : A} {r : Result (Unit {0}) Refusal} (found : Found₂ Judged x y (outcome r)) where
  pub sound₂ : {u : Unit {0}} → r ≡ Ok u → Judged x sound × Judged y sound
  sound₂ {u} e = go (subst (λ (v : Result (Unit {0}) Refusal). Found₂ Judged x y (outcome v)) e found)
    where
      go : Found₂ Judged x y (given u) → Judged x sound × Judged y sound
      go (right₂ j k _) = (j, k)

  pub given₂ : {B : Type 0} {Right : A → A → B → Type 0} {z : B} {u : Unit {0}} → r ≡ Ok u → Right x y z → Answered₂ Judged Right x y (given z)
  given₂ e right = let s = sound₂ e in right₂ s.0 s.1 right

  pub refused₂ : {B C : Type 0} (meaning : B → C) {Right : A → A → C → Type 0} {e : Refusal} (s : Result B Refusal) → r ≡ Err e
      → IsErrAnd s (λ f. f ≡ e) → Answered₂ Judged Right x y (outcome_of meaning s)
  refused₂ {B} {C} meaning {Right} {e} s is h =
      subst⁻¹ (λ (t : Result B Refusal). Answered₂ Judged Right x y (outcome_of meaning t)) (passed_on s h)
      (go (subst (λ (v : Result (Unit {0}) Refusal). Found₂ Judged x y (outcome v)) is found))
    where
      go : {t : meant.Refusal} → Found₂ Judged x y (refused t) → Answered₂ Judged Right x y (refused t)
      go (first₂ j) = first₂ j
      go (second₂ j k) = second₂ j k
