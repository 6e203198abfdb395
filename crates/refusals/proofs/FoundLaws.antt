-- From what was found of operands to the statement of the answer: `?` refuses what is wrong, and what is sound is answered.
use mathlib.Core.Path.{◌≡◌, ap, subst, subst⁻¹}
use Rattle.std.specs.Prelude.{Result, Ok, Err, IsErrAnd}
use Rattle.patterns.specs.Format.{Format}
use Rattle.meaning.specs.Pairs.{Pair, Bare}
use Rattle.meaning.specs.Refusals as meant
use Rattle.meaning.specs.Statement.{Verdict, sound, refused, given, refusal_at, Found₁, Answered₁, first₁, right₁, JudgedBare, bare_good}
use Rattle.refusals.specs.RefusalMeaning.{number_of, verdict_of, outcome_of}
use Rattle.refusals.specs.declared.Fault.{Fault}
use Rattle.refusals.specs.declared.Place.{Place}
use Rattle.refusals.specs.declared.Refusal.{Refusal}

-- What `?` makes of a fault, or hands on as it is.
pub passed_on : {A E : Type 0} {e : E} (s : Result A E) → IsErrAnd s (λ f. f ≡ e) → s ≡ Err e
passed_on (Ok x) h = absurd h
passed_on (Err f) h = ap Err h

module _ {A : Type 0} {Judged : A → Verdict → Type 0} {x : A} {r : Result (Unit {0}) Fault} (found : Found₁ Judged x (verdict_of r)) where
  pub sound₁ : {u : Unit {0}} → r ≡ Ok u → Judged x sound
  sound₁ {u} e = go (subst (λ (v : Result (Unit {0}) Fault). Found₁ Judged x (verdict_of v)) e found)
    where
      go : Found₁ Judged x (given u) → Judged x sound
      go (right₁ j _) = j

  pub given₁ : {B : Type 0} {Right : A → B → Type 0} {z : B} {u : Unit {0}} → r ≡ Ok u → Right x z → Answered₁ Judged Right x (given z)
  given₁ e right = right₁ (sound₁ e) right

  wrong₁ : {B : Type 0} {Right : A → B → Type 0} {fault : Fault} → r ≡ Err fault → Answered₁ Judged Right x (refused (refusal_at (number_of fault) 1))
  wrong₁ {B} {Right} {fault} e = go (subst (λ (v : Result (Unit {0}) Fault). Found₁ Judged x (verdict_of v)) e found)
    where
      go : Found₁ Judged x (refused (refusal_at (number_of fault) 1)) → Answered₁ Judged Right x (refused (refusal_at (number_of fault) 1))
      go (first₁ j) = first₁ j

  pub refused₁ : {B C : Type 0} (meaning : B → C) {Right : A → C → Type 0} {fault : Fault} (s : Result B Refusal) → r ≡ Err fault
      → IsErrAnd s (λ e. e ≡ Refusal.Operand Place.First fault) → Answered₁ Judged Right x (outcome_of meaning s)
  refused₁ {B} meaning {Right} s e h = subst⁻¹ (λ (t : Result B Refusal). Answered₁ Judged Right x (outcome_of meaning t)) (passed_on s h) (wrong₁ e)

-- A refusal of what was worked out on the way is handed on by `?`.
pub handed_on : {A B C D E : Type 0} {Judged : A → Verdict → Type 0} {Worked : A → C → Type 0} {Right : A → B → Type 0} (before : D → C) (after : E → B)
    {x : A} {v : Result D Refusal} {e : Refusal} (s : Result E Refusal) → Answered₁ Judged Worked x (outcome_of before v) → v ≡ Err e
    → IsErrAnd s (λ r. r ≡ e) → Answered₁ Judged Right x (outcome_of after s)
handed_on {A} {B} {C} {D} {E} {Judged} {Worked} {Right} before after {x} {v} {e} s a is h =
    subst⁻¹ (λ (t : Result E Refusal). Answered₁ Judged Right x (outcome_of after t)) (passed_on s h)
    (go (subst (λ (w : Result D Refusal). Answered₁ Judged Worked x (outcome_of before w)) is a))
  where
    go : {r : meant.Refusal} → Answered₁ Judged Worked x (refused r) → Answered₁ Judged Right x (refused r)
    go (first₁ j) = first₁ j

pub sound_bare : {F : Format} {x : Pair} → JudgedBare F x sound → Bare F x
sound_bare (bare_good b) = b
