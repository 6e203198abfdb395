-- Two answers that both satisfy the statement of a public function are equal, one theorem for each function.
use mathlib.Core.Path.{◌≡◌}
use Rattle.std.specs.Prelude.{ℕ, Bool}
use Rattle.patterns.specs.Format.{Format}
use Rattle.meaning.specs.Sets.{Set, empty, span, unbounded}
use Rattle.meaning.specs.Pairs.{set_of}
use Rattle.meaning.specs.Classes.{ClassOf}
use Rattle.meaning.specs.Decorations.{Common, Point}
use Rattle.meaning.specs.Statement.{Outcome, Verdict, Answered₁, JudgedBare}
use Rattle.meaning.specs.Bytes.{Tidied}
use Rattle.meaning.proofs.Unique.{one_answer₁, judged_bare_once}
use Rattle.truth.specs.Answers.{Answers}
use Rattle.truth.proofs.AnswerLaws.{answers_once}
use Rattle.meaning.proofs.SpellingLaws.{tidied_once}
use Rattle.classify.proofs.ClassOnce.{class_once, code_of, code_back}
use Rattle.refusals.specs.RefusalMeaning.{outcome, outcome_of}
use Rattle.refusals.proofs.Known.{result_known, same_known}
use Rattle.classify.specs.ClassMeaning.{class_of}
use Rattle.interval.specs.IntervalMeaning.{pair_of}
use Rattle.interval.specs.Values.{LowerOf, UpperOf}
use Rattle.interval.proofs.Codes.{interval_known}
use Rattle.interval.proofs.Once.{lower_once, upper_once}

-- One answer satisfies a statement whose answers have the outcomes f.
abbrev pub Once : {A B R : Type 0} (f : R → Outcome B) (Judged : A → Verdict → Type 0) (Right : A → B → Type 0) → Type 0
Once {A} {B} {R} f Judged Right = (x : A) (r s : R) → Answered₁ Judged Right x (f r) → Answered₁ Judged Right x (f s) → r ≡ s

module _ (F : Format) where
  pub try_from_once : Once (outcome_of pair_of) (JudgedBare F) (Tidied F)
  try_from_once x r s a b = interval_known (one_answer₁ (judged_bare_once F x) (tidied_once F x) a b)

  pub inf_once : Once (outcome {A = ℕ}) (JudgedBare F) (LowerOf F)
  inf_once x r s a b = same_known (one_answer₁ (judged_bare_once F x) (lower_once F x) a b)

  pub sup_once : Once (outcome {A = ℕ}) (JudgedBare F) (UpperOf F)
  sup_once x r s a b = same_known (one_answer₁ (judged_bare_once F x) (upper_once F x) a b)

  -- A question on the set of a bare interval.
  pub asked_once : (P : Set → Type 0) → Once (outcome {A = Bool}) (JudgedBare F) (λ x. Answers (P (set_of F x)))
  asked_once P x r s a b = same_known (one_answer₁ (judged_bare_once F x) (answers_once (P (set_of F x))) a b)

  pub is_empty_once : Once (outcome {A = Bool}) (JudgedBare F) (λ x. Answers (set_of F x ≡ empty))
  is_empty_once = asked_once (λ (Z : Set). Z ≡ empty)

  pub is_entire_once : Once (outcome {A = Bool}) (JudgedBare F) (λ x. Answers (set_of F x ≡ span unbounded unbounded))
  is_entire_once = asked_once (λ (Z : Set). Z ≡ span unbounded unbounded)

  pub is_common_interval_once : Once (outcome {A = Bool}) (JudgedBare F) (λ x. Answers (Common (set_of F x)))
  is_common_interval_once = asked_once Common

  pub is_singleton_once : Once (outcome {A = Bool}) (JudgedBare F) (λ x. Answers (Point (set_of F x)))
  is_singleton_once = asked_once Point

  pub classify_once : Once (outcome_of class_of) (JudgedBare F) (λ x. ClassOf (set_of F x))
  classify_once x r s a b = result_known code_of code_back (one_answer₁ (judged_bare_once F x) (class_once (set_of F x)) a b)
