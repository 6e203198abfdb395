-- Two answers that both satisfy the statement of a public function are equal, one theorem for each function.
use mathlib.Core.Path.{◌≡◌, sym, ◌∙◌}
use Rattle.patterns.specs.Format.{Format}
use Rattle.meaning.specs.Sets.{Set, empty, span, unbounded}
use Rattle.meaning.specs.Pairs.{NaNs}
use Rattle.meaning.specs.Decorations.{Decoration, Com, Common, Point}
use Rattle.meaning.specs.Statement.{JudgedBare, JudgedDecorated}
use Rattle.meaning.specs.Bytes.{TidiedDec}
use Rattle.meaning.proofs.Unique.{one_answer₁, judged_bare_once}
use Rattle.meaning.proofs.SpellingLaws.{tidied_dec_once}
use Rattle.truth.specs.Answers.{Answers}
use Rattle.truth.proofs.AnswerLaws.{answers_once}
use Rattle.uniqueness.proofs.VerdictLaws.{judged_decorated_once}
use Rattle.std.specs.Prelude.{ℕ, Bool}
use Rattle.refusals.specs.RefusalMeaning.{outcome, outcome_of}
use Rattle.refusals.proofs.Known.{same_known}
use Rattle.decorations.specs.DecorationMeaning.{decoration_of}
use Rattle.interval.specs.Values.{LowerOf, UpperOf}
use Rattle.interval.proofs.Once.{lower_once, upper_once}
use Rattle.interval.proofs.OneAnswer.{Once}
use Rattle.dec_interval.specs.DecIntervalMeaning.{dec_pair_of, part_of}
use Rattle.dec_interval.specs.Values.{SetDec, PartOf, DecEndOf, OfPart}
use Rattle.dec_interval.proofs.Codes.{dec_interval_known, decoration_known, part_known}
use Rattle.dec_interval.proofs.Once.{set_dec_once, part_once, dec_end_once}

module _ (F : Format) where
  pub try_from_parts_once : Once (outcome_of dec_pair_of) (JudgedDecorated F) (TidiedDec F)
  try_from_parts_once x r s a b = dec_interval_known (one_answer₁ (judged_decorated_once F x) (tidied_dec_once F x) a b)

  -- `new` is `set_dec` at Com, and `try_from` is `new` of the interval with the ends.
  pub set_dec_once_lem : (d : Decoration) → Once (outcome_of dec_pair_of) (JudgedBare F) (SetDec F d)
  set_dec_once_lem d x r s a b = dec_interval_known (one_answer₁ (judged_bare_once F x) (set_dec_once F d x) a b)

  pub new_once : Once (outcome_of dec_pair_of) (JudgedBare F) (SetDec F Com)
  new_once = set_dec_once_lem Com

  pub dec_try_from_once : Once (outcome_of dec_pair_of) (JudgedBare F) (SetDec F Com)
  dec_try_from_once = new_once

  pub interval_once : Once (outcome_of part_of) (JudgedDecorated F) (PartOf F)
  interval_once x r s a b = part_known (one_answer₁ (judged_decorated_once F x) (part_once F x) a b)

  pub decoration_once : Once (outcome_of decoration_of) (JudgedDecorated F) (λ x d. d ≡ x.decoration)
  decoration_once x r s a b = decoration_known (one_answer₁ (judged_decorated_once F x) (λ d e p q. p ∙ sym q) a b)

  pub is_nai_once : Once (outcome {A = Bool}) (JudgedDecorated F) (λ x. Answers (NaNs F x.pair))
  is_nai_once x r s a b = same_known (one_answer₁ (judged_decorated_once F x) (answers_once (NaNs F x.pair)) a b)

  pub dec_inf_once : Once (outcome {A = ℕ}) (JudgedDecorated F) (DecEndOf F (LowerOf F))
  dec_inf_once x r s a b = same_known (one_answer₁ (judged_decorated_once F x) (dec_end_once F (LowerOf F) (lower_once F) x) a b)

  pub dec_sup_once : Once (outcome {A = ℕ}) (JudgedDecorated F) (DecEndOf F (UpperOf F))
  dec_sup_once x r s a b = same_known (one_answer₁ (judged_decorated_once F x) (dec_end_once F (UpperOf F) (upper_once F) x) a b)

  -- A question on the set of the interval part.
  pub dec_asked_once : (P : Set → Type 0) → Once (outcome {A = Bool}) (JudgedDecorated F) (λ x. Answers (OfPart F P x))
  dec_asked_once P x r s a b = same_known (one_answer₁ (judged_decorated_once F x) (answers_once (OfPart F P x)) a b)

  pub dec_is_empty_once : Once (outcome {A = Bool}) (JudgedDecorated F) (λ x. Answers (OfPart F (λ (Z : Set). Z ≡ empty) x))
  dec_is_empty_once = dec_asked_once (λ (Z : Set). Z ≡ empty)

  pub dec_is_entire_once : Once (outcome {A = Bool}) (JudgedDecorated F) (λ x. Answers (OfPart F (λ (Z : Set). Z ≡ span unbounded unbounded) x))
  dec_is_entire_once = dec_asked_once (λ (Z : Set). Z ≡ span unbounded unbounded)

  pub dec_is_common_interval_once : Once (outcome {A = Bool}) (JudgedDecorated F) (λ x. Answers (OfPart F Common x))
  dec_is_common_interval_once = dec_asked_once Common

  pub dec_is_singleton_once : Once (outcome {A = Bool}) (JudgedDecorated F) (λ x. Answers (OfPart F Point x))
  dec_is_singleton_once = dec_asked_once Point
