-- "NaI answers no to all": what a comparison of sets answers of two pairs.
use mathlib.Core.Bool.{Bool, false}
use mathlib.Core.Logic.{◌⊎◌, ⊎_elim}
use Rattle.truth.specs.Answers.{Answers, denied}
use Rattle.truth.proofs.AnswerLaws.{answers_iff}
use Rattle.patterns.specs.Format.{Format}
use Rattle.meaning.specs.Pairs.{Pair, Bare, NaNs, set_of}
use Rattle.meaning.specs.Comparisons.{Comparison, Compares, PairsCompare}
use Rattle.meaning.proofs.KindLaws.{bare_not_nans}

module _ (F : Format) (c : Comparison) {x y : Pair} where
  pub nai_compared : NaNs F x ⊎ NaNs F y → Answers (PairsCompare F c x y) false
  nai_compared n = denied (λ h. h.not_nai n)

  pub intervals_compared : (NaNs F x ⊎ NaNs F y → ⊥) → {t : Bool} → Answers (Compares c (set_of F x) (set_of F y)) t → Answers (PairsCompare F c x y) t
  intervals_compared n = answers_iff (λ h. record { not_nai = n; holds = h }) (λ h. h.holds)

  pub bares_compared : Bare F x × Bare F y → {t : Bool} → Answers (Compares c (set_of F x) (set_of F y)) t → Answers (PairsCompare F c x y) t
  bares_compared b = intervals_compared (⊎_elim (bare_not_nans F b.0) (bare_not_nans F b.1))
