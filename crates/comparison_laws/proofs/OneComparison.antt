-- The statements of comparisons have one outcome each.
use mathlib.Core.Bool.{Bool}
use mathlib.Core.Path.{◌≡◌}
use Rattle.truth.proofs.AnswerLaws.{answers_once}
use Rattle.patterns.specs.Format.{Format}
use Rattle.meaning.specs.Pairs.{Pair, set_of}
use Rattle.meaning.specs.Statement.{Outcome, DecPair}
use Rattle.meaning.specs.Comparisons.{Comparison, Compares, PairsCompare, BareComparison, DecComparison}
use Rattle.meaning.proofs.Unique.{one_answer₂, judged_bare_once}
use Rattle.uniqueness.proofs.VerdictLaws.{judged_decorated_once}

module _ (F : Format) (c : Comparison) where
  pub bare_comparison_once : (x y : Pair) {o p : Outcome Bool} → BareComparison F c x y o → BareComparison F c x y p → o ≡ p
  bare_comparison_once x y = one_answer₂ (judged_bare_once F) (answers_once (Compares c (set_of F x) (set_of F y)))

  pub dec_comparison_once : (x y : DecPair) {o p : Outcome Bool} → DecComparison F c x y o → DecComparison F c x y p → o ≡ p
  dec_comparison_once x y = one_answer₂ (judged_decorated_once F) (answers_once (PairsCompare F c x.pair y.pair))
