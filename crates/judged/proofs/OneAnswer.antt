-- Two answers that both satisfy the statement of a public function are equal, one theorem for each kind of function and each form.
use mathlib.Core.Path.{◌≡◌}
use Rattle.std.specs.Prelude.{Bool, Result}
use Rattle.patterns.specs.Format.{Format}
use Rattle.meaning.specs.Pairs.{Pair}
use Rattle.meaning.specs.Points.{Unary, neg}
use Rattle.meaning.specs.Results.{Operation}
use Rattle.meaning.specs.Statement.{DecPair}
use Rattle.meaning.specs.Exactness.{Exact₁, Exact₂}
use Rattle.meaning.specs.Comparisons.{Comparison}
use Rattle.meaning.specs.Forms.{bare_form, decorated_form}
use Rattle.meaning.specs.FormStatements.{Answer₁, Answer₂, Compared}
use Rattle.meaning.proofs.ExactLaws.{exact₁_once, exact₂_once}
use Rattle.meaning.proofs.Unique.{bare₁_once, bare₂_once}
use Rattle.uniqueness.proofs.DecoratedLaws.{decorated₁_once, decorated₂_once}
use Rattle.comparison_laws.proofs.OneComparison.{bare_comparison_once, dec_comparison_once}
use Rattle.refusals.specs.RefusalMeaning.{outcome, outcome_of}
use Rattle.refusals.specs.declared.Refusal.{Refusal}
use Rattle.refusals.proofs.Known.{same_known}
use Rattle.interval.specs.IntervalMeaning.{pair_of}
use Rattle.interval.specs.declared.types.Interval.{Interval}
use Rattle.interval.proofs.Codes.{interval_known}
use Rattle.dec_interval.specs.DecIntervalMeaning.{dec_pair_of}
use Rattle.dec_interval.specs.declared.types.DecInterval.{DecInterval}
use Rattle.dec_interval.proofs.Codes.{dec_interval_known}
use Rattle.exact_operations.specs.ExactIntervals.{exact_pair_of}
use Rattle.exact_operations.specs.declared.ExactInterval.{ExactInterval}
use Rattle.judged.proofs.ExactCodes.{exact_known}

module _ (F : Format) where
  pub one_once : (op : Unary) (x : Pair) (r s : Result Interval Refusal)
      → Answer₁ F bare_form op x (outcome_of pair_of r) → Answer₁ F bare_form op x (outcome_of pair_of s) → r ≡ s
  one_once op x r s a b = interval_known (bare₁_once F op x a b)

  pub two_once : (op : Operation) (x y : Pair) (r s : Result Interval Refusal)
      → Answer₂ F bare_form op x y (outcome_of pair_of r) → Answer₂ F bare_form op x y (outcome_of pair_of s) → r ≡ s
  two_once op x y r s a b = interval_known (bare₂_once F op x y a b)

  pub one_dec_once : (op : Unary) (x : DecPair) (r s : Result DecInterval Refusal)
      → Answer₁ F decorated_form op x (outcome_of dec_pair_of r) → Answer₁ F decorated_form op x (outcome_of dec_pair_of s) → r ≡ s
  one_dec_once op x r s a b = dec_interval_known (decorated₁_once F op x a b)

  pub two_dec_once : (op : Operation) (x y : DecPair) (r s : Result DecInterval Refusal)
      → Answer₂ F decorated_form op x y (outcome_of dec_pair_of r) → Answer₂ F decorated_form op x y (outcome_of dec_pair_of s) → r ≡ s
  two_dec_once op x y r s a b = dec_interval_known (decorated₂_once F op x y a b)

  pub neg_exact_once : (x : Pair) (r s : Result ExactInterval Refusal)
      → Exact₁ F neg x (outcome_of exact_pair_of r) → Exact₁ F neg x (outcome_of exact_pair_of s) → r ≡ s
  neg_exact_once x r s a b = exact_known (exact₁_once F neg x a b)

  pub two_exact_once : (op : Operation) (x y : Pair) (r s : Result ExactInterval Refusal)
      → Exact₂ F op x y (outcome_of exact_pair_of r) → Exact₂ F op x y (outcome_of exact_pair_of s) → r ≡ s
  two_exact_once op x y r s a b = exact_known (exact₂_once F op x y a b)

  pub compare_once : (c : Comparison) (x y : Pair) (r s : Result Bool Refusal)
      → Compared F bare_form c x y (outcome r) → Compared F bare_form c x y (outcome s) → r ≡ s
  compare_once c x y r s a b = same_known (bare_comparison_once F c x y a b)

  pub compare_dec_once : (c : Comparison) (x y : DecPair) (r s : Result Bool Refusal)
      → Compared F decorated_form c x y (outcome r) → Compared F decorated_form c x y (outcome s) → r ≡ s
  compare_dec_once c x y r s a b = same_known (dec_comparison_once F c x y a b)
