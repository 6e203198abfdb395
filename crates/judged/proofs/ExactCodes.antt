-- A result with the exactness of each end is known by its outcome.
use mathlib.Core.Path.{◌≡◌, refl}
use Rattle.std.specs.Prelude.{Result}
use Rattle.meaning.specs.Exactness.{ExactPair}
use Rattle.refusals.specs.RefusalMeaning.{outcome_of}
use Rattle.refusals.specs.declared.Refusal.{Refusal}
use Rattle.refusals.proofs.Known.{result_known}
use Rattle.interval.proofs.Codes.{interval_of}
use Rattle.exact_operations.specs.ExactIntervals.{exact_pair_of}
use Rattle.exact_operations.specs.declared.ExactInterval.{ExactInterval}

exact_interval_of : ExactPair → ExactInterval
exact_interval_of z = record { x = interval_of z.pair; exact = record { lower = z.lower_exact; upper = z.upper_exact } }

exact_back : (z : ExactInterval) → exact_interval_of (exact_pair_of z) ≡ z
unfolding exact_interval_of
exact_back z = refl

-- Two results with the same outcome are equal.
pub exact_known : {r s : Result ExactInterval Refusal} → outcome_of exact_pair_of r ≡ outcome_of exact_pair_of s → r ≡ s
exact_known = result_known exact_interval_of exact_back
