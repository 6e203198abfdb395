-- A bare interval is known by its ends, and each result of the code by its outcome.
use mathlib.Core.Path.{◌≡◌, refl}
use Rattle.std.specs.Prelude.{Result}
use Rattle.meaning.specs.Pairs.{Pair}
use Rattle.refusals.specs.RefusalMeaning.{outcome_of}
use Rattle.refusals.specs.declared.Refusal.{Refusal}
use Rattle.refusals.proofs.Known.{result_known}
use Rattle.interval.specs.IntervalMeaning.{pair_of}
use Rattle.interval.specs.declared.types.Interval.{Interval}

-- The interval with two ends.
abbrev pub interval_of : Pair → Interval
interval_of p = record { ends = record { a = p.lower; b = p.upper } }

-- Two results with the same outcome are equal.
pub interval_known : {r s : Result Interval Refusal} → outcome_of pair_of r ≡ outcome_of pair_of s → r ≡ s
interval_known = result_known interval_of (λ x. refl)
