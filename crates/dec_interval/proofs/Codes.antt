-- A decorated interval and an interval part are known by what they are, and each result of the code by its outcome.
use mathlib.Core.Path.{◌≡◌, refl}
use Rattle.std.specs.Prelude.{Option, Some, None, Result}
use Rattle.meaning.specs.Statement.{DecPair}
use Rattle.refusals.specs.RefusalMeaning.{outcome_of}
use Rattle.refusals.specs.declared.Refusal.{Refusal}
use Rattle.refusals.proofs.Known.{result_known}
use Rattle.interval.specs.declared.types.Interval.{Interval}
use Rattle.interval.proofs.Codes.{interval_of}
use Rattle.decorations.specs.DecorationMeaning.{decoration_of}
use Rattle.decorations.specs.declared.types.Decoration.{Decoration}
use Rattle.decorations.proofs.Codes.{code_of, code_back}
use Rattle.dec_interval.specs.DecIntervalMeaning.{dec_pair_of, part_of}
use Rattle.dec_interval.specs.Values.{Part, part, no_part}
use Rattle.dec_interval.specs.declared.types.DecInterval.{DecInterval}

dec_interval_of : DecPair → DecInterval
dec_interval_of x = record { x = interval_of x.pair; d = code_of x.decoration }

dec_back : (x : DecInterval) → dec_interval_of (dec_pair_of x) ≡ x
unfolding dec_interval_of
dec_back x = λ i. record { x = x.x; d = code_back x.d i }

option_of : Part → Option Interval
option_of (part p) = Some (interval_of p)
option_of no_part = None

option_back : (o : Option Interval) → option_of (part_of o) ≡ o
unfolding option_of
option_back (Some x) = refl
option_back None = refl

-- Two results with the same outcome are equal.
pub dec_interval_known : {r s : Result DecInterval Refusal} → outcome_of dec_pair_of r ≡ outcome_of dec_pair_of s → r ≡ s
dec_interval_known = result_known dec_interval_of dec_back

pub decoration_known : {r s : Result Decoration Refusal} → outcome_of decoration_of r ≡ outcome_of decoration_of s → r ≡ s
decoration_known = result_known code_of code_back

pub part_known : {r s : Result (Option Interval) Refusal} → outcome_of part_of r ≡ outcome_of part_of s → r ≡ s
part_known = result_known option_of option_back
