-- `functions::has_half` meets its contract: the fractional part is one half in the middle between two whole numbers, and there alone.
use Rattle.std.proofs.Common.{rules}
use Rattle.patterns.specs.Format.{binary64, sign_bit}
use Rattle.patterns.specs.Value.{magnitude}
use Rattle.wholes.proofs.MagnitudeLaws.{half_split}
use Rattle.wholes.proofs.SignedLaws.{half_magnitude}
use Rattle.wholes.proofs.functions.has_half.Goals as goal

pub split-requires : goal.split-requires
unfolding magnitude sign_bit
split-requires c = c.requires.finite

pub returns : goal.returns
unfolding magnitude sign_bit
returns c =
    half_magnitude binary64 c.requires
    (half_split binary64 _ _ _ c.split.ensures c.is_some_and.ensures (λ x p. search rules))
