-- `significands::normal::normalise` meets its contract: what is unpacked is brought to full length.
use native.Mathlib.Omega.{arith}
use Prim.Native.Nat.{◌^◌, ◌<◌}
use Rattle.patterns.specs.Format.{infinity}
use Rattle.significands.proofs.DoubleLaws.{normal_full, normal_worth, unpacked_positive}
use Rattle.significands.proofs.normal.normalise.Goals as goal

pub unpack-u-requires : goal.unpack-u-requires
unfolding infinity
unpack-u-requires c = omega arith

pub normalised-n-requires : goal.normalised-n-requires
normalised-n-requires c = unpacked_positive c.unpack-u.ensures c.requires.0

pub invariant_of-result : goal.invariant_of-result
unfolding infinity
invariant_of-result c =
    let near : c.unpack-u.result.exponent < 2 ^ 11 = omega (arith, c.unpack-u.ensures.pattern) in
    record { full = normal_full c.requires.0 near c.unpack-u.ensures c.normalised-n.ensures }

pub returns : goal.returns
returns c = normal_worth c.unpack-u.ensures c.normalised-n.ensures
