-- `zeros::canonical` meets its contract: each zero gets its sign.
use mathlib.Core.Path.{◌≡◌}
use Rattle.patterns.specs.Format.{binary64, sign_bit}
use Rattle.patterns.specs.Value.{opposite, magnitude}
use Rattle.end_pairs.specs.Zeros.{canonical_lower, canonical_upper}
use Rattle.end_pairs.proofs.ZeroLaws.{tidied}
use Rattle.end_pairs.proofs.zeros.canonical.Goals as goal

pub returns : goal.returns
unfolding canonical_lower canonical_upper opposite sign_bit magnitude
returns c =
    let lower : c.with_zero.result ≡ canonical_lower binary64 c.args.x.a = c.with_zero.ensures in
    let upper : c.with_zero-2.result ≡ canonical_upper binary64 c.args.x.b = c.with_zero-2.ensures in
    rw (lower, upper) (tidied binary64 _ c.requires)
