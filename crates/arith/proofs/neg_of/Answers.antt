-- `neg_of` meets its contract: the operand is mirrored, and its zeros tidied.
use mathlib.Core.Path.{subst⁻¹}
use Rattle.patterns.specs.Format.{binary64}
use Rattle.meaning.specs.Pairs.{Bare}
use Rattle.end_pairs.proofs.MirrorLaws.{mirror_bare}
use Rattle.arith.proofs.BoundLaws.{negation_hull}
use Rattle.arith.proofs.neg_of.Goals as goal

pub canonical-requires : goal.canonical-requires
canonical-requires c = subst⁻¹ (Bare binary64) c.mirrored.ensures (mirror_bare binary64 _ c.requires)

pub returns : goal.returns
returns c = negation_hull binary64 _ _ c.requires c.mirrored.ensures c.canonical.ensures
