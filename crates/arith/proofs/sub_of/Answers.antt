-- `sub_of` meets its contract: a difference is the sum with the second operand mirrored.
use mathlib.Core.Path.{subst⁻¹}
use Rattle.patterns.specs.Format.{binary64}
use Rattle.meaning.specs.Pairs.{Bare}
use Rattle.end_pairs.proofs.MirrorLaws.{mirror_bare}
use Rattle.arith.proofs.DifferenceLaws.{difference_hull}
use Rattle.arith.proofs.sub_of.Goals as goal

pub add_of-requires : goal.add_of-requires
add_of-requires c = (c.requires.0, subst⁻¹ (Bare binary64) c.mirrored.ensures (mirror_bare binary64 _ c.requires.1))

pub returns : goal.returns
returns c = difference_hull binary64 _ _ c.requires.1 c.mirrored.ensures c.add_of.ensures
