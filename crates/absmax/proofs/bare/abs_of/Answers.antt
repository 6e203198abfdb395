-- `bare::abs_of` meets its contract: each class says which sign the members have.
use mathlib.Core.Path.{subst⁻¹}
use Rattle.patterns.specs.Format.{binary64}
use Rattle.meaning.specs.Pairs.{Bare}
use Rattle.meaning.specs.Statement.{HullOf}
use Rattle.end_pairs.proofs.MirrorLaws.{mirror_bare}
use Rattle.absmax.proofs.Absolute.{kept_hull, turned_hull, straddling_hull}
use Rattle.absmax.proofs.Classes.{kept_positive, turned_negative}
use Rattle.absmax.proofs.bare.abs_of.Goals as goal

pub canonical-requires-in-N0 : goal.canonical-requires-in-N0
canonical-requires-in-N0 c = subst⁻¹ (Bare binary64) c.mirrored.ensures (mirror_bare binary64 _ c.requires)

pub returns-in-E : goal.returns-in-E
returns-in-E c =
    kept_hull binary64 _ _ c.canonical.ensures (kept_positive c.classify.ensures c.in-E.is)

pub returns-in-M : goal.returns-in-M
returns-in-M c =
    subst⁻¹ (HullOf binary64 _) c.outward.ensures
    (straddling_hull binary64 _ c.requires (rw c.in-M.is at c.classify.ensures)
    (rw c.opposite.ensures at c.greater.ensures))

pub returns-in-N0 : goal.returns-in-N0
returns-in-N0 c =
    turned_hull binary64 _ _ c.requires (rw c.mirrored.ensures at c.canonical-in-N0.ensures)
    (turned_negative c.classify.ensures c.in-N0.is)
