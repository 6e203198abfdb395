-- `made::canonical_dec` meets its contract: NaI is answered by its constant, any other by its tidied ends.
use mathlib.Core.Path.{refl, subst⁻¹}
use Rattle.patterns.specs.Format.{binary64, infinity, quiet_nan}
use Rattle.meaning.specs.Bytes.{Tidied, tidied_nai, tidied_interval}
use Rattle.truth.proofs.AnswerLaws.{said_yes, said_no}
use Rattle.meaning.proofs.KindLaws.{only_bare}
use Rattle.dec_interval.proofs.made.canonical_dec.Goals as goal

pub returns-then-are_nans : goal.returns-then-are_nans
unfolding infinity quiet_nan
returns-then-are_nans c = tidied_nai (said_yes c.are_nans.ensures c.if-are_nans.true)

pub canonical-requires : goal.canonical-requires
canonical-requires c = only_bare binary64 c.requires (said_no c.are_nans.ensures c.if-are_nans.false)

pub from_ends-requires : goal.from_ends-requires
from_ends-requires c = c.canonical.ensures.canonical.bare

pub returns : goal.returns
returns c =
    tidied_interval (said_no c.are_nans.ensures c.if-are_nans.false)
    (subst⁻¹ (Tidied binary64 _) c.from_ends.ensures c.canonical.ensures) refl
