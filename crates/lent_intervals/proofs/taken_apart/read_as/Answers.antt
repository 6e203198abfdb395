-- `taken_apart::read_as` meets its contract: NaI's constant has the ends of every NaI, and other ends are kept as they are.
use mathlib.Core.Path.{sym}
use Rattle.patterns.specs.Format.{binary64, infinity, quiet_nan}
use Rattle.meaning.proofs.KindLaws.{nans_spelt}
use Rattle.meaning.proofs.SpellingLaws.{dec_pair}
use Rattle.truth.proofs.AnswerLaws.{said_yes}
use Rattle.lent_intervals.proofs.ReadLaws.{good_agrees}
use Rattle.lent_intervals.proofs.taken_apart.read_as.Goals as goal

pub returns-then-are_nans : goal.returns-then-are_nans
unfolding infinity quiet_nan
returns-then-are_nans c =
    let n = said_yes c.are_nans.ensures c.if-are_nans.true in
    sym (dec_pair (nans_spelt binary64 n) ((good_agrees c.requires).nans_ill n))
