-- `strict::passes_down` meets its contract: what is below is above in the mirror.
use Rattle.patterns.specs.Format.{binary64}
use Rattle.comparison_laws.proofs.AscendingLaws.{strict}
use Rattle.boolean.proofs.MirrorTests.{mirror_bares, answers_below}
use Rattle.boolean.proofs.strict.passes_down.Goals as goal

pub passes-requires : goal.passes-requires
passes-requires c = mirror_bares binary64 c.requires c.mirrored.ensures c.mirrored-2.ensures

pub returns : goal.returns
returns c =
    answers_below binary64 strict c.requires c.mirrored.ensures c.mirrored-2.ensures c.passes.ensures
