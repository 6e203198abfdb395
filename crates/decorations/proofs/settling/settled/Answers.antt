-- `settling::settled` meets its contract: set_dec gives the lower of the two.
use mathlib.Core.Path.{◌∙◌, ap}
use Rattle.patterns.specs.Format.{binary64}
use Rattle.meaning.specs.Pairs.{set_of}
use Rattle.meaning.specs.Decorations.{lower_of}
use Rattle.end_pairs.specs.EndPairMeaning.{pair_of}
use Rattle.decorations.specs.DecorationMeaning.{decoration_of}
use Rattle.decorations.proofs.DecorationLaws.{settled_lower}
use Rattle.decorations.proofs.settling.settled.Goals as goal

pub returns : goal.returns
returns c =
    let a = c.args in
    c.lower_decoration.ensures ∙ ap (lower_of (decoration_of a.d)) c.highest.ensures
    ∙ settled_lower (set_of binary64 (pair_of a.x)) (decoration_of a.d)
