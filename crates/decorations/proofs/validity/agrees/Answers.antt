-- `validity::agrees` meets its contract: each arm tests what its decoration asks.
use mathlib.Core.Path.{ap}
use Rattle.patterns.specs.Format.{binary64}
use Rattle.meaning.specs.Decorations.{Ill, Trv, Def, Dac, Com}
use Rattle.decorations.specs.DecorationMeaning.{decoration_of}
use Rattle.decorations.proofs.AgreeLaws.{answers_agree}
use borrow.Author.Rules.{rules}
use Rattle.decorations.proofs.validity.agrees.Goals as goal

pub returns-in-Ill : goal.returns-in-Ill
returns-in-Ill c =
    answers_agree binary64 c.requires Ill (ap decoration_of c.in-Ill.is)
    (search rules)

pub returns-in-Trv : goal.returns-in-Trv
returns-in-Trv c =
    answers_agree binary64 c.requires Trv (ap decoration_of c.in-Trv.is)
    (search rules)

pub returns-in-Def : goal.returns-in-Def
returns-in-Def c =
    answers_agree binary64 c.requires Def (ap decoration_of c.in-Def.is)
    (search rules)

pub returns-in-Dac : goal.returns-in-Dac
returns-in-Dac c =
    answers_agree binary64 c.requires Dac (ap decoration_of c.in-Dac.is)
    (search rules)

pub returns-in-Com : goal.returns-in-Com
returns-in-Com c =
    answers_agree binary64 c.requires Com (ap decoration_of c.in-Com.is)
    (search rules)
