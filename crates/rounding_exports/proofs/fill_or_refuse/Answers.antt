-- `rounding_exports::fill_or_refuse` meets its contract: the lengths are tried first, then the rows, and then all are filled.
use mathlib.Core.Path.{refl}
use borrow.Author.Rules.{rules}
use Rattle.truth.proofs.AnswerLaws.{said_yes, said_no}
use Rattle.meaning.proofs.CalledLaws.{pass, stop, written}
use Rattle.rounding_exports.specs.Columns.{filled_by}
use Rattle.rounding_exports.proofs.fill_or_refuse.Goals as goal

pub returns-then-b-a : goal.returns-then-b-a
returns-then-b-a c = stop c.if-b-a.true

pub returns-then-out-a : goal.returns-then-out-a
returns-then-out-a c = pass (search rules) (stop c.if-out-a.true)

pub returns-then-not-takes_rows : goal.returns-then-not-takes_rows
returns-then-not-takes_rows c =
    pass (search rules) (pass (search rules) (stop (said_no c.takes_rows.ensures c.if-not-takes_rows.true)))

pub fill-requires : goal.fill-requires
fill-requires c = (search rules, search rules, said_yes c.takes_rows.ensures c.if-not-takes_rows.false)

pub returns : goal.returns
returns c =
    pass (search rules)
    (pass (search rules)
    (pass (said_yes c.takes_rows.ensures c.if-not-takes_rows.false)
    (written (filled_by c.fill.ensures) refl)))
