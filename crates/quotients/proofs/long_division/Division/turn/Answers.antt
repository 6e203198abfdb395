-- `quotients::long_division::Division::turn` meets its contract: the digit and what it leaves make the value again.
use Rattle.quotients.proofs.Digits.{turned}
use Rattle.quotients.proofs.long_division.Division.turn.Goals as goal

pub returns-clause-value : goal.returns-clause-value
returns-clause-value c =
    let d = c.args.self in
    turned d.quotient d.divisor d.rest c.requires d.short d.small
