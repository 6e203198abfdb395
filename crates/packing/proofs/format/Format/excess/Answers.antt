-- `packing::format::Format::excess` meets its contract: what is more than all digits is too many.
use borrow.Author.Rules.{rules}
use Rattle.packing.proofs.DigitLaws.{counted, excess}
use Rattle.packing.proofs.format.Format.excess.Goals as goal

pub returns : goal.returns
returns c =
    let (k, all, digits) = counted c.args.significand (search rules) in
    rw (c.saturating_sub.ensures, c.zeros.ensures) (excess digits _ all)
