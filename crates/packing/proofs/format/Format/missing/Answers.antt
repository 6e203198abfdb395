-- `packing::format::Format::missing` meets its contract: what is less than all digits is missing.
use borrow.Author.Rules.{rules}
use Rattle.packing.proofs.DigitLaws.{counted, missing}
use Rattle.packing.proofs.format.Format.missing.Goals as goal

pub returns : goal.returns
returns c =
    let (k, all, digits) = counted c.args.significand (search rules) in
    rw (c.saturating_sub.ensures, c.zeros.ensures) (missing digits _ c.args.self.narrow c.requires all)
