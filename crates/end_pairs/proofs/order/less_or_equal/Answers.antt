-- `order::less_or_equal` meets its contract: the order of keys is the order of values.
use Rattle.patterns.specs.Format.{binary64, sign_bit}
use Rattle.end_pairs.proofs.KeyLaws.{answers_keys}
use Rattle.end_pairs.proofs.order.less_or_equal.Goals as goal

pub returns : goal.returns
unfolding sign_bit
returns c =
    rw (c.key.ensures, c.key-2.ensures)
    (answers_keys binary64 c.ranges.a.fits c.ranges.b.fits)
