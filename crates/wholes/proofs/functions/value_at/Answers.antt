-- `functions::value_at` meets its contract: a negative number goes by the mirrored function of its magnitude.
use Rattle.patterns.specs.Format.{binary64, sign_bit}
use Rattle.wholes.proofs.SignedLaws.{positive_finite, negative_finite, made_positive, made_negative}
use Rattle.wholes.proofs.functions.value_at.Goals as goal

pub value_at_magnitude-requires : goal.value_at_magnitude-requires
unfolding sign_bit
value_at_magnitude-requires c = positive_finite binary64 c.requires c.if-b-lt-SIGN.true

pub returns-then-b-lt-SIGN : goal.returns-then-b-lt-SIGN
returns-then-b-lt-SIGN c = made_positive binary64 c.value_at_magnitude.ensures

pub value_at_magnitude-requires-2 : goal.value_at_magnitude-requires-2
unfolding sign_bit
value_at_magnitude-requires-2 c = negative_finite binary64 c.requires c.if-b-lt-SIGN.false

pub returns : goal.returns
unfolding sign_bit
returns c =
    made_negative binary64 c.mirrored.ensures c.requires
    c.if-b-lt-SIGN.false c.value_at_magnitude-2.ensures c.negative.ensures
